use Rattle.uses.proofs.Passages.{passages}
use Rattle.uses.proofs.theorems.passages_are_even.Goals as goal

pub returns : goal.returns
returns c = passages
