use Rattle.euler.proofs.Parting.{never_parts}
use Rattle.euler.proofs.laws.never_parts.Goals as goal

pub returns : goal.returns
returns c = never_parts
