use Rattle.uses.proofs.UsedBy.{used_by_walk}
use Rattle.uses.proofs.theorems.used_by_walk.Goals as goal

pub returns : goal.returns
returns c = used_by_walk
