use Rattle.uses.proofs.Twice.{twice_enough}
use Rattle.uses.proofs.theorems.twice_enough.Goals as goal

pub returns : goal.returns
returns c = twice_enough
