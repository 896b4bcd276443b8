use Rattle.aisle.proofs.Enough.{neighbours_enough}
use Rattle.aisle.proofs.laws.neighbours_enough.Goals as goal

pub returns : goal.returns
returns c = neighbours_enough
