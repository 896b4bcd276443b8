use Rattle.aisle.proofs.Enough.{kinds_enough}
use Rattle.aisle.proofs.laws.kinds_enough.Goals as goal

pub returns : goal.returns
returns c = kinds_enough
