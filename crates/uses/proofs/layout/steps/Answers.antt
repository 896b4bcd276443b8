use Rattle.std.proofs.Common.{arith}
use Rattle.house.specs.Reading.{house_of}
use Rattle.uses.proofs.Places.{lanes_few}
use Rattle.uses.proofs.layout.steps.Goals as goal

pub returns-clause-few : goal.returns-clause-few
returns-clause-few c = omega (arith, lanes_few (house_of c.args.house) (omega arith) (omega arith))
