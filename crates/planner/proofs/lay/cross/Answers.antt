use Rattle.std.proofs.Common.{arith, length-set}
use Rattle.house.specs.Reading.{house_of}
use Rattle.uses.proofs.Places.{lanes_few}
use Rattle.planner.proofs.lay.cross.Goals as goal

pub bounds-uses-front : goal.bounds-uses-front
bounds-uses-front c = omega (arith, lanes_few (house_of c.args.house) c.args.house.few_aisles c.args.house.little_depth)

pub bounds-uses-back : goal.bounds-uses-back
bounds-uses-back c =
    simp length-set (omega (arith, lanes_few (house_of c.args.house) c.args.house.few_aisles c.args.house.little_depth))
