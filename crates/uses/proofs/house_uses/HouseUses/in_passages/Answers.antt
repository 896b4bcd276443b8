use Rattle.std.proofs.Common.{arith}
use Rattle.house.specs.Reading.{house_of}
use Rattle.uses.proofs.HeldCost.{passages_sum}
use Rattle.uses.proofs.house_uses.HouseUses.in_passages.Goals as goal

pub returns-clause-is : goal.returns-clause-is
returns-clause-is c = grind (arith, c.sum.ensures.is, passages_sum c.args.self.entries.now (house_of c.args.self.house) c.args.self.room)
