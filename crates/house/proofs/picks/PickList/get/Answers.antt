use Rattle.std.proofs.Common.{sym, arith}
use Rattle.house.specs.House.{desk}
use Rattle.house.proofs.Pairs.{pick_at, picks_count}
use Rattle.house.proofs.picks.PickList.get.Goals as goal

pub returns-then-i-len : goal.returns-then-i-len
returns-then-i-len c = (omega arith, sym (pick_at c.args.self.bytes.now c.args.i desk (omega (arith, picks_count c.args.self.bytes.now))))
