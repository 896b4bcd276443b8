use Rattle.std.proofs.Common.{sym}
use Rattle.house.proofs.Pairs.{picks_count}
use Rattle.text.proofs.claims.pick_count.Goals as goal

pub returns : goal.returns
returns c = sym (picks_count c.args.list.now)
