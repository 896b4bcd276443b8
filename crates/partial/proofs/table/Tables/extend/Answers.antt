use Rattle.std.proofs.Common.{arith}
use Rattle.partial.specs.Table.{extend}
use Rattle.partial.proofs.Changes.{one_more, all_done}
use Rattle.partial.proofs.table.Tables.extend.Goals as goal

pub loop-effect-preserved : goal.loop-effect-preserved
loop-effect-preserved c = one_more _ _ c.args.self.now c.loop-effect.effect-index _ (omega arith) c.loop-effect.invariant c.go.ensures

pub returns : goal.returns
unfolding extend
returns c = all_done _ _ c.args.self.now c.loop-effect.effect-index (omega arith) c.loop-effect.invariant
