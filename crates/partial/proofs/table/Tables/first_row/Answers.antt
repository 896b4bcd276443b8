use Rattle.std.proofs.Common.{arith}
use Rattle.partial.specs.Table.{cleared, first_row}
use Rattle.partial.proofs.Changes.{one_more, all_done, both_changes}
use Rattle.partial.proofs.table.Tables.first_row.Goals as goal

pub loop-effect-preserved : goal.loop-effect-preserved
loop-effect-preserved c = one_more _ _ c.clear_row.new.self c.loop-effect.effect-index _ (omega arith) c.loop-effect.invariant c.open.ensures

pub returns : goal.returns
unfolding first_row
returns c = both_changes (cleared 0) _ c.clear_row.ensures (all_done _ _ c.clear_row.new.self c.loop-effect.effect-index (omega arith) c.loop-effect.invariant)
