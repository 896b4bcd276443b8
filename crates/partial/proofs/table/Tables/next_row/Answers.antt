use Rattle.std.proofs.Common.{◌+◌, arith}
use Rattle.partial.specs.Table.{cleared, spread, next_row}
use Rattle.partial.proofs.Changes.{one_more, all_done, both_changes}
use Rattle.partial.proofs.table.Tables.next_row.Goals as goal

pub loop-class-preserved : goal.loop-class-preserved
loop-class-preserved c = one_more _ _ c.clear_row.new.self c.loop-class.class-index _ (omega arith) c.loop-class.invariant c.extend.ensures

pub returns : goal.returns
unfolding next_row spread
returns c =
    both_changes (cleared (c.args.stage.aisle + 1)) _ c.clear_row.ensures (all_done _ _ c.clear_row.new.self c.loop-class.class-index (omega arith) c.loop-class.invariant)
