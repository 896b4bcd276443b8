-- The table that is filled for a list in order holds the least cost of a plan for each aisle and class. Assumes nothing.
use Rattle.std.proofs.Common.{arith}
use Rattle.aisle.specs.Order.{sorted}
use Rattle.partial.specs.Filling.{filled}
use Rattle.planner.specs.Came.{row_of}
use Rattle.planner.specs.Laying.{part_at}
use Rattle.planner.specs.Promise.{TableIsLeast}
use Rattle.planner.proofs.FilledTable.{filled_table}
use Rattle.planner.proofs.PartedPicks.{parted_picks}
use Rattle.planner.proofs.Rows.{rows_are_least}

pub table_is_least : TableIsLeast
table_is_least h picks t sound some_depth few shallow near long long_came =
    let made = filled_table h (sorted picks) sound.some_aisle few shallow near t long long_came in
    let rows = row_of (filled h h.aisles 0 (sorted picks) t).lengths in
    (parted_picks h picks (omega arith) sound, λ a l. rows_are_least h (part_at (sorted picks)) rows h.aisles made.starts made.goes a l)
