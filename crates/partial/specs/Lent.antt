-- The two tables as the code has them, in lent memory, and how they change. Assumes nothing: these are definitions.
use Rattle.std.specs.Prelude.{◌≡◌}
use Rattle.partial.specs.Table as ideal
use Rattle.partial.specs.declared.table.Tables.{Tables}

-- what the tables hold
abbrev pub held : Tables → ideal.Tables
held t = ideal.tables t.lengths.now t.came.now

-- they are the same tables, and hold what a change makes of what they held
pub record Changed (change : ideal.Tables → ideal.Tables) (was is : Tables) : Type 0 where
  pub holds : held is ≡ change (held was)
  pub same_lengths : is.lengths.ghost_name ≡ was.lengths.ghost_name
  pub same_came : is.came.ghost_name ≡ was.came.ghost_name
