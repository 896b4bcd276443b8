use Rattle.std.proofs.Common.{◌-◌}
use Rattle.partial.proofs.table.Tables.+fill.Given as goal

-- the aisles that are left
abbrev pub decreases-fill : goal.decreases-fill
decreases-fill l = l.house.aisles - l.aisle
