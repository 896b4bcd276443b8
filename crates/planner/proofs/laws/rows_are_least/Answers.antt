use Rattle.planner.proofs.Rows.{rows_are_least}
use Rattle.planner.proofs.laws.rows_are_least.Goals as goal

pub returns : goal.returns
returns c = rows_are_least
