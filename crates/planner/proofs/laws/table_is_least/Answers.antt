use Rattle.planner.proofs.LeastTable.{table_is_least}
use Rattle.planner.proofs.laws.table_is_least.Goals as goal

pub returns : goal.returns
returns c = table_is_least
