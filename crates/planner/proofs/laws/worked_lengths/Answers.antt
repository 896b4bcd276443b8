use Rattle.planner.proofs.Worked.{worked_lengths}
use Rattle.planner.proofs.laws.worked_lengths.Goals as goal

pub returns : goal.returns
returns c = worked_lengths
