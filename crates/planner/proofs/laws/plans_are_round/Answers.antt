use Rattle.planner.proofs.RoundPlans.{plans_are_round}
use Rattle.planner.proofs.laws.plans_are_round.Goals as goal

pub returns : goal.returns
returns c = plans_are_round
