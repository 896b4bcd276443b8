use Rattle.planner.proofs.EnoughPlans.{plans_enough}
use Rattle.planner.proofs.laws.plans_enough.Goals as goal

pub returns : goal.returns
returns c = plans_enough
