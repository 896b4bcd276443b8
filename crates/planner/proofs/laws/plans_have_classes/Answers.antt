use Rattle.planner.proofs.PlanClasses.{plans_have_classes}
use Rattle.planner.proofs.laws.plans_have_classes.Goals as goal

pub returns : goal.returns
returns c = plans_have_classes
