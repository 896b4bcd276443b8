use Rattle.classes.proofs.Rule.{closings_by_rule}
use Rattle.classes.proofs.laws.closings_by_rule.Goals as goal

pub returns : goal.returns
returns c = closings_by_rule
