use Rattle.classes.proofs.Rule.{transitions_by_rule}
use Rattle.classes.proofs.laws.transitions_by_rule.Goals as goal

pub returns : goal.returns
returns c = transitions_by_rule
