use Rattle.std.proofs.Common.{rules, ap, ◌∙◌}
use Rattle.walk.specs.declared.verdict.Verdict.TheVariants.{Way}
use Rattle.walk.proofs.Judge.{verdict_by_marks}
use Rattle.walk.proofs.checker.judged.Goals as goal

pub returns-in-Some : goal.returns-in-Some
returns-in-Some c = verdict_by_marks c.args.picks c.args.way.now c.requires.leads c.requires.marks (search rules) c.first_missed.ensures c.in-Some.is

pub returns-in-None : goal.returns-in-None
returns-in-None c = ap Way c.measure.ensures ∙ verdict_by_marks c.args.picks c.args.way.now c.requires.leads c.requires.marks (search rules) c.first_missed.ensures c.in-None.is
