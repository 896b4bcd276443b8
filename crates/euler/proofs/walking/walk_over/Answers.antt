use Rattle.euler.proofs.Touring.{settled_over}
use Rattle.euler.proofs.walking.walk_over.Goals as goal

pub returns : goal.returns
returns c =
    (c.requires.1, settled_over _ _ c.close.new.uses c.args.steps.now c.close.new.steps c.requires.0 c.in_ok-close.ensures)
