use Rattle.std.proofs.Common.{refl}
use Rattle.house.specs.Bounds.{picks_of}
use Rattle.euler.proofs.Touched.{misses_round, touched_past}
use Rattle.euler.proofs.walking.walk_past.Goals as goal

pub returns-then-not-touches_all : goal.returns-then-not-touches_all
returns-then-not-touches_all c =
    (c.requires.1, misses_round _ _ (λ i l. (c.args.picks.on_shelves i l).0) c.if-not-touches_all.ensures, (refl, refl))

pub returns : goal.returns
returns c =
    touched_past _ _ (picks_of c.args.picks.bytes.now) c.walk_over.new.uses c.args.steps.now c.walk_over.new.steps c.walk_over.result c.if-not-touches_all.ensures c.walk_over.ensures
