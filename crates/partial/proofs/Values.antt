-- The lists of values that the code goes through. Assumes nothing.
use Rattle.std.proofs.Common.{List, [], ◌∷◌}
use Rattle.aisle.specs.declared.kinds.Effect.{Effect}
use Rattle.aisle.specs.declared.kinds.Effect.TheVariants.{Nothing, FromFront, FromBack, BothEnds, ThroughOnce, ThroughTwice}
use Rattle.classes.specs.declared.class.Class.{Class}
use Rattle.classes.specs.declared.class.Class.TheVariants.{OddOdd, EvenBack, EvenFront, EvenOne, EvenTwo, NothingYet, Closed}
use Rattle.classes.specs.declared.class.Passage.{Passage}
use Rattle.classes.specs.declared.class.Passage.TheVariants.{None, OneEach, TwoFront, TwoBack, TwoEach}

abbrev pub all_effects : List Effect
all_effects = Nothing ∷ FromFront ∷ FromBack ∷ BothEnds ∷ ThroughOnce ∷ ThroughTwice ∷ []

abbrev pub all_classes : List Class
all_classes = OddOdd ∷ EvenBack ∷ EvenFront ∷ EvenOne ∷ EvenTwo ∷ NothingYet ∷ Closed ∷ []

abbrev pub all_moves : List (Class × Passage)
all_moves =
    (OddOdd, OneEach) ∷ (EvenBack, None) ∷ (EvenBack, TwoBack) ∷ (EvenBack, TwoEach) ∷ (EvenFront, None) ∷ (EvenFront, TwoFront) ∷ (EvenFront, TwoEach) ∷ (EvenOne, None) ∷ (EvenOne, TwoFront) ∷ (EvenOne, TwoBack) ∷ (EvenOne, TwoEach) ∷ (EvenTwo, TwoEach) ∷ (NothingYet, None) ∷ (NothingYet, TwoFront) ∷ (NothingYet, TwoBack) ∷ (NothingYet, TwoEach) ∷ (Closed, None) ∷ []
