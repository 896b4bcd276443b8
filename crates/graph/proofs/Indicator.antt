-- The indicator of a decision is 1 where it says yes and 0 where it says no. Assumes nothing.
use mathlib.Core.Path.{◌≡◌, refl}
use Prim.Native.Nat.{◌≤◌, ◌<◌}
use native.Mathlib.Omega.{arith}
use Rattle.graph.specs.Graph.{indicator}

pub indicator_yes : {A : Type 0} (d : Dec A) → A → indicator d ≡ 1
unfolding indicator
indicator_yes (yes p) a = refl
indicator_yes (no p) a = absurd (p a)

pub indicator_no : {A : Type 0} (d : Dec A) → ¬ A → indicator d ≡ 0
unfolding indicator
indicator_no (yes p) a = absurd (a p)
indicator_no (no p) a = refl

pub indicator_small : {A : Type 0} (d : Dec A) → indicator d ≤ 1
unfolding indicator
indicator_small (yes p) = omega arith
indicator_small (no p) = omega arith

-- where the indicator is positive the statement holds
pub indicator_holds : {A : Type 0} (d : Dec A) → 0 < indicator d → A
unfolding indicator
indicator_holds (yes p) h = p
indicator_holds (no p) h = absurd (omega arith)
