-- A number where a statement holds, else 0. Assumes nothing.
use mathlib.Core.Path.{◌≡◌, refl}
use Prim.Native.Nat.{ℕ, suc, ◌+◌, ◌<◌}
use native.Mathlib.Omega.{arith}
use Rattle.graph.specs.Graph.{indicator}

unfoldable pub weight : {A : Type 0} → Dec A → ℕ → ℕ
weight (yes p) m = m
weight (no p) m = 0

pub weight_yes : {A : Type 0} (d : Dec A) → A → (m : ℕ) → weight d m ≡ m
unfolding weight
weight_yes (yes p) a m = refl
weight_yes (no p) a m = absurd (p a)

pub weight_no : {A : Type 0} (d : Dec A) → ¬ A → (m : ℕ) → weight d m ≡ 0
unfolding weight
weight_no (yes p) a m = absurd (a p)
weight_no (no p) a m = refl

-- where the weight is positive the statement holds
pub weight_holds : {A : Type 0} (d : Dec A) (m : ℕ) → 0 < weight d m → A
unfolding weight
weight_holds (yes p) m h = p
weight_holds (no p) m h = absurd (omega arith)

pub weight_none : {A : Type 0} (d : Dec A) → weight d 0 ≡ 0
unfolding weight
weight_none (yes p) = refl
weight_none (no p) = refl

pub weight_more : {A : Type 0} (d : Dec A) (m : ℕ) → weight d (suc m) ≡ weight d m + indicator d
unfolding weight indicator
weight_more (yes p) m = omega arith
weight_more (no p) m = omega arith
