-- Numbers and spots compared: 1 where two are the same, else 0. Assumes nothing.
use Rattle.std.proofs.Common.{◌≡◌, ℕ, suc, sym, ap, arith}
use native.Mathlib.Decide.{ℕ_discrete}
use Rattle.graph.specs.Graph.{indicator}
use Rattle.graph.proofs.Indicator.{indicator_yes, indicator_no}
use Rattle.house.specs.House.{Spot, spot}
use Rattle.uses.specs.Edges.{spot_dec}

-- equivalent statements have equal indicators
pub indicator_alike : {A B : Type 0} (d : Dec A) (e : Dec B) → (A → B) → (B → A) → indicator d ≡ indicator e
unfolding indicator
indicator_alike (yes p) e f g = sym (indicator_yes e (f p))
indicator_alike (no p) e f g = sym (indicator_no e (λ b. p (g b)))

abbrev pub same : ℕ → ℕ → ℕ
same j k = indicator (ℕ_discrete j k)

pub same_here : (j k : ℕ) → j ≡ k → same j k ≡ 1
same_here j k e = indicator_yes (ℕ_discrete j k) e

pub same_not : (j k : ℕ) → ¬ (j ≡ k) → same j k ≡ 0
same_not j k n = indicator_no (ℕ_discrete j k) n

pub same_suc : (j k : ℕ) → same j k ≡ same (suc j) (suc k)
same_suc j k = indicator_alike (ℕ_discrete j k) (ℕ_discrete (suc j) (suc k)) (λ e. ap suc e) (λ e. omega arith)

abbrev pub same_spot : Spot → Spot → ℕ
same_spot s t = indicator (spot_dec s t)

aisle_of : {s t : Spot} → s ≡ t → s.aisle ≡ t.aisle
aisle_of e = ap (λ (s : Spot). s.aisle) e

depth_of : {s t : Spot} → s ≡ t → s.depth ≡ t.depth
depth_of e = ap (λ (s : Spot). s.depth) e

module _ (a b y z : ℕ) where
  -- in one aisle spots differ by their depths, and at one depth by their aisles
  pub same_by_depth : a ≡ b → same_spot (spot a y) (spot b z) ≡ same y z
  same_by_depth p = indicator_alike (spot_dec (spot a y) (spot b z)) (ℕ_discrete y z) depth_of (λ q. cc)

  pub same_by_aisle : y ≡ z → same_spot (spot a y) (spot b z) ≡ same a b
  same_by_aisle q = indicator_alike (spot_dec (spot a y) (spot b z)) (ℕ_discrete a b) aisle_of (λ p. cc)

  pub other_aisle : ¬ (a ≡ b) → same_spot (spot a y) (spot b z) ≡ 0
  other_aisle n = indicator_no (spot_dec (spot a y) (spot b z)) (λ e. n (aisle_of e))

  pub other_depth : ¬ (y ≡ z) → same_spot (spot a y) (spot b z) ≡ 0
  other_depth n = indicator_no (spot_dec (spot a y) (spot b z)) (λ e. n (depth_of e))
