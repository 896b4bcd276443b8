-- A cut: uses that are Eulerian cross between two sides an even number of times, and where they link both sides they do cross. Assumes nothing.
use mathlib.Core.Path.{◌≡◌, refl, ap}
use mathlib.Core.Logic.{inl, inr}
use Prim.Native.Nat.{ℕ, ◌+◌, ◌%◌, ◌<◌}
use native.Mathlib.Omega.{arith}
use native.Mathlib.Decide.{dec_lt}
use Rattle.graph.specs.Graph.{Graph, Adds, Laws, Ends, Linked, Trail, stay, on}
use Rattle.graph.specs.Trails.{total, Eulerian, Walks}
use Rattle.graph.proofs.Euler.{eulerian_is_walked}
use Rattle.graph.proofs.Links.{keeps}
use Rattle.graph.proofs.Sums.{sum_of_used}
use Rattle.graph.proofs.Walked.{walks_worth}

-- the side of each spot is odd or even, and the worth of an edge is odd where it leads from side to side
pub record Cut (G : Graph) (side : G.Spot → ℕ) (worth : G.Edge → ℕ) : Type 0 where
  pub across : (e : G.Edge) → G.In e → (worth e + side (G.src e) + side (G.dst e)) % 2 ≡ 0

module _ (G : Graph) {side : G.Spot → ℕ} {worth : G.Edge → ℕ} (cut : Cut G side worth) where
  cut_edge : {s t : G.Spot} (e : G.Edge) → G.In e → Ends G e s t → (worth e + side s + side t) % 2 ≡ 0
  cut_edge e i (inl (a, b)) = omega (arith, cut.across e i, ap side a, ap side b)
  cut_edge e i (inr (a, b)) = omega (arith, cut.across e i, ap side a, ap side b)

  cut_trail : {s t : G.Spot} (w : Trail G s t) → (total G worth w + side s + side t) % 2 ≡ 0
  unfolding total
  cut_trail stay = omega arith
  cut_trail (on w e i ends) = omega (arith, cut_trail w, cut_edge e i ends)

  module _ {F : (G.Edge → ℕ) → ℕ} (adds : Adds G F worth) where
    -- Eulerian uses cross the cut an even number of times, with one more where s and t are on two sides
    pub cut_even : {size : (G.Edge → ℕ) → ℕ} → Laws G size → {u : G.Edge → ℕ} {s t : G.Spot} → Eulerian G u s t → (F u + side s + side t) % 2 ≡ 0
    cut_even laws {u} {s} {t} euler = by (eulerian_is_walked G laws euler)
      where
        by : Walks G u s t → (F u + side s + side t) % 2 ≡ 0
        by k = omega (arith, cut_trail k.trail, walks_worth G adds k)

    -- a link between the two sides crosses the cut
    pub cut_crossed : {u : G.Edge → ℕ} {s t : G.Spot} → Linked G u s t → (side s + side t) % 2 ≡ 1 → 0 < F u
    cut_crossed {u} {s} {t} l odd = elim (dec_lt 0 (F u)) [ yes p ↦ p | no p ↦ absurd (omega (arith, same_side p)) ]
      where
        same_side : ¬ (0 < F u) → side t % 2 ≡ side s % 2
        same_side p =
            keeps G (λ x. side x % 2 ≡ side s % 2) (λ e x y i q ends k. omega (arith, cut_edge e i ends, sum_of_used G adds u e i q)) l refl
