-- What follows for any measure that adds up over the edges: it is 0 of nothing, monotone, and grows by an edge's worth with each use. Assumes nothing.
use mathlib.Core.Path.{◌≡◌, refl, ap₂, subst}
use mathlib.Core.Logic.{inl, inr, ⊎_swap}
use Prim.Native.Nat.{ℕ, ◌+◌, ◌-◌, ◌≤◌, ◌<◌}
use native.Mathlib.Omega.{arith}
use native.Mathlib.Decide.{dec_lt}
use Rattle.graph.specs.Graph.{Graph, Adds, Laws, Ends, one, ends_at}
use Rattle.graph.specs.Trails.{same_spot}
use Rattle.graph.proofs.Indicator.{indicator_yes, indicator_no, indicator_small}

-- what is used at all is used once at least
pub one_of_used : (G : Graph) (u : G.Edge → ℕ) (e x : G.Edge) → 0 < u e → one G e x ≤ u x
unfolding one
one_of_used G u e x p =
    elim (G.edge_dec e x) [
      | yes z ↦ omega (arith, indicator_small (G.edge_dec e x), subst (λ y. 0 < u y) z p)
      | no z ↦ omega (arith, indicator_no (G.edge_dec e x) z)
    ]

module _ (G : Graph) {F : (G.Edge → ℕ) → ℕ} {worth : G.Edge → ℕ} (adds : Adds G F worth) where
  pub sum_nothing : (u : G.Edge → ℕ) → ((e : G.Edge) → G.In e → u e ≡ 0) → F u ≡ 0
  sum_nothing u z = omega (arith, adds.add u u u (λ e i. omega (arith, z e i)))

  -- only the edges that are there count
  pub sum_alike : (u v : G.Edge → ℕ) → ((e : G.Edge) → G.In e → u e ≡ v e) → F u ≡ F v
  sum_alike u v same = omega (arith, adds.add v (λ e. 0) u (λ e i. omega (arith, same e i)), sum_nothing (λ e. 0) (λ e i. omega arith))

  pub sum_monotone : (u v : G.Edge → ℕ) → ((e : G.Edge) → G.In e → u e ≤ v e) → F u ≤ F v
  sum_monotone u v less = omega (arith, adds.add u (λ e. v e - u e) v (λ e i. omega (arith, less e i)))

  -- one use more adds the edge's worth
  pub sum_one_more : (u w : G.Edge → ℕ) (e : G.Edge) → G.In e → ((x : G.Edge) → G.In x → w x ≡ u x + one G e x) → F w ≡ F u + worth e
  sum_one_more u w e i more = omega (arith, adds.add u (one G e) w more, adds.single e i)

  -- an edge in use adds its worth at least
  pub sum_of_used : (u : G.Edge → ℕ) (e : G.Edge) → G.In e → 0 < u e → worth e ≤ F u
  sum_of_used u e i p = omega (arith, sum_monotone (one G e) u (λ x j. one_of_used G u e x p), adds.single e i)

  -- where an edge is worth something and the sum is 0, the edge is not in use
  pub sum_zero_unused : (u : G.Edge → ℕ) (e : G.Edge) → G.In e → 0 < worth e → F u ≡ 0 → u e ≡ 0
  sum_zero_unused u e i p z = elim (dec_lt 0 (u e)) [ yes q ↦ absurd (omega (arith, sum_of_used u e i q)) | no q ↦ omega arith ]

-- the uses of one edge add up, and so do two measures taken together
pub adds_one_edge : (G : Graph) (a : G.Edge) → G.In a → Adds G (λ u. u a) (λ e. one G e a)
adds_one_edge G a i = record { add = λ u v w sum. sum a i; single = λ e j. refl }

pub adds_together :
    (G : Graph) {F H : (G.Edge → ℕ) → ℕ} {f h : G.Edge → ℕ} → Adds G F f → Adds G H h → Adds G (λ u. F u + H u) (λ e. f e + h e)
adds_together G a b =
    record {
      add = λ u v w sum. omega (arith, a.add u v w sum, b.add u v w sum);
      single = λ e i. omega (arith, a.single e i, b.single e i);
    }

-- an edge from s to t has one end at s and one at t
pub ends_at_both : (G : Graph) (x : G.Spot) {s t : G.Spot} (e : G.Edge) → Ends G e s t → ends_at G x e ≡ same_spot G s x + same_spot G t x
unfolding ends_at
ends_at_both G x e (inl (a, b)) = ap₂ (λ p q. same_spot G p x + same_spot G q x) a b
ends_at_both G x e (inr (a, b)) = omega (arith, ap₂ (λ p q. same_spot G p x + same_spot G q x) a b)

module _ (G : Graph) {size : (G.Edge → ℕ) → ℕ} (laws : Laws G size) where
  -- one use more adds one at each end of the edge
  pub degree_one_more :
      (u w : G.Edge → ℕ) {s t : G.Spot} (e : G.Edge) → G.In e → Ends G e s t → ((y : G.Edge) → G.In y → w y ≡ u y + one G e y) → (x : G.Spot) →
      G.deg w x ≡ G.deg u x + same_spot G s x + same_spot G t x
  degree_one_more u w e i ends more x = omega (arith, sum_one_more G (laws.degree x) u w e i more, ends_at_both G x e ends)

  -- an edge in use touches both its ends
  pub degree_at_start : (u : G.Edge → ℕ) {s t : G.Spot} (e : G.Edge) → G.In e → 0 < u e → Ends G e s t → 0 < G.deg u s
  degree_at_start u {s} e i p ends =
      omega (arith, sum_of_used G (laws.degree s) u e i p, ends_at_both G s e ends, indicator_yes (G.spot_dec s s) refl)

  pub degree_at_end : (u : G.Edge → ℕ) {s t : G.Spot} (e : G.Edge) → G.In e → 0 < u e → Ends G e s t → 0 < G.deg u t
  degree_at_end u e i p ends = degree_at_start u e i p (⊎_swap ends)
