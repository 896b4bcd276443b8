-- Parts of a tour in a multigraph that are live nowhere, and whole tours that are alike. Assumes nothing.
use Rattle.std.proofs.Common.{◌≡◌, ℕ, ◌<◌, ◌⊎◌, refl, ap, ◌∙◌, inl, inr, arith}
use native.Mathlib.Decide.{dec_lt}
use Rattle.graph.specs.Graph.{Graph, Laws, Linked}
use Rattle.graph.proofs.Links.{linked_more}
use Rattle.graph.proofs.Many.{many}
use Rattle.graph.proofs.State.{Whole, load, live_along}
use Rattle.graph.proofs.Sums.{sum_alike, degree_at_start}
use Rattle.graph.proofs.TwoEnds.{PartialTour}
use Rattle.graph.proofs.Weight.{weight, weight_none}

module _ (G : Graph) where
  -- an edge that is used no times is not used
  pub many_none : (a x : G.Edge) (m : ℕ) → m ≡ 0 → many G a m x ≡ 0
  many_none a x m none = ap (weight (G.edge_dec a x)) none ∙ weight_none (G.edge_dec a x)

module _ (G : Graph) {size : (G.Edge → ℕ) → ℕ} (laws : Laws G size) where
  -- only the edges that are there count, and needs count by their values
  pub whole_alike :
      {n m : G.Spot → ℕ} {u v : G.Edge → ℕ} → ((x : G.Spot) → m x ≡ n x) → ((e : G.Edge) → G.In e → v e ≡ u e) → Whole G n u → Whole G m v
  whole_alike {n} {m} {u} {v} needs uses whole =
      record {
        even = λ x. omega (arith, loads x, whole.even x);
        linked = λ x y p q. linked_more G (λ e i r. omega (arith, uses e i)) (whole.linked x y (omega (arith, loads x)) (omega (arith, loads y)));
      }
    where
      loads : (x : G.Spot) → load G m v x ≡ load G n u x
      loads x = omega (arith, needs x, sum_alike G (laws.degree x) v u uses)

  -- a part with nothing at its ends is live nowhere
  pub bare_part :
      {n : G.Spot → ℕ} {u : G.Edge → ℕ} {P Q : G.Spot} {f b j : ℕ} → f ≡ 0 → b ≡ 0 → PartialTour G n u P Q f b j → (x : G.Spot) → load G n u x ≡ 0
  bare_part {n} {u} {P} {Q} no_front no_back part x = elim (dec_lt 0 (load G n u x)) [ yes p ↦ absurd (nowhere p (part.held x p)) | no z ↦ omega arith ]
    where
      nowhere : 0 < load G n u x → Linked G u x P ⊎ Linked G u x Q → ⊥
      nowhere p (inl l) = omega (arith, live_along G laws n p l, part.at_front)
      nowhere p (inr l) = omega (arith, live_along G laws n p l, part.at_back)

  -- what touches nothing uses nothing
  pub bare_unused : (u : G.Edge → ℕ) → ((x : G.Spot) → G.deg u x ≡ 0) → (e : G.Edge) → G.In e → u e ≡ 0
  bare_unused u bare e there =
      elim (dec_lt 0 (u e)) [
        | yes p ↦ absurd (omega (arith, bare (G.src e), degree_at_start G laws u e there p (inl (refl, refl))))
        | no z ↦ omega arith
      ]
