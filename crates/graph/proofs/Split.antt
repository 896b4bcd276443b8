-- A whole tour in two parts with nothing between them: where the first part is live, it is whole, and the second part is nothing. Assumes nothing.
use mathlib.Core.Path.{◌≡◌, refl}
use mathlib.Core.Logic.{inl, inr}
use Prim.Native.Nat.{ℕ, ◌<◌}
use native.Mathlib.Omega.{arith}
use native.Mathlib.Decide.{dec_lt}
use Rattle.graph.specs.Graph.{Graph, Laws, Ends}
use Rattle.graph.proofs.Sums.{degree_at_start, degree_at_end}
use Rattle.graph.proofs.Links.{keeps, linked_more}
use Rattle.graph.proofs.State.{Whole, load}
use Rattle.graph.proofs.Together.{Together, used_in, load_together}

module _ (G : Graph) where
  -- the first part is live at spots of Done only, the second part is live elsewhere only
  pub record Split (Done : G.Spot → Type 0) (n m : G.Spot → ℕ) (u v : G.Edge → ℕ) : Type 0 where
    pub beginning : (x : G.Spot) → ¬ Done x → load G n u x ≡ 0
    pub beyond : (x : G.Spot) → Done x → load G m v x ≡ 0

module _ (G : Graph) {size : (G.Edge → ℕ) → ℕ} (laws : Laws G size)
    {Done : G.Spot → Type 0} {n m l : G.Spot → ℕ} {u v w : G.Edge → ℕ}
    (split : Split G Done n m u v) (both : Together G n m l u v w) (whole : Whole G l w) (s : G.Spot) (start : Done s) (live : 0 < load G l w s) where
  -- the second part is live nowhere
  pub cut_nothing : (x : G.Spot) → load G m v x ≡ 0
  cut_nothing x = elim (dec_lt 0 (load G m v x)) [ yes p ↦ absurd (stays_done p) | no p ↦ omega arith ]
    where
      carries : (e : G.Edge) (x y : G.Spot) → G.In e → 0 < w e → Ends G e x y → ¬ ¬ Done x → ¬ ¬ Done y
      carries e x y there p leads old new =
          elim (used_in G both e there p) [
            | inl q ↦ omega (arith, split.beginning y new, degree_at_end G laws u e there q leads)
            | inr q ↦ old (λ done. omega (arith, split.beyond x done, degree_at_start G laws v e there q leads))
          ]

      stays_done : 0 < load G m v x → ⊥
      stays_done p =
          let link = whole.linked s x live (omega (arith, load_together G both laws x)) in
          keeps G (λ y. ¬ ¬ Done y) carries link (λ new. new start) (λ done. omega (arith, split.beyond x done))

  -- and uses nothing
  pub cut_unused : (e : G.Edge) → G.In e → v e ≡ 0
  cut_unused e there =
      elim (dec_lt 0 (v e)) [
        | yes p ↦ absurd (omega (arith, cut_nothing (G.src e), degree_at_start G laws v e there p (inl (refl, refl))))
        | no p ↦ omega arith
      ]

  -- so the first part is whole
  pub cut_whole : Whole G n u
  cut_whole =
      record {
        even = λ x. omega (arith, loads x, whole.even x);
        linked = λ x y p q. linked_more G used (whole.linked x y (omega (arith, loads x)) (omega (arith, loads y)));
      }
    where
      used : (e : G.Edge) → G.In e → 0 < w e → 0 < u e
      used e there p = omega (arith, cut_unused e there, both.uses e there)

      loads : (x : G.Spot) → load G l w x ≡ load G n u x
      loads x = omega (arith, load_together G both laws x, cut_nothing x)
