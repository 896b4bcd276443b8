-- The state of a part of a tour: what can be told of its uses at the ends where the rest of the tour may go on. Assumes nothing.
use mathlib.Core.Path.{◌≡◌}
use mathlib.Core.Logic.{◌⊎◌, inl, inr, ◌↔◌, ◌≢◌}
use Prim.Native.Nat.{ℕ, ◌+◌, ◌%◌, ◌<◌}
use native.Mathlib.Omega.{arith}
use Rattle.graph.specs.Graph.{Graph, Laws, Linked}
use Rattle.graph.proofs.Sums.{sum_alike}
use Rattle.graph.proofs.Links.{linked_more, touched_end}
use Rattle.graph.proofs.Class.{SameClass}

-- numbers of the ends that differ at end i only, where the new one is m
pub record ButAt {I : Type 0} (i : I) (m : ℕ) (old new : I → ℕ) : Type 0 where
  pub here : new i ≡ m
  pub others : (k : I) → k ≢ i → new k ≡ old k

module _ (G : Graph) where
  -- what counts at a spot: its needs and the uses that meet there; a spot is live if this is positive.
  -- A need is 2 where a tour must pass, 1 where it begins or ends, else 0
  abbrev pub load : (G.Spot → ℕ) → (G.Edge → ℕ) → G.Spot → ℕ
  load n u x = n x + G.deg u x

  abbrev pub IsEnd : {I : Type 0} → (I → G.Spot) → G.Spot → Type 0
  IsEnd {I} ends x = (i : I) × (x ≡ ends i)

  -- the state of uses u with needs n: at each end a number that has the class of its load, and which ends are linked;
  -- elsewhere loads are even, and every live spot is linked with some end
  pub record State {I : Type 0} (n : G.Spot → ℕ) (u : G.Edge → ℕ) (ends : I → G.Spot) (f : I → ℕ) (j : I → I → Type 0) : Type 0 where
    pub at_end : (i : I) → SameClass (load n u (ends i)) (f i)
    pub even : (x : G.Spot) → (load n u x % 2 ≡ 0) ⊎ IsEnd ends x
    pub held : (x : G.Spot) → 0 < load n u x → (i : I) × Linked G u x (ends i)
    pub linked : (i k : I) → j i k ↔ Linked G u (ends i) (ends k)

  -- a whole tour: every load is even and any two live spots are linked
  pub record Whole (n : G.Spot → ℕ) (u : G.Edge → ℕ) : Type 0 where
    pub even : (x : G.Spot) → load n u x % 2 ≡ 0
    pub linked : (x y : G.Spot) → 0 < load n u x → 0 < load n u y → Linked G u x y

module _ (G : Graph) {size : (G.Edge → ℕ) → ℕ} (laws : Laws G size) where
  -- a link from a live spot leads to live spots
  pub live_along : (n : G.Spot → ℕ) {u : G.Edge → ℕ} {s t : G.Spot} → 0 < load G n u s → Linked G u s t → 0 < load G n u t
  live_along n {u} p l = elim (touched_end G laws l) [ inl same ↦ rw same at p | inr q ↦ omega arith ]

  -- a live spot is linked with an end that has something
  pub held_live :
      {I : Type 0} {n : G.Spot → ℕ} {u : G.Edge → ℕ} {ends : I → G.Spot} {f : I → ℕ} {j : I → I → Type 0} → State G n u ends f j →
      (x : G.Spot) → 0 < load G n u x → (i : I) × (0 < f i) × Linked G u x (ends i)
  held_live {I} {n} {u} {ends} {f} st x p = on (st.held x p)
    where
      on : (i : I) × Linked G u x (ends i) → (i : I) × (0 < f i) × Linked G u x (ends i)
      on (i, l) = (i, omega (arith, live_along n p l, st.at_end i), l)

  -- only the edges that are there count, and needs count by their values
  pub state_alike :
      {I : Type 0} {n m : G.Spot → ℕ} {u v : G.Edge → ℕ} {ends : I → G.Spot} {f : I → ℕ} {j : I → I → Type 0} →
      ((x : G.Spot) → m x ≡ n x) → ((e : G.Edge) → G.In e → v e ≡ u e) → State G n u ends f j → State G m v ends f j
  state_alike {I} {n} {m} {u} {v} {ends} needs uses st =
      record {
        at_end = λ i. omega (arith, st.at_end i, loads (ends i));
        even = λ x. elim (st.even x) [ inl e ↦ inl (omega (arith, loads x)) | inr at ↦ inr at ];
        held = λ x p. again (st.held x (omega (arith, loads x)));
        linked = λ p q. (λ l. there ((st.linked p q).0 l), λ l. (st.linked p q).1 (back l));
      }
    where
      loads : (x : G.Spot) → load G m v x ≡ load G n u x
      loads x = omega (arith, needs x, sum_alike G (laws.degree x) v u uses)

      there : {s t : G.Spot} → Linked G u s t → Linked G v s t
      there l = linked_more G (λ e i p. omega (arith, uses e i)) l

      back : {s t : G.Spot} → Linked G v s t → Linked G u s t
      back l = linked_more G (λ e i p. omega (arith, uses e i)) l

      again : {x : G.Spot} → (i : I) × Linked G u x (ends i) → (i : I) × Linked G v x (ends i)
      again (i, l) = (i, there l)
