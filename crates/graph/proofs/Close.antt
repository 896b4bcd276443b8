-- When a part of a tour is a whole tour: even numbers, and all ends linked that have something. Assumes nothing.
use mathlib.Core.Path.{◌≡◌}
use mathlib.Core.Logic.{◌⊎◌, inl, inr}
use Prim.Native.Nat.{ℕ, ◌%◌, ◌<◌}
use native.Mathlib.Omega.{arith}
use Rattle.graph.specs.Graph.{Graph, Laws, Linked}
use Rattle.graph.proofs.Links.{linked_trans, linked_sym}
use Rattle.graph.proofs.State.{IsEnd, State, Whole, load, held_live}

module _ (G : Graph) {size : (G.Edge → ℕ) → ℕ} (laws : Laws G size)
    {I : Type 0} {n : G.Spot → ℕ} {u : G.Edge → ℕ} {ends : I → G.Spot} {f : I → ℕ} {j : I → I → Type 0} (st : State G n u ends f j) where
  -- such a part is whole
  pub close : ((i : I) → f i % 2 ≡ 0) → ((i k : I) → 0 < f i → 0 < f k → j i k) → Whole G n u
  close even joined =
      record {
        even = λ x. all_even (st.even x);
        linked = λ x y p q. between (held_live G laws st x p) (held_live G laws st y q);
      }
    where
      all_even : {x : G.Spot} → (load G n u x % 2 ≡ 0) ⊎ IsEnd G ends x → load G n u x % 2 ≡ 0
      all_even (inl e) = e
      all_even (inr (i, same)) = rw same (omega (arith, st.at_end i, even i))

      between :
          {x y : G.Spot} → (i : I) × (0 < f i) × Linked G u x (ends i) → (k : I) × (0 < f k) × Linked G u y (ends k) → Linked G u x y
      between (i, p, a) (k, q, b) = linked_trans G a (linked_trans G ((st.linked i k).0 (joined i k p q)) (linked_sym G b))
