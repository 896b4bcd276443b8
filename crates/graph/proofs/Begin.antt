-- How a part of a tour begins: with nothing, and with needs at an end. Assumes nothing.
use mathlib.Core.Path.{◌≡◌}
use mathlib.Core.Logic.{◌⊎◌, inl, inr, ◌≢◌}
use Prim.Native.Nat.{ℕ, ◌+◌, ◌%◌}
use native.Mathlib.Omega.{arith}
use Rattle.graph.specs.Graph.{Graph}
use Rattle.graph.proofs.Links.{linked_same}
use Rattle.graph.proofs.Class.{SameClass}
use Rattle.graph.proofs.State.{ButAt, IsEnd, State, load}

module _ (G : Graph) where
  -- the needs m are n and k more at the end i, which is no other end too
  pub record Wish {I : Type 0} (n m : G.Spot → ℕ) (ends : I → G.Spot) (i : I) (k : ℕ) : Type 0 where
    pub more : m (ends i) ≡ n (ends i) + k
    pub others : (x : G.Spot) → x ≢ ends i → m x ≡ n x
    pub apart : (p : I) → p ≢ i → ends p ≢ ends i

  -- the number of that end grows by as much
  pub wish :
      {I : Type 0} {n m : G.Spot → ℕ} {u : G.Edge → ℕ} {ends : I → G.Spot} {f g : I → ℕ} {j : I → I → Type 0} {i : I} {k : ℕ} →
      Discrete I → Wish n m ends i k → ButAt i (f i + k) f g → State G n u ends f j → State G m u ends g j
  wish {I} {n} {m} {u} {ends} {f} {g} {j} {i} {k} dec more numbers st =
      record {
        at_end = at_end;
        even = λ x. elim (G.spot_dec x (ends i)) [ yes same ↦ inr (i, same) | no other ↦ even x other (st.even x) ];
        held = λ x p. elim (G.spot_dec x (ends i)) [ yes same ↦ (i, linked_same G same) | no other ↦ st.held x (omega (arith, more.others x other)) ];
        linked = st.linked;
      }
    where
      at_end : (p : I) → SameClass (load G m u (ends p)) (g p)
      at_end p =
          elim (dec p i) [
            | yes same ↦ rw same (omega (arith, more.more, numbers.here, st.at_end i))
            | no other ↦ omega (arith, more.others (ends p) (more.apart p other), numbers.others p other, st.at_end p)
          ]

      even : (x : G.Spot) → x ≢ ends i → (load G n u x % 2 ≡ 0) ⊎ IsEnd G ends x → (load G m u x % 2 ≡ 0) ⊎ IsEnd G ends x
      even x other (inl e) = inl (omega (arith, more.others x other))
      even x other (inr at) = inr at
