-- Two parts of a tour taken together: needs and uses add up, and each part's links are links of both. Assumes nothing.
use mathlib.Core.Path.{◌≡◌}
use mathlib.Core.Logic.{◌⊎◌, inl, inr}
use Prim.Native.Nat.{ℕ, ◌+◌, ◌<◌}
use native.Mathlib.Omega.{arith}
use native.Mathlib.Decide.{dec_lt}
use Rattle.graph.specs.Graph.{Graph, Laws, Linked}
use Rattle.graph.proofs.Links.{linked_more}
use Rattle.graph.proofs.State.{IsEnd, load}

module _ (G : Graph) where
  -- the needs l and the uses w are those of two parts together
  pub record Together (n m l : G.Spot → ℕ) (u v w : G.Edge → ℕ) : Type 0 where
    pub needs : (x : G.Spot) → l x ≡ n x + m x
    pub uses : (e : G.Edge) → G.In e → w e ≡ u e + v e

  -- a spot that two uses both touch is one of the ends
  pub record MeetAt {I : Type 0} (ends : I → G.Spot) (u v : G.Edge → ℕ) : Type 0 where
    pub at : (x : G.Spot) → 0 < G.deg u x → 0 < G.deg v x → IsEnd G ends x

  pub meet_swap : {I : Type 0} {ends : I → G.Spot} {u v : G.Edge → ℕ} → MeetAt ends u v → MeetAt ends v u
  meet_swap m = record { at = λ x p q. m.at x q p }

  module _ {n m l : G.Spot → ℕ} {u v w : G.Edge → ℕ} (both : Together n m l u v w) where
    pub linked_first : {s t : G.Spot} → Linked G u s t → Linked G w s t
    linked_first k = linked_more G (λ e i p. omega (arith, both.uses e i)) k

    pub linked_second : {s t : G.Spot} → Linked G v s t → Linked G w s t
    linked_second k = linked_more G (λ e i p. omega (arith, both.uses e i)) k

    -- an edge in use is used in one of the parts
    pub used_in : (e : G.Edge) → G.In e → 0 < w e → (0 < u e) ⊎ (0 < v e)
    used_in e i p = elim (dec_lt 0 (u e)) [ yes q ↦ inl q | no q ↦ inr (omega (arith, both.uses e i)) ]

    pub load_together : {size : (G.Edge → ℕ) → ℕ} → Laws G size → (x : G.Spot) → load G l w x ≡ load G n u x + load G m v x
    load_together laws x = omega (arith, both.needs x, (laws.degree x).add u v w both.uses)
