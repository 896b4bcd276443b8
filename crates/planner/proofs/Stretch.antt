-- The parts of uses and of needs that lie in a stretch of aisles, and that neighbouring stretches follow each other over two passages.
-- Assumes nothing.
use Rattle.std.proofs.Common.{◌≡◌, ℕ, ◌<◌, ◌≤◌, ◌⊎◌, subst, inl, inr, arith}
use mathlib.Core.Logic.Dec
use native.Mathlib.Decide.{dec_le, dec_lt}
use Rattle.graph.proofs.State.{load}
use Rattle.graph.proofs.Weight.{weight, weight_yes, weight_no, weight_holds}
use Rattle.house.specs.House.{House, Spot}
use Rattle.uses.specs.Edges.{Edge, lane, front, back, In, src, dst, degree, house_graph}
use Rattle.uses.proofs.Laws.{house_laws}

-- the spots in the aisles from lo on and before hi
abbrev pub Stands : ℕ → ℕ → Spot → Type 0
Stands lo hi s = (lo ≤ s.aisle) × (s.aisle < hi)

unfoldable pub stands? : (lo hi : ℕ) (s : Spot) → Dec (Stands lo hi s)
stands? lo hi s = Dec.and (dec_le lo s.aisle) (dec_lt s.aisle hi)

-- needs at these spots only
unfoldable pub needs_in : ℕ → ℕ → (Spot → ℕ) → Spot → ℕ
needs_in lo hi n s = weight (stands? lo hi s) (n s)

module _ (h : House) where
  -- the edges between these spots
  abbrev pub Lies : ℕ → ℕ → Edge → Type 0
  Lies lo hi e = (lo ≤ (src h e).aisle) × ((dst h e).aisle < hi)

  unfoldable pub lies? : (lo hi : ℕ) (e : Edge) → Dec (Lies lo hi e)
  lies? lo hi e = Dec.and (dec_le lo (src h e).aisle) (dec_lt (dst h e).aisle hi)

  -- uses of these edges only
  unfoldable pub uses_in : ℕ → ℕ → (Edge → ℕ) → Edge → ℕ
  uses_in lo hi f e = weight (lies? lo hi e) (f e)

module _ (lo hi : ℕ) (n : Spot → ℕ) (s : Spot) where
  pub needs_inside : Stands lo hi s → needs_in lo hi n s ≡ n s
  unfolding needs_in
  needs_inside i = weight_yes (stands? lo hi s) i (n s)

  pub needs_outside : ¬ (Stands lo hi s) → needs_in lo hi n s ≡ 0
  unfolding needs_in
  needs_outside i = weight_no (stands? lo hi s) i (n s)

module _ (h : House) (lo hi : ℕ) (f : Edge → ℕ) where
  pub uses_inside : (e : Edge) → Lies h lo hi e → uses_in h lo hi f e ≡ f e
  unfolding uses_in
  uses_inside e i = weight_yes (lies? h lo hi e) i (f e)

  pub uses_outside : (e : Edge) → ¬ (Lies h lo hi e) → uses_in h lo hi f e ≡ 0
  unfolding uses_in
  uses_outside e i = weight_no (lies? h lo hi e) i (f e)

  uses_lie : (e : Edge) → 0 < uses_in h lo hi f e → Lies h lo hi e
  unfolding uses_in
  uses_lie e p = weight_holds (lies? h lo hi e) (f e) p

-- an edge leads to no earlier aisle
pub forward : (h : House) (e : Edge) → (src h e).aisle ≤ (dst h e).aisle
forward h (lane a y) = omega arith
forward h (front a) = omega arith
forward h (back a) = omega arith

module _ (h : House) (lo hi : ℕ) (n : Spot → ℕ) (f : Edge → ℕ) where
  -- the uses of a stretch touch its spots only
  touched_stands : (s : Spot) → 0 < degree h (uses_in h lo hi f) s → Stands lo hi s
  touched_stands s p = by ((house_laws h).touched (uses_in h lo hi f) s p)
    where
      at : (e : Edge) → Lies h lo hi e → (src h e ≡ s) ⊎ (dst h e ≡ s) → Stands lo hi s
      at e i (inl same) = subst (Stands lo hi) same (omega (arith, forward h e))
      at e i (inr same) = subst (Stands lo hi) same (omega (arith, forward h e))

      by : (e : Edge) × In h e × (0 < uses_in h lo hi f e) × ((src h e ≡ s) ⊎ (dst h e ≡ s)) → Stands lo hi s
      by (e, i, q, ends) = at e (uses_lie h lo hi f e q) ends

  -- so nothing of it is live elsewhere
  pub bare_outside : (s : Spot) → ¬ (Stands lo hi s) → load (house_graph h) (needs_in lo hi n) (uses_in h lo hi f) s ≡ 0
  bare_outside s out =
      elim (dec_lt 0 (degree h (uses_in h lo hi f) s)) [
        | yes p ↦ absurd (out (touched_stands s p))
        | no z ↦ omega (arith, needs_outside lo hi n s out)
      ]
