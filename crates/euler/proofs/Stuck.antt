-- Where no step goes onto a use that is left over, nothing that is left meets the spot. Assumes nothing.
use Rattle.std.proofs.Common.{◌≡◌, ℕ, ◌<◌, ◌⊎◌, List, refl, ap, inl, inr, arith}
use native.Mathlib.Decide.{dec_lt}
use Rattle.graph.specs.Graph.{Ends}
use Rattle.house.specs.House.{House, Spot}
use Rattle.uses.specs.Edges.{Edge, In, src, dst, degree, house_graph}
use Rattle.uses.specs.Layout.{held_in}
use Rattle.uses.proofs.Laws.{house_laws}
use Rattle.uses.proofs.Taken.{byte_of_edge}
use Rattle.euler.specs.Choosing.{Shut}

module _ (h : House) (left : List ℕ) (s : Spot) (shut : (b : ℕ) → Shut h left s b) where
  unused : {t : Spot} (e : Edge) → In h e → Ends (house_graph h) e s t → held_in h left e ≡ 0
  unused {t} e i ends = let k = byte_of_edge h e i ends in omega (arith, shut k.byte t k.leads, ap (held_in h left) k.along)

  pub stuck_degree : degree h (held_in h left) s ≡ 0
  stuck_degree = elim (dec_lt 0 (degree h (held_in h left) s)) [ yes p ↦ absurd (none ((house_laws h).touched (held_in h left) s p)) | no p ↦ omega arith ]
    where
      none : (e : Edge) × In h e × (0 < held_in h left e) × ((src h e ≡ s) ⊎ (dst h e ≡ s)) → ⊥
      none (e, i, q, inl a) = omega (arith, unused e i (inl (a, refl)))
      none (e, i, q, inr b) = omega (arith, unused e i (inr (refl, b)))
