-- The stretch of all aisles is the house: all uses count there, and all needs. Assumes nothing.
use Rattle.std.proofs.Common.{◌≡◌, ℕ, zero, suc, ◌<◌, List, ◌∷◌, length, get_or, sym, subst, arith}
use native.Mathlib.Decide.{dec_lt}
use Rattle.graph.proofs.State.{Whole}
use Rattle.graph.proofs.Sums.{sum_alike}
use Rattle.house.specs.House.{House, Spot, desk, Sound}
use Rattle.uses.specs.Uses.{cost}
use Rattle.uses.specs.Edges.{Edge, lane, front, back, In, dst, uses_of, house_graph}
use Rattle.uses.proofs.Laws.{house_laws, house_cost}
use Rattle.uses.proofs.Rings.{Ring}
use Rattle.planner.proofs.Beginnings.{Ended}
use Rattle.planner.proofs.Costing.{cost_in}
use Rattle.planner.proofs.Parts.{whole_alike}
use Rattle.planner.proofs.Stretch.{needs_in, needs_inside, needs_outside, uses_in, uses_inside}
use Rattle.planner.proofs.Wanted.{Listed, wanted_listed, needed, whole_ring, ring_whole}

-- the uses f in all aisles are a whole tour
abbrev pub AllAisles : House → List Spot → (Edge → ℕ) → Type 0
AllAisles h picks f = Whole (house_graph h) (needs_in 0 h.aisles (needed picks)) (uses_in h 0 h.aisles f)

module _ (h : House) (f : Edge → ℕ) where
  all_uses : (e : Edge) → In h e → uses_in h 0 h.aisles f e ≡ f e
  all_uses e i = uses_inside h 0 h.aisles f e (omega (arith, ends_inside e i))
    where
      ends_inside : (e : Edge) → In h e → (dst h e).aisle < h.aisles
      ends_inside (lane a y) i = i.0
      ends_inside (front a) i = i
      ends_inside (back a) i = i

  -- up to the last aisle the uses cost all that they cost
  pub cost_all : {a : ℕ} → suc a ≡ h.aisles → cost_in h f 0 (suc a) ≡ cost h (uses_of f)
  cost_all last = subst (λ k. cost_in h f 0 k ≡ cost h (uses_of f)) (sym last) (sum_alike (house_graph h) (house_cost h) _ f all_uses)

module _ {h : House} {picks : List Spot} (sound : Sound h picks) where
  listed_inside : (s : Spot) → Listed (desk ∷ picks) s → s.aisle < h.aisles
  listed_inside s l = subst (λ (t : Spot). t.aisle < h.aisles) (l.is desk) (at l.place l.inside)
    where
      at : (i : ℕ) → i < length (desk ∷ picks) → (get_or (desk ∷ picks) i desk).aisle < h.aisles
      at zero l = sound.some_aisle
      at (suc i) l = (sound.inside i desk (omega arith)).0

  all_needs : (s : Spot) → needs_in 0 h.aisles (needed picks) s ≡ needed picks s
  all_needs s =
      elim (dec_lt s.aisle h.aisles) [
        | yes i ↦ needs_inside 0 h.aisles (needed picks) s (omega arith)
        | no i ↦
            elim (dec_lt 0 (needed picks s)) [
              | yes p ↦ absurd (i (listed_inside s (wanted_listed (desk ∷ picks) s p)))
              | no z ↦ omega (arith, needs_outside 0 h.aisles (needed picks) s (λ j. i j.1))
            ]
      ]

  -- round uses are those that make a whole tour of all aisles
  pub ring_all : (f : Edge → ℕ) → Ring h picks f → AllAisles h picks f
  ring_all f ring = whole_alike (house_graph h) (house_laws h) all_needs (all_uses h f) (ring_whole ring)

  pub all_ring : (f : Edge → ℕ) → AllAisles h picks f → Ring h picks f
  all_ring f whole = whole_ring (whole_alike (house_graph h) (house_laws h) (λ s. sym (all_needs s)) (λ e i. sym (all_uses h f e i)) whole)

  -- up to the last aisle is all
  pub ended_all : (f : Edge → ℕ) {a : ℕ} → suc a ≡ h.aisles → Ended h picks f a → AllAisles h picks f
  ended_all f last whole = subst (λ k. Whole (house_graph h) (needs_in 0 k (needed picks)) (uses_in h 0 k f)) last whole

  pub all_ended : (f : Edge → ℕ) {a : ℕ} → suc a ≡ h.aisles → AllAisles h picks f → Ended h picks f a
  all_ended f last whole = subst (λ k. Whole (house_graph h) (needs_in 0 k (needed picks)) (uses_in h 0 k f)) (sym last) whole
