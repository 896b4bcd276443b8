-- What a plan lays down is at most two uses of each edge, so that the steps of a tour with these uses fit. Assumes nothing.
use Rattle.std.proofs.Common.{◌≡◌, ℕ, zero, suc, ◌+◌, ◌-◌, ◌*◌, ◌≤◌, List, Some, None, Option, ap, mul_assoc, suc-mul, arith}
use Rattle.graph.proofs.Sums.{sum_monotone}
use Rattle.house.specs.House.{House}
use Rattle.uses.specs.Uses.{span, cost}
use Rattle.uses.specs.Edges.{Edge, lane, front, back, In, house_graph}
use Rattle.uses.specs.Layout.{places, held_in}
use Rattle.uses.proofs.Laws.{size, house_laws}
use Rattle.uses.proofs.Places.{places_few}
use Rattle.aisle.specs.Costs.{Use, once, twice, leaving, best}
use Rattle.aisle.proofs.Holes.{hole_small}
use Rattle.euler.specs.Walking.{count_of}
use Rattle.euler.proofs.Total.{size_held}
use Rattle.classes.specs.Classes.{Passage, none, one_each, two_front, two_back, two_each, passage_front, passage_back}
use Rattle.planner.specs.Laying.{steps_or_none, laid_by}
use Rattle.partial.specs.Tracing.{choice_passage, choice_effect}

steps_small : (o : Option Use) (y : ℕ) → steps_or_none o y ≤ 2
steps_small None y = omega arith
steps_small (Some once) y = omega arith
steps_small (Some twice) y = omega arith
steps_small (Some (leaving lo hi)) y = hole_small lo hi y

front_small : (p : Passage) → passage_front p ≤ 2
front_small none = omega arith
front_small one_each = omega arith
front_small two_front = omega arith
front_small two_back = omega arith
front_small two_each = omega arith

back_small : (p : Passage) → passage_back p ≤ 2
back_small none = omega arith
back_small one_each = omega arith
back_small two_front = omega arith
back_small two_back = omega arith
back_small two_each = omega arith

pub laid_small : (h : House) (choice : ℕ → ℕ) (ds : ℕ → List ℕ) (e : Edge) → laid_by h choice ds e ≤ 2
laid_small h choice ds (lane a y) = steps_small (best h.deep (ds a) (choice_effect (choice a))) y
laid_small h choice ds (front a) = front_small (choice_passage (choice (suc a)))
laid_small h choice ds (back a) = back_small (choice_passage (choice (suc a)))

span_same : (c n : ℕ) → span (λ a. c) n ≡ n * c
unfolding span
span_same c zero = omega arith
span_same c (suc n) = omega (arith, span_same c n, suc-mul n c)

-- everything used twice takes two uses for each place
size_twice : (h : House) → size h (λ e. 2) ≡ 2 * places h
unfolding cost
size_twice h =
    omega
    (arith, ap (λ (k : ℕ). span (λ a. k) h.aisles) (span_same 2 h.deep), span_same (h.deep * 2) h.aisles, span_same (2 + 2) (h.aisles - 1), mul_two)
  where
    mul_two : h.aisles * (h.deep * 2) ≡ 2 * (h.aisles * h.deep)
    mul_two = omega (arith, mul_assoc h.aisles h.deep 2)

pub count_few : (h : House) (us : List ℕ) → h.aisles ≤ 64 → h.deep ≤ 200 → ((e : Edge) → In h e → held_in h us e ≤ 2) → count_of h us ≤ 25852
count_few h us few short small =
    omega (arith, size_held h us, sum_monotone (house_graph h) (house_laws h).count (held_in h us) (λ e. 2) small, size_twice h, places_few h few short)
