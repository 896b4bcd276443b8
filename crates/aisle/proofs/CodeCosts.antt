-- How often a use takes a step, and what it costs, in the form in which the code finds it. Assumes nothing.
use Rattle.std.proofs.Common.{◌≡◌, ℕ, zero, suc, ◌-◌, ◌*◌, ◌≤◌, min, Bool, true, false, ◌&&◌, ltb, leb, refl, arith}
use native.Mathlib.Decide.{dec_le}
use Rattle.std.proofs.lemmas.Bool.Decides.{nat_tests}
use Rattle.uses.specs.Uses.{pick, span}
use Rattle.aisle.specs.Costs.{Use, once, twice, leaving, hole, use_cost}
use Rattle.aisle.specs.Values.{total_of}
use Rattle.aisle.proofs.Holes.{span_hole}
use Rattle.aisle.proofs.UseCosts.{cost_once, cost_twice}

-- a step is not used where it lies in the gap, else twice
pub hole_tested : (lo hi y : ℕ) (b : Bool) → b ≡ (leb lo y && ltb y hi) → hole lo hi y ≡ pick b 0 2
unfolding hole
hole_tested lo hi y true e = grind (arith, nat_tests)
hole_tested lo hi y false e = grind (arith, nat_tests)

-- a gap that ends before it begins leaves nothing out
span_whole : (lo hi : ℕ) → hi ≤ lo → (n : ℕ) → span (hole lo hi) n ≡ 2 * n
unfolding span hole
span_whole lo hi l zero = refl
span_whole lo hi l (suc n) = omega (arith, span_whole lo hi l n)

cost_around : (lo hi deep : ℕ) → span (hole lo hi) deep ≡ 2 * (deep - (min deep hi - min deep lo))
cost_around lo hi deep =
    elim (dec_le lo hi) [
      | yes l ↦ omega (arith, span_hole lo hi l deep)
      | no l ↦ omega (arith, span_whole lo hi (omega arith) deep)
    ]

pub total_is_cost : (deep : ℕ) (u : Use) → total_of deep u ≡ use_cost deep u
unfolding use_cost
total_is_cost deep once = omega (arith, cost_once deep)
total_is_cost deep twice = omega (arith, cost_twice deep)
total_is_cost deep (leaving lo hi) = omega (arith, cost_around lo hi deep)
