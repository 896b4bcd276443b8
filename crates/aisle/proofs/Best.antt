-- The best use of an aisle for an effect on its ends: it has that effect, and no other use that has it is cheaper. Assumes nothing.
use Rattle.std.proofs.Common.{ℕ, ◌≤◌, List, [], ◌∷◌, Some, arith}
use Rattle.aisle.specs.Costs.{
  Use,
  once,
  twice,
  leaving,
  use_cost,
  nothing,
  from_front,
  from_back,
  both_ends,
  through_once,
  through_twice,
  Serves,
  LeastUse,
  BestIsLeast,
}
use Rattle.aisle.proofs.Holes.{hole_even}
use Rattle.aisle.proofs.NoPick.{empty_nothing, empty_front, empty_back, empty_both}
use Rattle.aisle.proofs.Served.{serves_once, serves_twice}
use Rattle.aisle.proofs.SomePicks.{some_nothing, some_front, some_back, some_both}

-- through the whole aisle there is one use only
best_once : (deep : ℕ) (ds : List ℕ) → LeastUse deep ds through_once (Some once)
best_once deep ds = (serves_once deep ds, no_other)
  where
    no_other : (u : Use) → Serves deep ds through_once u → use_cost deep once ≤ use_cost deep u
    no_other once s = omega arith
    no_other twice s = absurd (omega (arith, s.front))
    no_other (leaving p q) s = absurd (omega (arith, s.front, hole_even p q 0))

best_twice : (deep : ℕ) (ds : List ℕ) → LeastUse deep ds through_twice (Some twice)
best_twice deep ds = (serves_twice deep ds, no_other)
  where
    no_other : (u : Use) → Serves deep ds through_twice u → use_cost deep twice ≤ use_cost deep u
    no_other once s = absurd (omega (arith, s.front))
    no_other twice s = omega arith
    no_other (leaving p q) s = absurd (omega (arith, s.joined, s.between.apart))

pub best_is_least : BestIsLeast
best_is_least deep [] nothing depths = empty_nothing depths
best_is_least deep (d ∷ ds) nothing depths = some_nothing depths
best_is_least deep [] from_front depths = empty_front depths
best_is_least deep (d ∷ ds) from_front depths = some_front depths
best_is_least deep [] from_back depths = empty_back depths
best_is_least deep (d ∷ ds) from_back depths = some_back depths
best_is_least deep [] both_ends depths = empty_both depths
best_is_least deep (d ∷ ds) both_ends depths = some_both depths
best_is_least deep ds through_once depths = best_once deep ds
best_is_least deep ds through_twice depths = best_twice deep ds
