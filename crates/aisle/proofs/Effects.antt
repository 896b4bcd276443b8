-- Every use of an aisle that leaves out only what lies between neighbouring stops serves by one of the six effects;
-- and the ends of the aisle are joined where every step is used. Assumes nothing.
use Rattle.std.proofs.Common.{◌≡◌, ℕ, ◌-◌, ◌<◌, List, refl, arith}
use native.Mathlib.Decide.{dec_lt}
use Rattle.aisle.specs.Costs.{
  Use,
  once,
  twice,
  leaving,
  hole,
  steps_of_use,
  joins,
  Depths,
  StopIn,
  BetweenNeighbours,
  Effect,
  nothing,
  from_front,
  from_back,
  both_ends,
  through_once,
  through_twice,
  Serves,
}
use Rattle.aisle.specs.Kinds.{Neighbours}
use Rattle.aisle.proofs.Holes.{hole_before, hole_after, hole_between}
use Rattle.aisle.proofs.Served.{serves_leaving, serves_once, serves_twice}

-- a use that serves, with the effect that it has
pub record HasEffect (deep : ℕ) (ds : List ℕ) (u : Use) : Type 0 where
  pub effect : Effect
  pub serves : Serves deep ds effect u

module _ {deep : ℕ} {ds : List ℕ} (depths : Depths deep ds) where
  gap_effect : (lo hi : ℕ) → Neighbours deep (StopIn deep ds) lo hi → Dec (0 < lo) → Dec (hi < deep) → HasEffect deep ds (leaving lo hi)
  gap_effect lo hi n front back = by front back
    where
      front_unused : ¬ (0 < lo) → hole lo hi 0 ≡ 0
      front_unused i = hole_between lo hi 0 (omega arith) (omega (arith, n.apart))

      back_unused : ¬ (hi < deep) → hole lo hi (deep - 1) ≡ 0
      back_unused j = hole_between lo hi (deep - 1) (omega (arith, n.apart, n.inside)) (omega (arith, n.apart, n.inside))

      back_used : hi < deep → hole lo hi (deep - 1) ≡ 2
      back_used j = hole_after lo hi (deep - 1) (omega arith)

      by : Dec (0 < lo) → Dec (hi < deep) → HasEffect deep ds (leaving lo hi)
      by (no i) (no j) = record { effect = nothing; serves = serves_leaving depths nothing n (front_unused i) (back_unused j) refl }
      by (yes i) (no j) = record { effect = from_front; serves = serves_leaving depths from_front n (hole_before lo hi 0 i) (back_unused j) refl }
      by (no i) (yes j) = record { effect = from_back; serves = serves_leaving depths from_back n (front_unused i) (back_used j) refl }
      by (yes i) (yes j) = record { effect = both_ends; serves = serves_leaving depths both_ends n (hole_before lo hi 0 i) (back_used j) refl }

  pub some_effect : (u : Use) → BetweenNeighbours deep (StopIn deep ds) u → HasEffect deep ds u
  some_effect once n = record { effect = through_once; serves = serves_once deep ds }
  some_effect twice n = record { effect = through_twice; serves = serves_twice deep ds }
  some_effect (leaving lo hi) n = gap_effect lo hi n (dec_lt 0 lo) (dec_lt hi deep)

-- the ends are joined exactly where every step is used
module _ (deep : ℕ) (stop : ℕ → Type 0) where
  pub joined_used : (u : Use) → BetweenNeighbours deep stop u → 0 < joins u → (y : ℕ) → 0 < steps_of_use u y
  joined_used once n p y = omega arith
  joined_used twice n p y = omega arith
  joined_used (leaving lo hi) n p y = absurd (omega (arith, n.apart))

  pub used_joined : (u : Use) → BetweenNeighbours deep stop u → ((y : ℕ) → y < deep → 0 < steps_of_use u y) → joins u ≡ 1
  used_joined once n used = refl
  used_joined twice n used = refl
  used_joined (leaving lo hi) n used =
      absurd (omega (arith, used lo (omega (arith, n.apart, n.inside)), hole_between lo hi lo (omega arith) n.apart))
