-- Which uses of an aisle have which effect on its ends, and that a gap between neighbouring stops passes every pick. Assumes nothing.
use Rattle.std.proofs.Common.{◌≡◌, ℕ, ◌-◌, ◌<◌, List, length, get_or, refl, inl, inr, arith}
use native.Mathlib.Decide.{dec_le}
use Rattle.aisle.specs.Costs.{once, twice, leaving, hole, Depths, StopIn, Covers, Effect, through_once, through_twice, effect_front, effect_back, effect_joins, Serves}
use Rattle.aisle.specs.Kinds.{Neighbours}
use Rattle.aisle.proofs.Holes.{hole_before, hole_after}

-- a gap that serves begins at the front, or ends at the back, exactly where the effect leaves that end unused
module _ {deep : ℕ} {ds : List ℕ} {e : Effect} {lo hi : ℕ} (s : Serves deep ds e (leaving lo hi)) where
  pub from_front_on : effect_front e ≡ 0 → lo ≡ 0
  unfolding hole
  from_front_on z = omega (arith, s.front, s.between.apart)

  pub off_front : effect_front e ≡ 2 → 0 < lo
  unfolding hole
  off_front z = omega (arith, s.front, s.between.apart)

  pub up_to_back : effect_back e ≡ 0 → hi ≡ deep
  unfolding hole
  up_to_back z = omega (arith, s.back, s.between.apart, s.between.inside)

  pub off_back : effect_back e ≡ 2 → hi < deep
  unfolding hole
  off_back z = omega (arith, s.back, s.between.apart, s.between.inside)

module _ {deep : ℕ} {ds : List ℕ} (depths : Depths deep ds) where
  pick_stop : (i : ℕ) → i < length ds → StopIn deep ds (get_or ds i 0)
  pick_stop i l = inr (inr (i, l, refl))

  pub covers_leaving : {lo hi : ℕ} → Neighbours deep (StopIn deep ds) lo hi → (i : ℕ) → i < length ds → Covers (leaving lo hi) (get_or ds i 0)
  covers_leaving {lo} {hi} n i l =
      let d = get_or ds i 0 in
      elim (dec_le d lo) [
        | yes j ↦ inl (omega (arith, hole_before lo hi (d - 1) (omega (arith, (depths.inside i l).0))))
        | no j ↦
            elim (dec_le hi d) [
              | yes k ↦ inr (omega (arith, hole_after lo hi d k))
              | no k ↦ absurd (n.none_between d (omega arith) (omega arith) (pick_stop i l))
            ]
      ]

  pub serves_leaving :
      (e : Effect) {lo hi : ℕ} → Neighbours deep (StopIn deep ds) lo hi → hole lo hi 0 ≡ effect_front e → hole lo hi (deep - 1) ≡ effect_back e →
      effect_joins e ≡ 0 → Serves deep ds e (leaving lo hi)
  serves_leaving e {lo} {hi} n front back apart =
      record { between = n; covers = covers_leaving n; front = front; back = back; joined = omega (arith, n.apart) }

-- once or twice through the aisle passes every pick
pub serves_once : (deep : ℕ) (ds : List ℕ) → Serves deep ds through_once once
serves_once deep ds = record { between = tt; covers = λ i l. inl (omega arith); front = refl; back = refl; joined = refl }

pub serves_twice : (deep : ℕ) (ds : List ℕ) → Serves deep ds through_twice twice
serves_twice deep ds = record { between = tt; covers = λ i l. inl (omega arith); front = refl; back = refl; joined = refl }
