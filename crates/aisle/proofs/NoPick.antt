-- The best uses of an aisle without a pick. Assumes nothing.
use Rattle.std.proofs.Common.{ℕ, ◌-◌, ◌<◌, [], Some, None, refl, inl, inr, arith}
use Rattle.aisle.specs.Costs.{leaving, Depths, StopIn, nothing, from_front, from_back, both_ends, LeastUse}
use Rattle.aisle.proofs.Holes.{hole_between}
use Rattle.aisle.proofs.LeastGap.{least_gap, no_gap}
use Rattle.aisle.proofs.Served.{off_front, off_back}

-- without a pick there is no stop inside
no_stop_inside : {deep y : ℕ} → 0 < y → y < deep → ¬ (StopIn deep [] y)
no_stop_inside i j (inl e) = omega arith
no_stop_inside i j (inr (inl e)) = omega arith
no_stop_inside i j (inr (inr m)) = omega (arith, m.1)

module _ {deep : ℕ} (depths : Depths deep []) where
  pub empty_nothing : LeastUse deep [] nothing (Some (leaving 0 deep))
  empty_nothing =
      least_gap depths nothing refl
      (record { apart = depths.some_step; inside = omega arith; stop_lo = inl refl; stop_hi = inr (inl refl); none_between = λ y. no_stop_inside })
      (hole_between 0 deep 0 (omega arith) depths.some_step)
      (hole_between 0 deep (deep - 1) (omega arith) (omega (arith, depths.some_step)))
      (λ p q s. omega (arith, s.between.inside))

  pub empty_front : LeastUse deep [] from_front None
  empty_front =
      no_gap depths from_front refl
      (λ p q s. no_stop_inside (off_front s refl) (omega (arith, s.between.apart, s.between.inside)) s.between.stop_lo)

  pub empty_back : LeastUse deep [] from_back None
  empty_back =
      no_gap depths from_back refl (λ p q s. no_stop_inside (omega (arith, s.between.apart)) (off_back s refl) s.between.stop_hi)

  pub empty_both : LeastUse deep [] both_ends None
  empty_both =
      no_gap depths both_ends refl (λ p q s. no_stop_inside (omega (arith, s.between.apart)) (off_back s refl) s.between.stop_hi)
