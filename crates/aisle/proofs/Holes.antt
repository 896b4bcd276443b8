-- The uses of an aisle with a hole in them, step by step and added up. Assumes nothing.
use Rattle.std.proofs.Common.{◌≡◌, ℕ, zero, suc, ◌+◌, ◌-◌, ◌*◌, ◌%◌, ◌<◌, ◌≤◌, min, ◌⊎◌, inl, inr, arith}
use native.Mathlib.Decide.{dec_lt}
use Rattle.uses.specs.Uses.{span}
use Rattle.aisle.specs.Costs.{hole}

module _ (lo hi : ℕ) where
  pub hole_small : (y : ℕ) → hole lo hi y ≤ 2
  unfolding hole
  hole_small y = omega arith

  pub hole_even : (y : ℕ) → hole lo hi y % 2 ≡ 0
  unfolding hole
  hole_even y = omega arith

  pub hole_before : (y : ℕ) → y < lo → hole lo hi y ≡ 2
  unfolding hole
  hole_before y l = omega arith

  pub hole_after : (y : ℕ) → hi ≤ y → hole lo hi y ≡ 2
  unfolding hole
  hole_after y l = omega arith

  pub hole_between : (y : ℕ) → lo ≤ y → y < hi → hole lo hi y ≡ 0
  unfolding hole
  hole_between y j k = omega arith

  -- a step in use lies before the hole or after it
  pub hole_used : (y : ℕ) → 0 < hole lo hi y → (y < lo) ⊎ (hi ≤ y)
  unfolding hole
  hole_used y p = elim (dec_lt y lo) [ yes l ↦ inl l | no l ↦ inr (omega arith) ]

  pub span_hole : lo ≤ hi → (n : ℕ) → span (hole lo hi) n ≡ 2 * (min n lo + (n - hi))
  unfolding span hole
  span_hole l zero = omega arith
  span_hole l (suc n) = omega (arith, span_hole l n)
