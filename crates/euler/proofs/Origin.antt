-- Where a step began is told by its byte and by where it led. Assumes nothing.
use Rattle.std.proofs.Common.{◌≡◌, ℕ, suc, ◌+◌, ◌-◌, arith}
use Rattle.house.specs.House.{House, Spot, spot}
use Rattle.walk.specs.Walk.{Goes, byte_of}
use Rattle.walk.specs.Steps.{Within}
use Rattle.euler.specs.Passing.{origin}

module _ {h : House} where
  pub origin_of_step : {s t : Spot} {n : ℕ} (g : Goes h s t n) → origin t (byte_of g) ≡ s
  unfolding byte_of
  origin_of_step (Goes.inward {a = a} {y = y} i j) = let e : suc y - 1 ≡ y = omega arith in λ k. spot a (e k)
  origin_of_step (Goes.outward {a = a} {y = y} i j) = let e : y + 1 ≡ suc y = omega arith in λ k. spot a (e k)
  origin_of_step (Goes.front_on {a = a} i) = let e : suc a - 1 ≡ a = omega arith in λ k. spot (e k) 0
  origin_of_step (Goes.front_off {a = a} i) = let e : a + 1 ≡ suc a = omega arith in λ k. spot (e k) 0
  origin_of_step (Goes.back_on {a = a} i) = let e : suc a - 1 ≡ a = omega arith in λ k. spot (e k) h.deep
  origin_of_step (Goes.back_off {a = a} i) = let e : a + 1 ≡ suc a = omega arith in λ k. spot (e k) h.deep

  -- a step begins at a spot of the house
  pub start_within : {s t : Spot} {n : ℕ} → Goes h s t n → Within h s
  start_within (Goes.inward i j) = record { aisle_in = i; depth_in = omega arith }
  start_within (Goes.outward i j) = record { aisle_in = i; depth_in = j }
  start_within (Goes.front_on i) = record { aisle_in = omega arith; depth_in = omega arith }
  start_within (Goes.front_off i) = record { aisle_in = i; depth_in = omega arith }
  start_within (Goes.back_on i) = record { aisle_in = omega arith; depth_in = omega arith }
  start_within (Goes.back_off i) = record { aisle_in = i; depth_in = omega arith }
