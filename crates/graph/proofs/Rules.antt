-- The rules on the three numbers of a state: which passages lead on, and when a tour is closed. Assumes nothing.
use mathlib.Core.Path.{◌≡◌}
use Prim.Native.Nat.{ℕ, ◌+◌, ◌%◌, ◌<◌, min}

-- i uses of the front passage and k of the back passage lead on from the state (f, b, j):
-- both ends get even, and what is at an end goes on over its passage or is linked with the other end and goes on there
pub record Accepted (f b j i k : ℕ) : Type 0 where
  pub front_even : (f + i) % 2 ≡ 0
  pub back_even : (b + k) % 2 ≡ 0
  pub front_goes_on : 0 < f → 0 < i + j
  pub back_goes_on : 0 < b → 0 < k + min i j

-- a state that closes a tour: even numbers, and linked ends if both are positive
pub record Closed (f b j : ℕ) : Type 0 where
  pub front_even : f % 2 ≡ 0
  pub back_even : b % 2 ≡ 0
  pub joined : 0 < f → 0 < b → 0 < j
