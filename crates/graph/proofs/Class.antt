-- Numbers known by parity and positivity only: every number is in one class with 0, 1 or 2. Assumes nothing.
use mathlib.Core.Path.{◌≡◌}
use Prim.Native.Nat.{ℕ, ◌+◌, ◌-◌, ◌%◌, ◌≤◌, ◌<◌, min}
use native.Mathlib.Omega.{arith}

-- two numbers of the same parity, both positive or neither
pub record SameClass (m n : ℕ) : Type 0 where
  pub parity : m % 2 ≡ n % 2
  pub positive : min 1 m ≡ min 1 n

pub class_sum : {k l m n : ℕ} → SameClass k m → SameClass l n → SameClass (k + l) (m + n)
class_sum c d = omega arith

-- the least number of a class, its normal form: n without pairs, and not 0 where n is not
unfoldable pub two : ℕ → ℕ
two n = min n (2 - n % 2)

pub two_small : (n : ℕ) → two n ≤ 2
unfolding two
two_small n = omega arith

pub two_fewer : (n : ℕ) → two n ≤ n
unfolding two
two_fewer n = omega arith

pub two_parity : (n : ℕ) → two n % 2 ≡ n % 2
unfolding two
two_parity n = omega arith

pub two_positive : (n : ℕ) → 0 < n → 0 < two n
unfolding two
two_positive n p = omega arith
