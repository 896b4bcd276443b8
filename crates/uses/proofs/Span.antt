-- Sums over the numbers below a bound. Assumes nothing.
use Rattle.std.proofs.Common.{◌≡◌, ℕ, zero, suc, ◌+◌, ◌<◌, refl, ap, arith}
use native.Mathlib.Decide.{dec_lt, ℕ_discrete}
use Rattle.uses.specs.Uses.{span}

-- a sum of sums
pub span_sum : (u v w : ℕ → ℕ) (n : ℕ) → ((i : ℕ) → i < n → w i ≡ u i + v i) → span w n ≡ span u n + span v n
unfolding span
span_sum u v w zero e = refl
span_sum u v w (suc n) e = omega (arith, e n (omega arith), span_sum u v w n (λ i l. e i (omega arith)))

pub span_zero : (f : ℕ → ℕ) (n : ℕ) → ((i : ℕ) → i < n → f i ≡ 0) → span f n ≡ 0
unfolding span
span_zero f zero e = refl
span_zero f (suc n) e = omega (arith, e n (omega arith), span_zero f n (λ i l. e i (omega arith)))

pub span_alike : (f g : ℕ → ℕ) (n : ℕ) → ((i : ℕ) → i < n → f i ≡ g i) → span f n ≡ span g n
unfolding span
span_alike f g zero e = refl
span_alike f g (suc n) e = omega (arith, e n (omega arith), span_alike f g n (λ i l. e i (omega arith)))

-- only one number counts
pub span_single : (f : ℕ → ℕ) (n k : ℕ) → k < n → ((i : ℕ) → i < n → ¬ (k ≡ i) → f i ≡ 0) → span f n ≡ f k
unfolding span
span_single f zero k l e = absurd (omega arith)
span_single f (suc n) k l e = elim (ℕ_discrete k n) [
  | yes p ↦ omega (arith, ap f p, span_zero f n (λ i j. e i (omega arith) (omega arith)))
  | no z ↦ omega (arith, e n (omega arith) z, span_single f n k (omega arith) (λ i j. e i (omega arith)))
]

-- a sum of something has something
pub span_some : (f : ℕ → ℕ) (n : ℕ) → 0 < span f n → (i : ℕ) × (i < n) × (0 < f i)
unfolding span
span_some f zero p = absurd (omega arith)
span_some f (suc n) p = elim (dec_lt 0 (f n)) [
  | yes q ↦ (n, omega arith, q)
  | no z ↦ let (i, l, q) = span_some f n (omega arith) in (i, omega arith, q)
]
