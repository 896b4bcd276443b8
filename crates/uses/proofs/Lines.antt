-- Places along a line: at each meet the uses of the step that leads to it and of the step that leads on. Assumes nothing.
use Rattle.std.proofs.Common.{◌≡◌, ℕ, zero, suc, ◌+◌, ◌<◌, ◌≤◌, ltb, ◌⊎◌, refl, ◌∙◌, inl, inr, arith}
use native.Mathlib.Decide.{dec_lt}
use Rattle.uses.specs.Uses.{pick}
use Rattle.uses.proofs.Picks.{pick_lt, pick_ge, pick_lt_add, pick_lt_some, pick_zero}
use Rattle.uses.proofs.Same.{same, same_not, same_suc}

-- the step that leads to a place: none leads to the first
unfoldable pub before : (ℕ → ℕ) → ℕ → ℕ
before f zero = 0
before f (suc k) = f k

-- the uses that meet at place k of a line of n steps
unfoldable pub line : (ℕ → ℕ) → ℕ → ℕ → ℕ
line f n k = before f k + pick (ltb k n) (f k) 0

-- sums of uses add up at each place
pub line_sum : (u v w : ℕ → ℕ) (n : ℕ) → ((j : ℕ) → j < n → w j ≡ u j + v j) → (k : ℕ) → k ≤ n → line w n k ≡ line u n k + line v n k
unfolding line before
line_sum u v w n e zero l = omega (arith, pick_lt_add 0 n _ _ _ (e 0))
line_sum u v w n e (suc k) l = omega (arith, e k l, pick_lt_add (suc k) n _ _ _ (e (suc k)))

pub line_zero : (f : ℕ → ℕ) (n : ℕ) → ((j : ℕ) → f j ≡ 0) → (k : ℕ) → line f n k ≡ 0
unfolding line before
line_zero f n z zero = omega (arith, pick_zero (ltb 0 n) (f 0) (z 0))
line_zero f n z (suc k) = omega (arith, z k, pick_zero (ltb (suc k) n) (f (suc k)) (z (suc k)))

-- one use of one step is met at its two ends
pub line_single : (f : ℕ → ℕ) (n j : ℕ) → j < n → ((i : ℕ) → f i ≡ same j i) → (k : ℕ) → line f n k ≡ same j k + same (suc j) k
unfolding line before
line_single f n j l e k = omega (arith, to k, on (dec_lt k n))
  where
    to : (k : ℕ) → before f k ≡ same (suc j) k
    to zero = omega (arith, same_not (suc j) 0 (omega arith))
    to (suc k) = e k ∙ same_suc j k

    on : Dec (k < n) → pick (ltb k n) (f k) 0 ≡ same j k
    on (yes i) = pick_lt k n (f k) 0 i ∙ e k
    on (no i) = omega (arith, pick_ge k n (f k) 0 (omega arith), same_not j k (omega arith))

-- a step in use that leads to or from place k
pub record StepAt (f : ℕ → ℕ) (n k : ℕ) : Type 0 where
  pub step : ℕ
  pub inside : step < n
  pub positive : 0 < f step
  pub ends : (step ≡ k) ⊎ (suc step ≡ k)

pub line_used : (f : ℕ → ℕ) (n k : ℕ) → k ≤ n → 0 < line f n k → StepAt f n k
unfolding line before
line_used f n zero l p =
    let (i, q) = pick_lt_some 0 n (f 0) (omega arith) in
    record { step = 0; inside = i; positive = q; ends = inl refl }
line_used f n (suc k) l p =
    elim (dec_lt 0 (f k)) [
      | yes q ↦ record { step = k; inside = l; positive = q; ends = inr refl }
      | no z ↦
          let (i, q) = pick_lt_some (suc k) n (f (suc k)) (omega arith) in
          record { step = suc k; inside = i; positive = q; ends = inl refl }
    ]
