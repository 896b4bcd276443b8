-- Of the steps of an aisle all are used, or there are a first and a last that are not. Assumes nothing.
use Rattle.std.proofs.Common.{◌≡◌, ℕ, zero, suc, ◌<◌, ◌≤◌, arith}
use native.Mathlib.Decide.{dec_lt}

-- the first and the last of n steps that are not used
pub record Unused (f : ℕ → ℕ) (n : ℕ) : Type 0 where
  pub first : ℕ
  pub last : ℕ
  pub ordered : first ≤ last
  pub inside : last < n
  pub first_unused : f first ≡ 0
  pub last_unused : f last ≡ 0
  pub before : (y : ℕ) → y < first → 0 < f y
  pub after : (y : ℕ) → last < y → y < n → 0 < f y

pub data Search (f : ℕ → ℕ) (n : ℕ) : Type 0 where
  all_used : ((y : ℕ) → y < n → 0 < f y) → Search f n
  some_unused : Unused f n → Search f n

-- what holds below n, and at n, holds below n + 1
used_more : (f : ℕ → ℕ) (k n : ℕ) → ((y : ℕ) → k ≤ y → y < n → 0 < f y) → 0 < f n → (y : ℕ) → k ≤ y → y < suc n → 0 < f y
used_more f k n used p y j l = elim (dec_lt y n) [ yes z ↦ used y j z | no z ↦ let e : y ≡ n = omega arith in rw e p ]

-- the same with one step more
one_more : (f : ℕ → ℕ) (n : ℕ) → Search f n → Dec (0 < f n) → Search f (suc n)
one_more f n (all_used used) (yes p) = all_used (λ y l. used_more f 0 n (λ y j l. used y l) p y (omega arith) l)
one_more f n (all_used used) (no p) =
    some_unused
    record {
      first = n;
      last = n;
      ordered = omega arith;
      inside = omega arith;
      first_unused = omega arith;
      last_unused = omega arith;
      before = used;
      after = λ y l k. absurd (omega arith);
    }
one_more f n (some_unused u) (yes p) =
    some_unused
    record {
      first = u.first;
      last = u.last;
      ordered = u.ordered;
      inside = omega arith;
      first_unused = u.first_unused;
      last_unused = u.last_unused;
      before = u.before;
      after = used_more f (suc u.last) n u.after p;
    }
one_more f n (some_unused u) (no p) =
    some_unused
    record {
      first = u.first;
      last = n;
      ordered = omega arith;
      inside = omega arith;
      first_unused = u.first_unused;
      last_unused = omega arith;
      before = u.before;
      after = λ y l k. absurd (omega arith);
    }

pub first_and_last_unused : (f : ℕ → ℕ) (n : ℕ) → Search f n
first_and_last_unused f zero = all_used (λ y l. absurd (omega arith))
first_and_last_unused f (suc n) = one_more f n (first_and_last_unused f n) (dec_lt 0 (f n))

-- between the first unused step and the last none is used and there is no stop
pub record CutOut (stop : ℕ → Type 0) (f : ℕ → ℕ) {n : ℕ} (u : Unused f n) : Type 0 where
  pub unused : (y : ℕ) → u.first ≤ y → y ≤ u.last → f y ≡ 0
  pub no_stop : (y : ℕ) → u.first < y → y ≤ u.last → ¬ (stop y)
