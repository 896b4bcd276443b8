-- The nearest stop up to a depth and the nearest from a depth on, where stops can be told. Assumes nothing.
use Rattle.std.proofs.Common.{◌≡◌, ℕ, zero, suc, ◌+◌, ◌-◌, ◌<◌, ◌≤◌, ◌⊎◌, subst, inl, inr, arith}
use native.Mathlib.Decide.{dec_lt}

-- the least number of which P holds
pub record Least (P : ℕ → Type 0) : Type 0 where
  pub least : ℕ
  pub holds : P least
  pub none_below : (k : ℕ) → k < least → ¬ (P k)

-- of all numbers below n none, or there is a least
none_or_least : (P : ℕ → Type 0) → ((k : ℕ) → Dec (P k)) → (n : ℕ) → ((k : ℕ) → k < n → ¬ (P k)) ⊎ Least P
none_or_least P decide zero = inl (λ k l. absurd (omega arith))
none_or_least P decide (suc n) = more (none_or_least P decide n) (decide n)
  where
    more : ((k : ℕ) → k < n → ¬ (P k)) ⊎ Least P → Dec (P n) → ((k : ℕ) → k < suc n → ¬ (P k)) ⊎ Least P
    more (inr l) d = inr l
    more (inl none) (yes p) = inr record { least = n; holds = p; none_below = none }
    more (inl none) (no p) =
        inl (λ k l. elim (dec_lt k n) [ yes z ↦ none k z | no z ↦ let e : k ≡ n = omega arith in λ q. p (subst P e q) ])

-- a decidable statement that holds of some number holds of a least one
pub least_of : (P : ℕ → Type 0) → ((k : ℕ) → Dec (P k)) → (n : ℕ) → P n → Least P
least_of P decide n p = elim (none_or_least P decide (suc n)) [ inl none ↦ absurd (none n (omega arith) p) | inr l ↦ l ]

-- the last stop up to a depth p, and the first from a depth q on
pub record LastStop (stop : ℕ → Type 0) (p : ℕ) : Type 0 where
  pub at : ℕ
  pub side : at ≤ p
  pub is_stop : stop at
  pub none_nearer : (y : ℕ) → at < y → y ≤ p → ¬ (stop y)

pub record FirstStop (stop : ℕ → Type 0) (q deep : ℕ) : Type 0 where
  pub at : ℕ
  pub side : q ≤ at
  pub inside : at ≤ deep
  pub is_stop : stop at
  pub none_nearer : (y : ℕ) → q ≤ y → y < at → ¬ (stop y)

module _ (stop : ℕ → Type 0) (stop? : (y : ℕ) → Dec (stop y)) where
  pub last_stop : stop 0 → (p : ℕ) → LastStop stop p
  last_stop front p = nearest (least_of (λ k. stop (p - k)) (λ k. stop? (p - k)) p (subst stop (omega arith) front))
    where
      nearest : Least (λ k. stop (p - k)) → LastStop stop p
      nearest l =
          record {
            at = p - l.least;
            side = omega arith;
            is_stop = l.holds;
            none_nearer = λ y j k s. l.none_below (p - y) (omega arith) (subst stop (omega arith) s);
          }

  pub first_stop : (q deep : ℕ) → q ≤ deep → stop deep → FirstStop stop q deep
  first_stop q deep i back = nearest (least_of (λ k. stop (q + k)) (λ k. stop? (q + k)) (deep - q) at_back)
    where
      at_back : stop (q + (deep - q))
      at_back = subst stop (omega arith) back

      nearest : Least (λ k. stop (q + k)) → FirstStop stop q deep
      nearest l =
          record {
            at = q + l.least;
            side = omega arith;
            inside = elim (dec_lt (deep - q) l.least) [ yes z ↦ absurd (l.none_below (deep - q) z at_back) | no z ↦ omega arith ];
            is_stop = l.holds;
            none_nearer = λ y j k s. l.none_below (y - q) (omega arith) (subst stop (omega arith) s);
          }
