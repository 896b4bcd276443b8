-- The widest gap of an ascending list lies between two neighbours and is as wide as that between any two. Assumes nothing.
use Rattle.std.proofs.Common.{◌≡◌, ℕ, ◌-◌, ◌<◌, ◌≤◌, ◌⊎◌, List, [], ◌∷◌, inl, inr, arith}
use native.Mathlib.Decide.{dec_le}
use Rattle.aisle.specs.Costs.{Among, wider, widest}
use Rattle.aisle.specs.Kinds.{Neighbours}
use Rattle.aisle.proofs.Ascending.{Rises, among_first, among_rest, first_or_rest, rises_among}
use Rattle.aisle.proofs.Tests.{pick_either}

-- neighbouring stops of which neither is the front nor the back
pub record Inner (deep : ℕ) (stop : ℕ → Type 0) (lo hi : ℕ) : Type 0 where
  pub neighbours : Neighbours deep stop lo hi
  pub off_front : 0 < lo
  pub off_back : hi < deep

-- a gap lies between inner neighbours if it is not empty, and those up to depth d are no wider
pub record WidestTo (deep : ℕ) (stop : ℕ → Type 0) (d : ℕ) (g : ℕ × ℕ) : Type 0 where
  pub gap : g.0 < g.1 → Inner deep stop g.0 g.1
  pub no_wider : (p q : ℕ) → Inner deep stop p q → q ≤ d → q - p ≤ g.1 - g.0

-- the stops inside an aisle: those up to d, of which d is the last, and then xs
pub record Ahead (deep : ℕ) (stop : ℕ → Type 0) (d : ℕ) (xs : List ℕ) : Type 0 where
  pub off_front : 0 < d
  pub off_back : d < deep
  pub here : stop d
  pub rises : Rises d xs
  pub ahead : (y : ℕ) → Among xs y → stop y × (y < deep)
  pub told : (y : ℕ) → stop y → y < deep → (y ≤ d) ⊎ Among xs y

module _ {deep : ℕ} {stop : ℕ → Type 0} where
  ahead_next : {d x : ℕ} {xs : List ℕ} → Ahead deep stop d (x ∷ xs) → Ahead deep stop x xs
  ahead_next {d} {x} {xs} a =
      record {
        off_front = omega (arith, a.off_front, a.rises.0);
        off_back = (a.ahead x (among_first x xs)).1;
        here = (a.ahead x (among_first x xs)).0;
        rises = a.rises.1;
        ahead = λ y m. a.ahead y (among_rest x xs m);
        told = λ y s l. told y (a.told y s l);
      }
    where
      told : (y : ℕ) → (y ≤ d) ⊎ Among (x ∷ xs) y → (y ≤ x) ⊎ Among xs y
      told y (inl l) = inl (omega (arith, a.rises.0))
      told y (inr m) = elim (first_or_rest x xs y m) [ inl e ↦ inl (omega arith) | inr n ↦ inr n ]

  -- there is no stop between d and the next
  none_skipped : {d x : ℕ} {xs : List ℕ} → Ahead deep stop d (x ∷ xs) → (y : ℕ) → d < y → y < x → stop y → ⊥
  none_skipped {d} {x} {xs} a y i j s = skipped (a.told y s (omega (arith, (a.ahead x (among_first x xs)).1)))
    where
      skipped : (y ≤ d) ⊎ Among (x ∷ xs) y → ⊥
      skipped (inl l) = omega arith
      skipped (inr m) = elim (first_or_rest x xs y m) [ inl e ↦ omega arith | inr n ↦ omega (arith, rises_among x xs y a.rises.1 n) ]

  next_inner : {d x : ℕ} {xs : List ℕ} → Ahead deep stop d (x ∷ xs) → d < x → Inner deep stop d x
  next_inner {d} {x} {xs} a l =
      let (s, j) = a.ahead x (among_first x xs) in
      record {
        neighbours = record { apart = l; inside = omega arith; stop_lo = a.here; stop_hi = s; none_between = none_skipped a };
        off_front = a.off_front;
        off_back = j;
      }

  -- inner neighbours up to x are up to d, or are d and x themselves
  next_or_before : {d x p q : ℕ} {xs : List ℕ} → Ahead deep stop d (x ∷ xs) → Inner deep stop p q → q ≤ x → (q ≤ d) ⊎ ((p ≡ d) × (q ≡ x))
  next_or_before {d} {x} {p} {q} a n l =
      elim (dec_le q d) [
        | yes k ↦ inl k
        | no k ↦
            let m = n.neighbours in
            let high : ¬ (q < x) = λ j. none_skipped a q (omega arith) j m.stop_hi in
            let low : ¬ (p < d) = λ j. m.none_between d j (omega arith) a.here in
            let same : ¬ (d < p) = λ j. none_skipped a p j (omega (arith, m.apart)) m.stop_lo in
            inr (omega arith, omega arith)
      ]

  wider_widest : {d x : ℕ} {xs : List ℕ} (g : ℕ × ℕ) → Ahead deep stop d (x ∷ xs) → WidestTo deep stop d g → WidestTo deep stop x (wider g (d, x))
  wider_widest {d} {x} g a w = pick_either (WidestTo deep stop x) (g.1 - g.0) (x - d) (d, x) g next before
    where
      -- the gap from d to x is no wider than w, and neither is any up to d
      covered : (w p q : ℕ) → Inner deep stop p q → g.1 - g.0 ≤ w → x - d ≤ w → (q ≤ d) ⊎ ((p ≡ d) × (q ≡ x)) → q - p ≤ w
      covered v p q n i j (inl l) = omega (arith, w.no_wider p q n l)
      covered v p q n i j (inr (e, f)) = omega arith

      next : g.1 - g.0 < x - d → WidestTo deep stop x (d, x)
      next l = record { gap = next_inner a; no_wider = λ p q n k. covered (x - d) p q n (omega arith) (omega arith) (next_or_before a n k) }

      before : x - d ≤ g.1 - g.0 → WidestTo deep stop x g
      before l = record { gap = w.gap; no_wider = λ p q n k. covered (g.1 - g.0) p q n (omega arith) l (next_or_before a n k) }

  pub widest_gap : (g : ℕ × ℕ) (d : ℕ) (xs : List ℕ) → Ahead deep stop d xs → WidestTo deep stop d g → WidestTo deep stop deep (widest g d xs)
  unfolding widest
  widest_gap g d [] a w = record { gap = w.gap; no_wider = λ p q n l. w.no_wider p q n (last q (a.told q n.neighbours.stop_hi n.off_back)) }
    where
      last : (q : ℕ) → (q ≤ d) ⊎ Among [] q → q ≤ d
      last q (inl l) = l
      last q (inr m) = absurd (omega (arith, m.1))
  widest_gap g d (x ∷ xs) a w = widest_gap (wider g (d, x)) x xs (ahead_next a) (wider_widest g a w)
