-- What the tests of the rule for classes tell. Assumes nothing.
use Rattle.std.proofs.Common.{◌≡◌, ℕ, ◌+◌, ◌%◌, ◌<◌, ◌≤◌, min, Bool, true, false, ◌&&◌, leb, ◌⊎◌, Decides, refl, inl, inr, arith, le-leb, leb-true}
use native.Mathlib.Decide.{dec_lt}
use Rattle.std.proofs.lemmas.Bool.Decides.{Decides-eqb, Decides-ltb, Decides-and, Decides-like}
use Rattle.graph.proofs.Rules.{Accepted, Closed}
use Rattle.uses.specs.Uses.{pick}
use Rattle.aisle.specs.Costs.{Effect}
use Rattle.classes.specs.Classes.{Class, class_front, class_back, class_joins, Passage, even, leads_on, may_close, has_numbers, new_uses, idle, begun, closes}

-- a test picks the first with the answer true, or the second with the answer false
abbrev pub Picked : {A : Type 0} → Bool → A → A → A → Type 0
Picked b x y z = ((b ≡ true) × (x ≡ z)) ⊎ ((b ≡ false) × (y ≡ z))

pub picked : {A : Type 0} (x y : A) {z : A} (b : Bool) → pick b x y ≡ z → Picked b x y z
picked x y true e = inl (refl, e)
picked x y false e = inr (refl, e)

pub pick_true : {A : Type 0} (x y : A) {b : Bool} → b ≡ true → pick b x y ≡ x
pick_true x y e = rw e

pub pick_false : {A : Type 0} (x y : A) {b : Bool} → b ≡ false → pick b x y ≡ y
pick_false x y e = rw e

pub true_or_false : (b : Bool) → (b ≡ true) ⊎ (b ≡ false)
true_or_false true = inl refl
true_or_false false = inr refl

decides_leb : (m n : ℕ) → Decides (leb m n) (m ≤ n)
decides_leb m n = (leb-true m n, le-leb m n)

decides_even : (n : ℕ) → Decides (even n) (n % 2 ≡ 0)
decides_even n = Decides-eqb (n % 2) 0

-- n is positive where m is
positive_if : (m n : ℕ) → (0 < m → 0 < n) → min 1 m ≤ n
positive_if m n goes = elim (dec_lt 0 m) [ yes p ↦ omega (arith, goes p) | no p ↦ omega arith ]

pub leads_on_told : (f b j i k : ℕ) → Decides (leads_on f b j i k) (Accepted f b j i k)
leads_on_told f b j i k =
    Decides-like _ made parts
    (Decides-and _ _ (Decides-and _ _ (Decides-and _ _ (decides_even (f + i)) (decides_even (b + k))) (decides_leb (min 1 f) (i + j)))
    (decides_leb (min 1 b) (k + min i j)))
  where
    Parts : Type 0
    Parts = ((((f + i) % 2 ≡ 0) × ((b + k) % 2 ≡ 0)) × (min 1 f ≤ i + j)) × (min 1 b ≤ k + min i j)

    made : Parts → Accepted f b j i k
    made p = omega arith

    parts : Accepted f b j i k → Parts
    parts a = omega (arith, positive_if f (i + j) a.front_goes_on, positive_if b (k + min i j) a.back_goes_on)

pub may_close_told : (f b j : ℕ) → Decides (may_close f b j) (Closed f b j)
may_close_told f b j =
    Decides-like _ made parts (Decides-and _ _ (Decides-and _ _ (decides_even f) (decides_even b)) (decides_leb (min 1 (min f b)) j))
  where
    Parts : Type 0
    Parts = ((f % 2 ≡ 0) × (b % 2 ≡ 0)) × (min 1 (min f b) ≤ j)

    made : Parts → Closed f b j
    made p = omega arith

    parts : Closed f b j → Parts
    parts c = omega (arith, positive_if (min f b) j (λ p. c.joined (omega arith) (omega arith)))

pub numbers_told : (f b j : ℕ) (c : Class) → Decides (has_numbers f b j c) (((class_front c ≡ f) × (class_back c ≡ b)) × (class_joins c ≡ j))
numbers_told f b j c = Decides-and _ _ (Decides-and _ _ (Decides-eqb (class_front c) f) (Decides-eqb (class_back c) b)) (Decides-eqb (class_joins c) j)

pub idle_told : (p : Passage) (e : Effect) → Decides (idle p e) (new_uses p e ≡ 0)
idle_told p e = Decides-eqb (new_uses p e) 0

pub begun_told : (c : Class) → Decides (begun c) (0 < class_front c + class_back c)
begun_told c = Decides-ltb 0 (class_front c + class_back c)

-- a begun tour that may be closed, and then nothing is used
pub closing_told :
    (c : Class) (p : Passage) (e : Effect) →
    Decides (idle p e && begun c && closes c)
    (((new_uses p e ≡ 0) × (0 < class_front c + class_back c)) × (closes c ≡ true))
closing_told c p e = Decides-and _ _ (Decides-and _ _ (idle_told p e) (begun_told c)) (λ t. t, λ t. t)
