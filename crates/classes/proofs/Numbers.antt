-- The numbers of classes, passages and effects: which there are, and that a class is told by its numbers. Assumes nothing.
use Rattle.std.proofs.Common.{◌≡◌, ℕ, ◌%◌, ◌≤◌, false, Some, None, Option, refl, subst, inl, inr, arith}
use native.Mathlib.Decide.{ℕ_discrete}
use Rattle.aisle.specs.Costs.{
  Effect,
  nothing,
  from_front,
  from_back,
  both_ends,
  through_once,
  through_twice,
  effect_front,
  effect_back,
  effect_joins,
}
use Rattle.classes.specs.Classes.{
  Class,
  odd_odd,
  even_back,
  even_front,
  even_one,
  even_two,
  nothing_yet,
  closed,
  is_closed,
  class_front,
  class_back,
  class_joins,
  Passage,
  none,
  one_each,
  two_front,
  two_back,
  two_each,
  passage_front,
  passage_back,
  has_numbers,
  class_or,
  class_of,
}
use Rattle.classes.proofs.Tests.{picked, numbers_told}

-- numbers that an aisle and a beginning can have: both ends odd and linked, or both even; and linked ends both have something
pub record Proper (f b j : ℕ) : Type 0 where
  pub front_small : f ≤ 2
  pub back_small : b ≤ 2
  pub joins_small : j ≤ 1
  pub one_parity : f % 2 ≡ b % 2
  pub odd_joined : f % 2 ≤ j
  pub front_joined : j ≤ f
  pub back_joined : j ≤ b

pub class_proper : (c : Class) → Proper (class_front c) (class_back c) (class_joins c)
class_proper odd_odd = omega arith
class_proper even_back = omega arith
class_proper even_front = omega arith
class_proper even_one = omega arith
class_proper even_two = omega arith
class_proper nothing_yet = omega arith
class_proper closed = omega arith

pub effect_proper : (e : Effect) → Proper (effect_front e) (effect_back e) (effect_joins e)
effect_proper nothing = omega arith
effect_proper from_front = omega arith
effect_proper from_back = omega arith
effect_proper both_ends = omega arith
effect_proper through_once = omega arith
effect_proper through_twice = omega arith

-- the front and the back passage are used as often, or one is used twice and the other is not
pub record Paired (i k : ℕ) : Type 0 where
  pub front_small : i ≤ 2
  pub back_small : k ≤ 2
  pub one_parity : i % 2 ≡ k % 2

pub passage_paired : (p : Passage) → Paired (passage_front p) (passage_back p)
passage_paired none = omega arith
passage_paired one_each = omega arith
passage_paired two_front = omega arith
passage_paired two_back = omega arith
passage_paired two_each = omega arith

-- the passage with these numbers
pub record PassageOf (i k : ℕ) : Type 0 where
  pub passage : Passage
  pub front : passage_front passage ≡ i
  pub back : passage_back passage ≡ k

pub passage_of : {i k : ℕ} → Paired i k → PassageOf i k
passage_of {i} {k} paired =
    elim (ℕ_discrete i 1) [
      | yes a ↦ record { passage = one_each; front = omega arith; back = omega arith }
      | no a ↦
          elim (ℕ_discrete i 0) [
            | yes z ↦
                elim (ℕ_discrete k 0) [
                  | yes y ↦ record { passage = none; front = omega arith; back = omega arith }
                  | no y ↦ record { passage = two_back; front = omega arith; back = omega arith }
                ]
            | no z ↦
                elim (ℕ_discrete k 0) [
                  | yes y ↦ record { passage = two_front; front = omega arith; back = omega arith }
                  | no y ↦ record { passage = two_each; front = omega arith; back = omega arith }
                ]
          ]
    ]

-- the class of a tour that is not closed has these numbers
pub record Numbered (f b j : ℕ) (c : Class) : Type 0 where
  pub front : class_front c ≡ f
  pub back : class_back c ≡ b
  pub joins : class_joins c ≡ j
  pub going : is_closed c ≡ false

-- proper numbers are those of a class
pub class_with : {f b j : ℕ} → Proper f b j → (c : Class) × Numbered f b j c
class_with {f} {b} {j} proper =
    elim (ℕ_discrete f 1) [
      | yes a ↦ (odd_odd, record { front = omega arith; back = omega arith; joins = omega arith; going = refl })
      | no a ↦
          elim (ℕ_discrete f 0) [
            | yes z ↦
                elim (ℕ_discrete b 0) [
                  | yes y ↦ (nothing_yet, record { front = omega arith; back = omega arith; joins = omega arith; going = refl })
                  | no y ↦ (even_back, record { front = omega arith; back = omega arith; joins = omega arith; going = refl })
                ]
            | no z ↦
                elim (ℕ_discrete b 0) [
                  | yes y ↦ (even_front, record { front = omega arith; back = omega arith; joins = omega arith; going = refl })
                  | no y ↦
                      elim (ℕ_discrete j 0) [
                        | yes x ↦ (even_two, record { front = omega arith; back = omega arith; joins = omega arith; going = refl })
                        | no x ↦ (even_one, record { front = omega arith; back = omega arith; joins = omega arith; going = refl })
                      ]
                ]
          ]
    ]

-- the class of its own numbers
class_own : (c : Class) → is_closed c ≡ false → class_of (class_front c) (class_back c) (class_joins c) ≡ Some c
class_own odd_odd e = refl
class_own even_back e = refl
class_own even_front e = refl
class_own even_one e = refl
class_own even_two e = refl
class_own nothing_yet e = refl
class_own closed e = absurd (let z : ◌≡◌ {A = ℕ} 0 1 = cc in omega arith)

pub class_named : {f b j : ℕ} {c : Class} → Numbered f b j c → class_of f b j ≡ Some c
class_named {c = c} n = rw (← n.front, ← n.back, ← n.joins) (class_own c n.going)

module _ (f b j : ℕ) {d : Class} where
  told : (c : Class) → is_closed c ≡ false → ((class_front c ≡ f) × (class_back c ≡ b)) × (class_joins c ≡ j) → c ≡ d → Numbered f b j d
  told c going n same = subst (Numbered f b j) same (record { front = n.0.0; back = n.0.1; joins = n.1; going = going })

  class_or_numbered :
      (c : Class) {other : Option Class} → is_closed c ≡ false → (other ≡ Some d → Numbered f b j d) → class_or f b j c other ≡ Some d → Numbered f b j d
  class_or_numbered c {other} going rest e =
      elim (picked (Some c) other (has_numbers f b j c) e) [
        | inl (has, same) ↦ told c going ((numbers_told f b j c).0 has) (cc)
        | inr (lacks, e) ↦ rest e
      ]

  -- and back
  pub class_numbered : class_of f b j ≡ Some d → Numbered f b j d
  class_numbered =
      class_or_numbered odd_odd refl (class_or_numbered even_back refl (class_or_numbered even_front refl
      (class_or_numbered even_one refl (class_or_numbered even_two refl (class_or_numbered nothing_yet refl never)))))
    where
      never : None ≡ Some d → Numbered f b j d
      never e = absurd (let z : ◌≡◌ {A = ℕ} 0 1 = cc in omega arith)
