-- A choice is told by its number, and a class by its place. Assumes nothing.
use Rattle.std.proofs.Common.{◌≡◌, ℕ, ◌+◌, ◌*◌, ◌/◌, ◌%◌, ◌≤◌, zero, suc, sym, refl, ap, ◌∙◌, arith}
use Rattle.aisle.specs.Costs.{Effect, nothing, from_front, from_back, both_ends, through_once, through_twice}
use Rattle.classes.specs.Classes.{
  Class,
  odd_odd,
  even_back,
  even_front,
  even_one,
  even_two,
  nothing_yet,
  closed,
  Passage,
  none,
  one_each,
  two_front,
  two_back,
  two_each,
}
use Rattle.aisle.specs.Values.{effect_of}
use Rattle.classes.specs.Values.{class_of, passage_of}
use Rattle.partial.specs.Choice.{number_of, StandsFor}
use Rattle.partial.specs.declared.choice.Choice.{Choice}
use Rattle.partial.specs.Table.{class_place, passage_place, effect_place, choice_number}
use Rattle.partial.specs.Tracing.{class_by, passage_by, effect_by, choice_class, choice_passage, choice_effect}

pub class_place_small : (c : Class) → class_place c ≤ 6
class_place_small odd_odd = omega arith
class_place_small even_back = omega arith
class_place_small even_front = omega arith
class_place_small even_one = omega arith
class_place_small even_two = omega arith
class_place_small nothing_yet = omega arith
class_place_small closed = omega arith

passage_place_small : (p : Passage) → passage_place p ≤ 4
passage_place_small none = omega arith
passage_place_small one_each = omega arith
passage_place_small two_front = omega arith
passage_place_small two_back = omega arith
passage_place_small two_each = omega arith

effect_place_small : (e : Effect) → effect_place e ≤ 5
effect_place_small nothing = omega arith
effect_place_small from_front = omega arith
effect_place_small from_back = omega arith
effect_place_small both_ends = omega arith
effect_place_small through_once = omega arith
effect_place_small through_twice = omega arith

class_by_place : (c : Class) → class_by (class_place c) ≡ c
class_by_place odd_odd = refl
class_by_place even_back = refl
class_by_place even_front = refl
class_by_place even_one = refl
class_by_place even_two = refl
class_by_place nothing_yet = refl
class_by_place closed = refl

passage_by_place : (p : Passage) → passage_by (passage_place p) ≡ p
passage_by_place none = refl
passage_by_place one_each = refl
passage_by_place two_front = refl
passage_by_place two_back = refl
passage_by_place two_each = refl

effect_by_place : (e : Effect) → effect_by (effect_place e) ≡ e
effect_by_place nothing = refl
effect_by_place from_front = refl
effect_by_place from_back = refl
effect_by_place both_ends = refl
effect_by_place through_once = refl
effect_by_place through_twice = refl

-- no two classes have one place
pub class_of_place : (c d : Class) → class_place c ≡ class_place d → c ≡ d
class_of_place c d e = sym (class_by_place c) ∙ ap class_by e ∙ class_by_place d

-- the digits of a choice's number
first_digit : (x y z : ℕ) → y ≤ 4 → z ≤ 5 → (30 * x + 6 * y + z) / 30 ≡ x
first_digit x y z k l = omega arith

second_digit : (x y z : ℕ) → y ≤ 4 → z ≤ 5 → (30 * x + 6 * y + z) / 6 % 5 ≡ y
second_digit x y z k l = omega arith

third_digit : (x y z : ℕ) → z ≤ 5 → (30 * x + 6 * y + z) % 6 ≡ z
third_digit x y z l = omega arith

module _ (c : Class) (p : Passage) (e : Effect) where
  pub class_of_number : choice_class (choice_number c p e) ≡ c
  class_of_number = ap class_by (first_digit (class_place c) (passage_place p) (effect_place e) (passage_place_small p) (effect_place_small e)) ∙ class_by_place c

  pub passage_of_number : choice_passage (choice_number c p e) ≡ p
  passage_of_number =
      ap passage_by (second_digit (class_place c) (passage_place p) (effect_place e) (passage_place_small p) (effect_place_small e)) ∙ passage_by_place p

  pub effect_of_number : choice_effect (choice_number c p e) ≡ e
  effect_of_number = ap effect_by (third_digit (class_place c) (passage_place p) (effect_place e) (effect_place_small e)) ∙ effect_by_place e

-- and back: a place by what stands at it
place_of_class : (n : ℕ) → n ≤ 6 → class_place (class_by n) ≡ n
place_of_class zero l = refl
place_of_class (suc zero) l = refl
place_of_class (suc (suc zero)) l = refl
place_of_class (suc (suc (suc zero))) l = refl
place_of_class (suc (suc (suc (suc zero)))) l = refl
place_of_class (suc (suc (suc (suc (suc zero))))) l = refl
place_of_class (suc (suc (suc (suc (suc (suc zero)))))) l = refl
place_of_class (suc (suc (suc (suc (suc (suc (suc n))))))) l = absurd (omega arith)

place_of_passage : (n : ℕ) → n ≤ 4 → passage_place (passage_by n) ≡ n
place_of_passage zero l = refl
place_of_passage (suc zero) l = refl
place_of_passage (suc (suc zero)) l = refl
place_of_passage (suc (suc (suc zero))) l = refl
place_of_passage (suc (suc (suc (suc zero)))) l = refl
place_of_passage (suc (suc (suc (suc (suc n))))) l = absurd (omega arith)

place_of_effect : (n : ℕ) → n ≤ 5 → effect_place (effect_by n) ≡ n
place_of_effect zero l = refl
place_of_effect (suc zero) l = refl
place_of_effect (suc (suc zero)) l = refl
place_of_effect (suc (suc (suc zero))) l = refl
place_of_effect (suc (suc (suc (suc zero)))) l = refl
place_of_effect (suc (suc (suc (suc (suc zero))))) l = refl
place_of_effect (suc (suc (suc (suc (suc (suc n)))))) l = absurd (omega arith)

pub number_small : (c : Class) (p : Passage) (e : Effect) → choice_number c p e ≤ 209
number_small c p e = omega (arith, class_place_small c, passage_place_small p, effect_place_small e)

-- the choice that a number stands for has that number
pub number_stands : (n : ℕ) (c : Choice) → n ≤ 209 → StandsFor n c → number_of c ≡ n
number_stands n c l s =
    let x : class_place (class_of c.class) ≡ n / 30 = ap class_place s.class ∙ place_of_class (n / 30) (omega arith) in
    let y : passage_place (passage_of c.passage) ≡ n / 6 % 5 = ap passage_place s.passage ∙ place_of_passage (n / 6 % 5) (omega arith) in
    let z : effect_place (effect_of c.effect) ≡ n % 6 = ap effect_place s.effect ∙ place_of_effect (n % 6) (omega arith) in
    omega arith
