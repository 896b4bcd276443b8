-- The choices of the plan that leads to a class of the last row, read back from where each partial tour came. Assumes nothing: these are definitions.
use Rattle.std.specs.Prelude.{ℕ, zero, suc, ◌-◌, ◌/◌, ◌%◌, ◌<◌, ◌≤◌, cond, List, ◌==◌, slice_index}
use Rattle.aisle.specs.Costs.{Effect, nothing, from_front, from_back, both_ends, through_once, through_twice}
use Rattle.classes.specs.Classes.{Class, odd_odd, even_back, even_front, even_one, even_two, nothing_yet, closed, Passage, none, one_each, two_front, two_back, two_each}
use Rattle.partial.specs.Table.{cell}

-- by their places
abbrev pub class_by : ℕ → Class
class_by n =
    cond (n == 0) odd_odd (cond (n == 1) even_back (cond (n == 2) even_front (cond (n == 3) even_one (cond (n == 4) even_two (cond (n == 5) nothing_yet closed)))))

abbrev pub passage_by : ℕ → Passage
passage_by n = cond (n == 0) none (cond (n == 1) one_each (cond (n == 2) two_front (cond (n == 3) two_back two_each)))

abbrev pub effect_by : ℕ → Effect
effect_by n =
    cond (n == 0) nothing (cond (n == 1) from_front (cond (n == 2) from_back (cond (n == 3) both_ends (cond (n == 4) through_once through_twice))))

-- the parts of a choice by its number
abbrev pub choice_class : ℕ → Class
choice_class n = class_by (n / 30)

abbrev pub choice_passage : ℕ → Passage
choice_passage n = passage_by (n / 6 % 5)

abbrev pub choice_effect : ℕ → Effect
choice_effect n = effect_by (n % 6)

-- the class k aisles before the last one, of the plan that ends in a class
unfoldable pub class_back : ℕ → List ℕ → Class → ℕ → Class
class_back aisles came end zero = end
class_back aisles came end (suc k) = choice_class (slice_index came (cell (aisles - 1 - k) (class_back aisles came end k)))

-- the choice of that plan at an aisle
abbrev pub chosen : ℕ → List ℕ → Class → ℕ → ℕ
chosen aisles came end a = slice_index came (cell a (class_back aisles came end (aisles - 1 - a)))

-- every entry in the rows of so many aisles is the number of a choice
abbrev pub EachChoice : ℕ → List ℕ → Type 0
EachChoice aisles came = (a : ℕ) (c : Class) → a < aisles → slice_index came (cell a c) ≤ 209
