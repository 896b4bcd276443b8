-- What is promised of the classes of partial tours: each is a statement, a type whose proof is owed. Assumes nothing.
use Rattle.std.specs.Prelude.{◌≡◌, ◌+◌, ◌%◌, ◌<◌, min, true, false, ◌⊎◌, ◌↔◌, Some}
use Rattle.aisle.specs.Costs.{Effect, effect_front, effect_back, effect_joins}
use Rattle.classes.specs.Classes.{Alike, Class, closed, is_closed, class_front, class_back, class_joins, Passage, passage_front, passage_back, new_uses, transition}

-- the rule for ends and link: the passages make both ends even, and what is at an end goes on over its passage, or is linked with the other end
-- and goes on there; at the new ends are the passages and the aisle's uses, linked over both passages or within the aisle
pub record Leads (c : Class) (p : Passage) (e : Effect) (d : Class) : Type 0 where
  pub front_even : (class_front c + passage_front p) % 2 ≡ 0
  pub back_even : (class_back c + passage_back p) % 2 ≡ 0
  pub front_goes_on : 0 < class_front c → 0 < passage_front p + class_joins c
  pub back_goes_on : 0 < class_back c → 0 < passage_back p + min (passage_front p) (class_joins c)
  pub new_front : Alike (passage_front p + effect_front e) (class_front d)
  pub new_back : Alike (passage_back p + effect_back e) (class_back d)
  pub new_joins : min 1 (min (passage_back p) (min (passage_front p) (class_joins c)) + effect_joins e) ≡ class_joins d

-- as long as the tour is not closed, the transitions are those of the rule for ends and link
abbrev pub TransitionsByRule : Type 0
TransitionsByRule =
    (c d : Class) (p : Passage) (e : Effect) → is_closed c ≡ false → is_closed d ≡ false → (transition c p e ≡ Some d) ↔ Leads c p e d

-- the rule for closing: neither the passages nor the aisle are used, the uses so far are even and in one piece, and there are some, or the tour was closed
pub record Shuts (c : Class) (p : Passage) (e : Effect) : Type 0 where
  pub unused : new_uses p e ≡ 0
  pub front_even : class_front c % 2 ≡ 0
  pub back_even : class_back c % 2 ≡ 0
  pub one_piece : 0 < class_front c → 0 < class_back c → 0 < class_joins c
  pub some_use : (is_closed c ≡ true) ⊎ (0 < class_front c + class_back c)

-- a tour is closed, or stays closed, by that rule
abbrev pub ClosingsByRule : Type 0
ClosingsByRule = (c : Class) (p : Passage) (e : Effect) → (transition c p e ≡ Some closed) ↔ Shuts c p e
