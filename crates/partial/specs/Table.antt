-- The table of partial tours: for each aisle and class the length of the shortest, and where it came from; and how a row is made of the row before.
-- Assumes nothing: these are definitions.
use Rattle.std.specs.Prelude.{ℕ, ◌+◌, ◌*◌, min, cond, List, [], ◌∷◌, Some, None, nat_lt, slice_index, slice_set}
use Rattle.aisle.specs.Costs.{Effect, nothing, from_front, from_back, both_ends, through_once, through_twice}
use Rattle.partial.specs.Prices.{never}
use Rattle.classes.specs.Classes.{Class, odd_odd, even_back, even_front, even_one, even_two, nothing_yet, closed, Passage, none, one_each, two_front, two_back, two_each, passage_front, passage_back, transition, opening}

-- the place of a class in its row, of passages and of an effect in a choice
abbrev pub class_place : Class → ℕ
class_place odd_odd = 0
class_place even_back = 1
class_place even_front = 2
class_place even_one = 3
class_place even_two = 4
class_place nothing_yet = 5
class_place closed = 6

abbrev pub passage_place : Passage → ℕ
passage_place none = 0
passage_place one_each = 1
passage_place two_front = 2
passage_place two_back = 3
passage_place two_each = 4

abbrev pub effect_place : Effect → ℕ
effect_place nothing = 0
effect_place from_front = 1
effect_place from_back = 2
effect_place both_ends = 3
effect_place through_once = 4
effect_place through_twice = 5

-- the cell of a class in the row of an aisle
abbrev pub cell : ℕ → Class → ℕ
cell a c = 7 * a + class_place c

-- the number that stands for a choice: the class before, the passages, and the effect of the aisle's use
abbrev pub choice_number : Class → Passage → Effect → ℕ
choice_number c p e = 30 * class_place c + 6 * passage_place p + effect_place e

-- lengths, and where each came from
pub record Tables : Type 0 where
  pub lengths : List ℕ
  pub came : List ℕ

abbrev pub tables : List ℕ → List ℕ → Tables
tables ls cs = record { lengths = ls; came = cs }

-- a sum that never passes never
abbrev pub plus : ℕ → ℕ → ℕ
plus m n = min (m + n) never

-- a cell takes an offer that is shorter than what it holds
unfoldable pub offer : ℕ → ℕ → ℕ → Tables → Tables
offer i w k t = cond (nat_lt w (slice_index t.lengths i)) (tables (slice_set t.lengths i w) (slice_set t.came i k)) t

-- the length of passages
abbrev pub toll : ℕ → Passage → ℕ
toll apart p = (passage_front p + passage_back p) * apart

-- the offer of one choice to aisle a + 1, where it leads on
unfoldable pub go : ℕ → (Effect → ℕ) → ℕ → Class → Passage → Effect → Tables → Tables
go apart prices a c p e t =
    elim (transition c p e) [
      | None ↦ t
      | Some d ↦ offer (cell (a + 1) d) (plus (plus (slice_index t.lengths (cell a c)) (toll apart p)) (prices e)) (choice_number c p e) t
    ]

-- the offers of one class over given passages, for each effect
unfoldable pub extend : ℕ → (Effect → ℕ) → ℕ → Class → Passage → Tables → Tables
extend apart prices a c p t =
    go apart prices a c p through_twice (go apart prices a c p through_once (go apart prices a c p both_ends
    (go apart prices a c p from_back (go apart prices a c p from_front (go apart prices a c p nothing t)))))

-- a cell without a partial tour, and a row of such cells
unfoldable pub blanked : ℕ → Tables → Tables
blanked i t = tables (slice_set t.lengths i never) (slice_set t.came i 0)

unfoldable pub cleared : ℕ → Tables → Tables
cleared a t =
    blanked (7 * a + 6) (blanked (7 * a + 5) (blanked (7 * a + 4) (blanked (7 * a + 3) (blanked (7 * a + 2) (blanked (7 * a + 1) (blanked (7 * a) t))))))

-- the passages over which each class goes on
abbrev pub moves : List (Class × Passage)
moves =
    (odd_odd, one_each) ∷ (even_back, none) ∷ (even_back, two_back) ∷ (even_back, two_each) ∷ (even_front, none) ∷ (even_front, two_front) ∷ (even_front, two_each) ∷ (even_one, none) ∷ (even_one, two_front) ∷ (even_one, two_back) ∷ (even_one, two_each) ∷ (even_two, two_each) ∷ (nothing_yet, none) ∷ (nothing_yet, two_front) ∷ (nothing_yet, two_back) ∷ (nothing_yet, two_each) ∷ (closed, none) ∷ []

-- the offers of the moves, one after the other
unfoldable pub spread : ℕ → (Effect → ℕ) → ℕ → List (Class × Passage) → Tables → Tables
spread apart prices a [] t = t
spread apart prices a (m ∷ ms) t = spread apart prices a ms (extend apart prices a m.0 m.1 t)

-- the row of aisle a + 1 from that of aisle a
unfoldable pub next_row : ℕ → (Effect → ℕ) → ℕ → Tables → Tables
next_row apart prices a t = spread apart prices a moves (cleared (a + 1) t)

-- the offer of an effect in aisle 0
unfoldable pub opened : (Effect → ℕ) → Effect → Tables → Tables
opened prices e t = elim (opening e) [ None ↦ t | Some c ↦ offer (cell 0 c) (prices e) (choice_number nothing_yet none e) t ]

-- the row of aisle 0
unfoldable pub first_row : (Effect → ℕ) → Tables → Tables
first_row prices t =
    opened prices through_twice (opened prices through_once (opened prices both_ends (opened prices from_back (opened prices from_front (opened prices nothing (cleared 0 t))))))
