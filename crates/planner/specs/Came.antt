-- What the table says of where each partial tour came from. Assumes nothing: these are definitions.
use Rattle.std.specs.Prelude.{◌≡◌, ℕ, suc, ◌+◌, ◌<◌, cond, List, Some, None, Option, nat_lt, slice_index}
use Rattle.house.specs.House.{House}
use Rattle.aisle.specs.Costs.{Use, use_cost, best}
use Rattle.classes.specs.Classes.{Class, transition, opening}
use Rattle.planner.specs.Plans.{passage_cost}
use Rattle.partial.specs.Prices.{never}
use Rattle.partial.specs.Table.{cell}
use Rattle.partial.specs.Tracing.{choice_class, choice_passage, choice_effect}

-- a length, or none where it is never
abbrev pub length_in : ℕ → Option ℕ
length_in w = cond (nat_lt w never) (Some w) None

-- the row of an aisle in a table of lengths
abbrev pub row_of : List ℕ → ℕ → Class → Option ℕ
row_of lengths a c = length_in (slice_index lengths (cell a c))

-- the choice with number n opens class c in aisle 0 at the cost w
pub record FirstChoice (h : House) (ds : ℕ → List ℕ) (n : ℕ) (c : Class) (w : ℕ) : Type 0 where
  pub way : Use
  pub opens : opening (choice_effect n) ≡ Some c
  pub is_best : best h.deep (ds 0) (choice_effect n) ≡ Some way
  pub costs : w ≡ use_cost h.deep way

-- the choice with number n leads from a class in the row of aisle a to class c in the next at the cost w
pub record LaterChoice (h : House) (ds : ℕ → List ℕ) (a : ℕ) (row : Class → Option ℕ) (n : ℕ) (c : Class) (w : ℕ) : Type 0 where
  pub before : ℕ
  pub in_row : row (choice_class n) ≡ Some before
  pub way : Use
  pub leads : transition (choice_class n) (choice_passage n) (choice_effect n) ≡ Some c
  pub is_best : best h.deep (ds (suc a)) (choice_effect n) ≡ Some way
  pub costs : w ≡ before + passage_cost h (choice_passage n) + use_cost h.deep way

-- every entry of the table came from where it says
pub record CameFrom (h : House) (ds : ℕ → List ℕ) (lengths came : List ℕ) : Type 0 where
  pub first : (c : Class) (w : ℕ) → row_of lengths 0 c ≡ Some w → FirstChoice h ds (slice_index came (cell 0 c)) c w
  pub later : (a : ℕ) (c : Class) (w : ℕ) → suc a < h.aisles → row_of lengths (suc a) c ≡ Some w → LaterChoice h ds a (row_of lengths a) (slice_index came (cell (suc a) c)) c w
