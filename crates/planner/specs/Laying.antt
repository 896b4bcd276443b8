-- The uses that the choices of a plan lay down. Assumes nothing: these are definitions.
use Rattle.std.specs.Prelude.{◌≡◌, ℕ, zero, suc, ◌+◌, ◌*◌, ◌<◌, ◌≤◌, ◌⊎◌, List, length, Some, None, Option, slice_index, slice_set}
use Rattle.house.specs.House.{House, Spot}
use Rattle.uses.specs.Edges.{Edge, lane, front, back, In}
use Rattle.uses.specs.Layout.{place, places, held_in}
use Rattle.aisle.specs.Costs.{Use, steps_of_use, best}
use Rattle.classes.specs.Classes.{Passage, passage_front, passage_back}
use Rattle.partial.specs.Filling.{part_depths, after_part}
use Rattle.partial.specs.Tracing.{choice_passage, choice_effect}

-- the steps of a use; none where there is no use
abbrev pub steps_or_none : Option Use → ℕ → ℕ
steps_or_none None y = 0
steps_or_none (Some u) y = steps_of_use u y

-- the uses of each edge, by the choice at each aisle and the depths of its picks; a choice has the passages to its aisle
abbrev pub laid_by : House → (ℕ → ℕ) → (ℕ → List ℕ) → Edge → ℕ
laid_by h choice ds (lane a y) = steps_or_none (best h.deep (ds a) (choice_effect (choice a))) y
laid_by h choice ds (front a) = passage_front (choice_passage (choice (suc a)))
laid_by h choice ds (back a) = passage_back (choice_passage (choice (suc a)))

-- from one entry on so many hold the steps of a use, and the others what they held
pub record Painted (start deep : ℕ) (w : Option Use) (was is : List ℕ) : Type 0 where
  pub inside : (y : ℕ) → y < deep → slice_index is (start + y) ≡ steps_or_none w y
  pub outside : (i : ℕ) → (i < start) ⊎ (start + deep ≤ i) → slice_index is i ≡ slice_index was i

-- an edge of an aisle before aisle a, or of a passage to one
abbrev pub Before : ℕ → Edge → Type 0
Before a (lane b y) = b < a
Before a (front b) = suc b < a
Before a (back b) = suc b < a

-- the uses of the aisles before aisle a, and of the passages to them, are laid down; what lies beyond the house is as it was
pub record Laid (h : House) (choice : ℕ → ℕ) (ds : ℕ → List ℕ) (a : ℕ) (was is : List ℕ) : Type 0 where
  pub laid : (e : Edge) → In h e → Before a e → held_in h is e ≡ laid_by h choice ds e
  pub beyond : (i : ℕ) → places h ≤ i → slice_index is i ≡ slice_index was i

-- the uses of one passage at the front and one at the back
abbrev pub crossed : House → ℕ → Passage → List ℕ → List ℕ
crossed h a p us = slice_set (slice_set us (place h (front a)) (passage_front p)) (place h (back a)) (passage_back p)

-- the passages to an aisle: there are none to the first
abbrev pub reached : House → ℕ → Passage → List ℕ → List ℕ
reached h zero p us = us
reached h (suc a) p us = crossed h a p us

-- what one aisle adds: its own steps, and the passages to it
pub record Adds (h : House) (a choice : ℕ) (ds : List ℕ) (was is : List ℕ) : Type 0 where
  pub between : List ℕ
  pub long : length between ≡ length was
  pub steps : Painted (a * h.deep) h.deep (best h.deep ds (choice_effect choice)) was between
  pub passages : is ≡ reached h a (choice_passage choice) between

-- the entry of a list, by its place
abbrev pub at : List ℕ → ℕ → ℕ
at xs a = slice_index xs a

-- the picks from aisle a on, in a list in order, and the depths of those of aisle a
unfoldable pub picks_from : List Spot → ℕ → List Spot
picks_from ss zero = ss
picks_from ss (suc a) = after_part a (picks_from ss a)

abbrev pub part_at : List Spot → ℕ → List ℕ
part_at ss a = part_depths a (picks_from ss a)
