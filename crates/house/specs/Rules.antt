-- The rules that a house and a pick list are held to, in their order, and the number and place of each refusal.
-- Assumes nothing: these are definitions.
use Rattle.std.specs.Prelude.{ℕ, suc, ◌%◌, Bool, true, false, cond, ◌&&◌, ◌||◌, List, [], ◌∷◌, length, Some, None, Option, ◌==◌, nat_le}
use Rattle.house.specs.House.{Spot}
use Rattle.house.specs.Bounds.{picks_of}
use Rattle.house.specs.declared.refusal.Memory.{Memory}
use Rattle.house.specs.declared.refusal.Memory.TheVariants.{Picks, Tables, Steps, Uses}
use Rattle.house.specs.declared.refusal.Refusal.{Refusal}
use Rattle.house.specs.declared.refusal.Refusal.TheVariants.{Aisles, Deep, Apart, List as ListSize, NoAisle, NoShelf, NoStep, LeadsOut, Short}

-- the number of each refusal
abbrev pub number_of : Refusal → ℕ
number_of Aisles = 1
number_of Deep = 2
number_of Apart = 3
number_of (ListSize n) = 4
number_of (NoAisle i) = 5
number_of (NoShelf i) = 6
number_of (NoStep i) = 7
number_of (LeadsOut i) = 8
number_of (Short m) = 9

-- which memory is too short
abbrev pub memory_of : Memory → ℕ
memory_of Picks = 0
memory_of Tables = 1
memory_of Steps = 2
memory_of Uses = 3

-- the place of each refusal: the byte of the file, the number of the list's bytes, the pick, the step, or the memory
abbrev pub place_of : Refusal → ℕ
place_of Aisles = 0
place_of Deep = 1
place_of Apart = 2
place_of (ListSize n) = n
place_of (NoAisle i) = i
place_of (NoShelf i) = i
place_of (NoStep i) = i
place_of (LeadsOut i) = i
place_of (Short m) = memory_of m

-- the first refusal, where there are several
abbrev pub or_else : Option Refusal → Option Refusal → Option Refusal
or_else (Some e) next = Some e
or_else None next = next

-- a refusal where a rule is not kept
abbrev pub unless : Bool → Refusal → Option Refusal
unless true e = None
unless false e = Some e

-- a number is from lo to hi
abbrev pub within : ℕ → ℕ → ℕ → Bool
within lo hi n = nat_le lo n && nat_le n hi

abbrev pub aisles_rule : ℕ → Option Refusal
aisles_rule m = unless (within 1 64 m) Aisles

abbrev pub deep_rule : ℕ → Option Refusal
deep_rule n = unless (within 2 200 n) Deep

abbrev pub apart_rule : ℕ → Option Refusal
apart_rule n = unless (within 1 200 n) Apart

-- a list to the end of the file: two bytes for each of at most 512 picks, so an even number up to 1,024
abbrev pub size_rule : List ℕ → Option Refusal
size_rule list = unless (length list % 2 == 0 && nat_le (length list) 1024) (ListSize (length list))

-- the first pick, counted from i, that a test finds
unfoldable pub first_from : (Spot → Bool) → ℕ → List Spot → Option ℕ
first_from test i [] = None
first_from test i (p ∷ ps) = cond (test p) (Some i) (first_from test (suc i) ps)

-- a pick in an aisle that is not there
abbrev pub absent : ℕ → Spot → Bool
absent aisles p = nat_le aisles p.aisle

-- a pick on the front way, on the back way or beyond
abbrev pub outside : ℕ → Spot → Bool
outside deep p = p.depth == 0 || nat_le deep p.depth

-- the refusal at the pick that was found, if one was
abbrev pub at_pick : (ℕ → Refusal) → Option ℕ → Option Refusal
at_pick refusal None = None
at_pick refusal (Some i) = Some (refusal i)

abbrev pub aisle_rule : ℕ → List ℕ → Option Refusal
aisle_rule aisles list = at_pick NoAisle (first_from (absent aisles) 0 (picks_of list))

abbrev pub shelf_rule : ℕ → List ℕ → Option Refusal
shelf_rule deep list = at_pick NoShelf (first_from (outside deep) 0 (picks_of list))
