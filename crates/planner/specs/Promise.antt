-- What is promised of the planner's method: each is a statement, a type whose proof is owed. Assumes nothing.
use Rattle.std.specs.Prelude.{◌≡◌, ℕ, suc, ◌<◌, ◌≤◌, false, List, [], ◌∷◌, length, Option}
use Rattle.house.specs.House.{House, Spot, spot, Sound}
use Rattle.walk.specs.Walk.{Tour, length_of, Shortest}
use Rattle.uses.specs.Uses.{Uses, cost, Round}
use Rattle.uses.specs.Edges.{uses_of}
use Rattle.aisle.specs.Order.{sorted}
use Rattle.planner.specs.Beginnings.{HasClass, SameBeyond}
use Rattle.classes.specs.Classes.{Class, is_closed}
use Rattle.partial.specs.Filling.{filled}
use Rattle.partial.specs.Table.{Tables}
use Rattle.planner.specs.Came.{row_of}
use Rattle.planner.specs.Laying.{part_at}
use Rattle.planner.specs.Plans.{PicksByAisle, Plan, laid, Finished}
use Rattle.planner.specs.Tables.{HoldsLeast, Starts, GoesOn}

-- what a finished plan lays down is round, at the plan's cost
abbrev pub PlansAreRound : Type 0
PlansAreRound =
    (h : House) (picks : List Spot) (ds : ℕ → List ℕ) (w : ℕ) (f : Finished h ds w) → Sound h picks → PicksByAisle h picks ds →
    Round h picks (uses_of (laid f.plan)) × (cost h (uses_of (laid f.plan)) ≡ w)

-- plans are enough: for round uses there is a finished plan, no dearer
abbrev pub PlansEnough : Type 0
PlansEnough =
    (h : House) (picks : List Spot) (ds : ℕ → List ℕ) (u : Uses) → Sound h picks → PicksByAisle h picks ds → Round h picks u →
    (w : ℕ) × Finished h ds w × (w ≤ cost h u)

-- a table whose rows are linked so holds the least cost of a plan up to each aisle, for each class
abbrev pub RowsAreLeast : Type 0
RowsAreLeast =
    (h : House) (ds : ℕ → List ℕ) (rows : ℕ → Class → Option ℕ) (n : ℕ) → Starts h ds (rows 0) →
    ((a : ℕ) → suc a < n → GoesOn h ds a (rows a) (rows (suc a))) → (a : ℕ) → a < n → HoldsLeast (Plan h ds a) (rows a)

-- the table that is filled for a list in order holds, for each aisle and class, the least cost of a plan up to that aisle, and none where there is no plan
abbrev pub TableIsLeast : Type 0
TableIsLeast =
    (h : House) (picks : List Spot) (t : Tables) → Sound h picks → 2 ≤ h.deep → h.aisles ≤ 64 → h.deep ≤ 200 → h.apart ≤ 200 →
    448 ≤ length t.lengths → 448 ≤ length t.came →
    PicksByAisle h picks (part_at (sorted picks))
    × ((a : ℕ) → a < h.aisles → HoldsLeast (Plan h (part_at (sorted picks)) a) (row_of (filled h h.aisles 0 (sorted picks) t).lengths a))

-- in every house, for every list of picks that fits it, there is a shortest tour
abbrev pub ShortestExists : Type 0
ShortestExists = (h : House) (picks : List Spot) → Sound h picks → (t : Tour h picks) × Shortest h picks t

-- there is a shortest tour, and it is n long
abbrev pub ShortestIs : House → List Spot → ℕ → Type 0
ShortestIs h picks n = (t : Tour h picks) × Shortest h picks t × (length_of t ≡ n)

-- three lists with their lengths: a pick at depth 4 of one aisle; picks at the far ends of two aisles, where it pays to go through; and no pick at all
abbrev pub WorkedLengths : Type 0
WorkedLengths =
    ShortestIs (record { aisles = 1; deep = 10; apart = 3 }) (spot 0 4 ∷ []) 8
    × ShortestIs (record { aisles = 2; deep = 10; apart = 3 }) (spot 0 9 ∷ spot 1 9 ∷ []) 26
    × ShortestIs (record { aisles = 2; deep = 8; apart = 1 }) [] 0

-- what a plan lays down up to its last aisle is of the plan's class
abbrev pub PlansHaveClasses : Type 0
PlansHaveClasses =
    (h : House) (picks : List Spot) (ds : ℕ → List ℕ) (a : ℕ) (c : Class) (w : ℕ) (plan : Plan h ds a c w) → Sound h picks → PicksByAisle h picks ds →
    a < h.aisles → is_closed c ≡ false → HasClass h picks a c (uses_of (laid plan))

-- two beginnings of one class are ended in the same ways: what goes on beyond aisle a as round uses do, from a beginning of their class, is round
abbrev pub Exchange : Type 0
Exchange =
    (h : House) (picks : List Spot) (a : ℕ) (c : Class) (u v : Uses) → Sound h picks → 0 < h.deep → a < h.aisles →
    HasClass h picks a c u → HasClass h picks a c v → SameBeyond h a u v → Round h picks u → Round h picks v
