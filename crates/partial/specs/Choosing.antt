-- The choices of the best plan: the table is filled, and read back from the class in which the shortest whole tour ends.
-- Assumes nothing: these are definitions.
use Rattle.std.specs.Prelude.{◌≡◌, ℕ, ◌-◌, ◌<◌, ◌≤◌, ◌&&◌, List, length, Some, None, Ok, Err, Option, Result, nat_le, slice_index}
use Rattle.house.specs.House.{House, Spot}
use Rattle.house.specs.Rules.{unless}
use Rattle.house.specs.declared.refusal.Memory.TheVariants.{Tables as TableMemory}
use Rattle.house.specs.declared.refusal.Refusal.{Refusal}
use Rattle.house.specs.declared.refusal.Refusal.TheVariants.{Short}
use Rattle.partial.specs.Ending.{ending, Ends}
use Rattle.partial.specs.Filling.{filled}
use Rattle.partial.specs.Table.{Tables}
use Rattle.partial.specs.Tracing.{chosen}

-- room for 64 aisles of seven classes in both tables
abbrev pub table_rule : ℕ → ℕ → Option Refusal
table_rule lengths came = unless (nat_le 448 lengths && nat_le 448 came) (Short TableMemory)

-- the tables are filled, and each aisle has its choice; beyond the house there is 0
pub record Chosen (h : House) (ss : List Spot) (was is : Tables) (choices : List ℕ) : Type 0 where
  pub table : is ≡ filled h h.aisles 0 ss was
  pub ends : Ends is.lengths (h.aisles - 1) (ending is.lengths (h.aisles - 1))
  pub each : (a : ℕ) → a < h.aisles → slice_index choices a ≡ chosen h.aisles is.came (ending is.lengths (h.aisles - 1)) a
  pub others : (a : ℕ) → h.aisles ≤ a → slice_index choices a ≡ 0

-- tables that are too short are refused, and nothing is changed
abbrev pub Chooses : House → List Spot → Tables → Tables → Result (List ℕ) Refusal → Type 0
Chooses h ss was is (Ok choices) = (table_rule (length was.lengths) (length was.came) ≡ None) × Chosen h ss was is choices
Chooses h ss was is (Err e) = (table_rule (length was.lengths) (length was.came) ≡ Some e) × (is ≡ was)
