-- The table, filled aisle by aisle from picks in order. Assumes nothing: these are definitions.
use Rattle.std.specs.Prelude.{◌≡◌, ℕ, zero, suc, ◌+◌, ◌≤◌, List, length, take, drop}
use Rattle.house.specs.House.{House, Spot}
use Rattle.house.specs.declared.layout.Spot.{Spot as Entry}
use Rattle.aisle.specs.Costs.{Effect}
use Rattle.aisle.specs.Order.{run}
use Rattle.aisle.specs.Reach.{depths_of}
use Rattle.aisle.specs.Values.{spots_of}
use Rattle.partial.specs.Prices.{price}
use Rattle.partial.specs.Table.{Tables, first_row, next_row}

-- the depths of the picks at the start of a list that stand in an aisle, and the picks after them
abbrev pub part_depths : ℕ → List Spot → List ℕ
part_depths a ss = depths_of (take (run a ss) ss)

abbrev pub after_part : ℕ → List Spot → List Spot
after_part a ss = drop (run a ss) ss

-- a part of the picks: where it ends, and what its aisle costs
pub record PartOf (deep a : ℕ) (picks : List Entry) (from to : ℕ) (prices : Effect → ℕ) : Type 0 where
  pub end : to ≡ from + run a (spots_of (drop from picks))
  pub within : to ≤ length picks
  pub costs : (e : Effect) → prices e ≡ price deep (part_depths a (spots_of (drop from picks))) e

-- the row of an aisle
abbrev pub row : House → ℕ → (Effect → ℕ) → Tables → Tables
row h zero prices t = first_row prices t
row h (suc a) prices t = next_row h.apart prices a t

-- the rows of so many aisles from aisle a on, for the picks that are left
unfoldable pub filled : House → ℕ → ℕ → List Spot → Tables → Tables
filled h zero a ss t = t
filled h (suc left) a ss t = filled h left (a + 1) (after_part a ss) (row h a (price h.deep (part_depths a ss)) t)
