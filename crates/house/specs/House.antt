-- The house: parallel aisles between a front way and a back way, and the spots in it.
-- Assumes nothing: these are definitions, over houses of any size.
use Rattle.std.specs.Prelude.{ℕ, ◌<◌, List, length, slice_index_or}

-- so many aisles, each so many steps deep from the front way to the back way; from one aisle to the next it is so many steps
pub record House : Type 0 where
  pub aisles : ℕ
  pub deep : ℕ
  pub apart : ℕ

-- a depth in an aisle: at depth 0 lies the front way, at depth `deep` the back way
pub record Spot : Type 0 where
  pub aisle : ℕ
  pub depth : ℕ

abbrev pub spot : ℕ → ℕ → Spot
spot a y = record { aisle = a; depth = y }

-- the desk, the depot of the picking tours, stands at the front of aisle 0
abbrev pub desk : Spot
desk = spot 0 0

-- a pick list that fits a house: there is an aisle, and each pick lies in an aisle, not on the front or the back way
pub record Sound (h : House) (picks : List Spot) : Type 0 where
  pub some_aisle : 0 < h.aisles
  pub inside : (i : ℕ) (d : Spot) → i < length picks → ((slice_index_or picks i d).aisle < h.aisles) × (0 < (slice_index_or picks i d).depth) × ((slice_index_or picks i d).depth < h.deep)
