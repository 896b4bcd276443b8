-- The kinds of use of an aisle, and that they are enough. Assumes nothing.
use Rattle.std.specs.Prelude.{◌≡◌, ℕ, ◌<◌, ◌≤◌, ◌⊎◌, List, length, slice_index_or}
use Rattle.house.specs.House.{House, Spot, Sound}
use Rattle.uses.specs.Uses.{Uses, cost, Round, at_most_two}

-- how the steps of an aisle are used: every one once; every one twice; or every one twice but for those from lo to hi, which are not used
pub data Kind (deep : ℕ) (stop : ℕ → Type 0) (f : ℕ → ℕ) : Type 0 where
  through : ((y : ℕ) → y < deep → f y ≡ 1) → Kind deep stop f
  twice : ((y : ℕ) → y < deep → f y ≡ 2) → Kind deep stop f
  leaves : (lo hi : ℕ) → lo ≤ hi → hi ≤ deep → stop lo → stop hi → ((y : ℕ) → y < deep → y < lo → f y ≡ 2) → ((y : ℕ) → y < deep → hi ≤ y → f y ≡ 2) → ((y : ℕ) → lo ≤ y → y < hi → f y ≡ 0) → Kind deep stop f

-- the stops of an aisle: the front, the back, and the depths of its picks
unfoldable pub Stops : House → List Spot → ℕ → ℕ → Type 0
Stops h picks a y = (y ≡ 0) ⊎ (y ≡ h.deep) ⊎ ((i : ℕ) × (d : Spot) × (i < length picks) × ((slice_index_or picks i d).aisle ≡ a) × ((slice_index_or picks i d).depth ≡ y))

-- for round uses there are others, no dearer, with nothing used more than twice, in which every aisle is of one of the three kinds
abbrev pub KindsEnough : Type 0
KindsEnough =
    (h : House) (picks : List Spot) (u : Uses) → Sound h picks → Round h picks u →
    (v : Uses) × Round h picks v × at_most_two h v × ((a : ℕ) → a < h.aisles → Kind h.deep (Stops h picks a) (v.aisle a)) × (cost h v ≤ cost h u)

-- two neighbours among the stops of an aisle
pub record Neighbours (deep : ℕ) (stop : ℕ → Type 0) (lo hi : ℕ) : Type 0 where
  pub apart : lo < hi
  pub inside : hi ≤ deep
  pub stop_lo : stop lo
  pub stop_hi : stop hi
  pub none_between : (y : ℕ) → lo < y → y < hi → stop y → ⊥

-- the one stretch of an aisle that is not used, between two neighbouring stops, where every other step is used twice
pub record Gap (deep : ℕ) (stop : ℕ → Type 0) (f : ℕ → ℕ) : Type 0 where
  pub lo : ℕ
  pub hi : ℕ
  pub neighbours : Neighbours deep stop lo hi
  pub before : (y : ℕ) → y < lo → f y ≡ 2
  pub after : (y : ℕ) → y < deep → hi ≤ y → f y ≡ 2
  pub unused : (y : ℕ) → lo ≤ y → y < hi → f y ≡ 0

-- the kinds again, where what is left out is not empty and lies between two neighbouring stops; an aisle without a step is through and twice alike
pub data Shape (deep : ℕ) (stop : ℕ → Type 0) (f : ℕ → ℕ) : Type 0 where
  through : ((y : ℕ) → y < deep → f y ≡ 1) → Shape deep stop f
  twice : ((y : ℕ) → y < deep → f y ≡ 2) → Shape deep stop f
  leaves : Gap deep stop f → Shape deep stop f

-- the same with every aisle of one of these shapes
abbrev pub NeighboursEnough : Type 0
NeighboursEnough =
    (h : House) (picks : List Spot) (u : Uses) → Sound h picks → Round h picks u →
    (v : Uses) × Round h picks v × at_most_two h v × ((a : ℕ) → a < h.aisles → Shape h.deep (Stops h picks a) (v.aisle a)) × (cost h v ≤ cost h u)
