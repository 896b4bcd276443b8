-- What the type of a pick list says of its bytes.
-- Assumes nothing: these are definitions.
use Rattle.std.specs.Prelude.{◌≡◌, ℕ, ◌+◌, ◌*◌, ◌<◌, List, [], ◌∷◌, length, slice_index, slice_index_or}
use Rattle.house.specs.House.{Spot, spot, desk}

-- the picks of a list: two bytes for each, its aisle and its depth; an odd byte at the end is none
abbrev pub picks_of : List ℕ → List Spot
picks_of [] = []
picks_of (a ∷ []) = []
picks_of (a ∷ y ∷ rest) = spot a y ∷ picks_of rest

-- the pick whose bytes are the i-th pair
abbrev pub pair_at : List ℕ → ℕ → Spot
pair_at list i = spot (slice_index list (2 * i)) (slice_index list (2 * i + 1))

-- two bytes for each pick
abbrev pub Whole : List ℕ → Type 0
Whole list = length list ≡ 2 * length (picks_of list)

abbrev pub InAisles : ℕ → List ℕ → Type 0
InAisles aisles list = (i : ℕ) → i < length (picks_of list) → (slice_index_or (picks_of list) i desk).aisle < aisles

-- neither on the front way nor on the back way or beyond
abbrev pub OnShelves : ℕ → List ℕ → Type 0
OnShelves deep list = (i : ℕ) → i < length (picks_of list) → (0 < (slice_index_or (picks_of list) i desk).depth) × ((slice_index_or (picks_of list) i desk).depth < deep)
