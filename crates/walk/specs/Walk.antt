-- Walks of single steps through a house, their length and their bytes; tours, and which of them are shortest.
-- Assumes nothing: these are definitions, over houses of any size.
use Rattle.std.specs.Prelude.{◌≡◌, ℕ, suc, ◌+◌, ◌<◌, ◌≤◌, ◌⊎◌, List, [], ◌∷◌, ◌++◌, length, slice_index_or}
use Rattle.house.specs.House.{House, Spot, spot, desk}

-- one step in an aisle, or one way along the front or the back from an aisle to a neighbour, with its length
pub data Goes (h : House) : Spot → Spot → ℕ → Type 0 where
  inward : {a y : ℕ} → a < h.aisles → y < h.deep → Goes h (spot a y) (spot a (suc y)) 1
  outward : {a y : ℕ} → a < h.aisles → y < h.deep → Goes h (spot a (suc y)) (spot a y) 1
  front_on : {a : ℕ} → suc a < h.aisles → Goes h (spot a 0) (spot (suc a) 0) h.apart
  front_off : {a : ℕ} → suc a < h.aisles → Goes h (spot (suc a) 0) (spot a 0) h.apart
  back_on : {a : ℕ} → suc a < h.aisles → Goes h (spot a h.deep) (spot (suc a) h.deep) h.apart
  back_off : {a : ℕ} → suc a < h.aisles → Goes h (spot (suc a) h.deep) (spot a h.deep) h.apart

pub data Walk (h : House) : Spot → Spot → Type 0 where
  stay : {s : Spot} → Walk h s s
  on : {s t u : Spot} {n : ℕ} → Walk h s t → Goes h t u n → Walk h s u

unfoldable pub long : {h : House} {s t : Spot} → Walk h s t → ℕ
long (Walk.stay) = 0
long (Walk.on {n = n} w g) = long w + n

-- the bytes of a step and of a walk: 0 deeper, 1 back, 2 and 3 to the next aisle and the one before at the front, 4 and 5 the same at the back
unfoldable pub byte_of : {h : House} {s t : Spot} {n : ℕ} → Goes h s t n → ℕ
byte_of (Goes.inward i y) = 0
byte_of (Goes.outward i y) = 1
byte_of (Goes.front_on i) = 2
byte_of (Goes.front_off i) = 3
byte_of (Goes.back_on i) = 4
byte_of (Goes.back_off i) = 5

unfoldable pub steps_of : {h : House} {s t : Spot} → Walk h s t → List ℕ
steps_of (Walk.stay) = []
steps_of (Walk.on w g) = steps_of w ++ (byte_of g ∷ [])

unfoldable pub Passes : {h : House} {s t : Spot} → Walk h s t → Spot → Type 0
Passes (Walk.stay {s = s}) p = s ≡ p
Passes (Walk.on {u = u} w g) p = (u ≡ p) ⊎ Passes w p

-- a route: a walk between two spots, past all picks
pub record Route (h : House) (s t : Spot) (picks : List Spot) : Type 0 where
  pub walk : Walk h s t
  pub all : (i : ℕ) (d : Spot) → i < length picks → Passes walk (slice_index_or picks i d)

-- a tour: a route from the desk back to it
abbrev pub Tour : House → List Spot → Type 0
Tour h picks = Route h desk desk picks

abbrev pub length_of : {h : House} {s t : Spot} {picks : List Spot} → Route h s t picks → ℕ
length_of r = long r.walk

-- no other route between the same two spots past the same picks is shorter
pub record Shortest (h : House) {s t : Spot} (picks : List Spot) (r : Route h s t picks) : Type 0 where
  pub least : (q : Route h s t picks) → length_of r ≤ length_of q
