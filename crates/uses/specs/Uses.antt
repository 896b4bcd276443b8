-- How often each stretch of the house is used, without the order of the steps; and which uses are round.
-- Assumes nothing: these are definitions, over houses of any size.
use Rattle.std.specs.Prelude.{◌≡◌, ℕ, zero, suc, ◌+◌, ◌-◌, ◌*◌, ◌%◌, ◌<◌, ◌≤◌, Bool, true, false, List, length, ◌==◌, nat_lt, slice_index_or}
use Rattle.house.specs.House.{House, Spot, spot, desk}

abbrev pub pick : {A : Type 0} → Bool → A → A → A
pick true a b = a
pick false a b = b

-- times the step from depth y to y + 1 of aisle a is used, either way; times the front and the back from aisle a to the next are
pub record Uses : Type 0 where
  pub aisle : ℕ → ℕ → ℕ
  pub front : ℕ → ℕ
  pub back : ℕ → ℕ

unfoldable pub span : (ℕ → ℕ) → ℕ → ℕ
span f zero = 0
span f (suc n) = f n + span f n

unfoldable pub cost : House → Uses → ℕ
cost h u = span (λ a. span (u.aisle a) h.deep) h.aisles + h.apart * span (λ a. u.front a + u.back a) (h.aisles - 1)

-- uses that meet at a spot
unfoldable pub below : Uses → ℕ → ℕ → ℕ
below u a zero = 0
below u a (suc y) = u.aisle a y

unfoldable pub beside : (ℕ → ℕ) → ℕ → ℕ → ℕ
beside f m zero = pick (nat_lt 1 m) (f 0) 0
beside f m (suc a) = f a + pick (nat_lt (suc (suc a)) m) (f (suc a)) 0

unfoldable pub meet : House → Uses → ℕ → ℕ → ℕ
meet h u a y =
    below u a y + pick (nat_lt y h.deep) (u.aisle a y) 0
    + pick (y == 0) (beside u.front h.aisles a) 0 + pick (y == h.deep) (beside u.back h.aisles a) 0

-- spots linked by what is used
pub data Linked (h : House) (u : Uses) : Spot → Spot → Type 0 where
  here : {s : Spot} → Linked h u s s
  along : {s : Spot} {a y : ℕ} → Linked h u s (spot a y) → a < h.aisles → y < h.deep → 0 < u.aisle a y → Linked h u s (spot a (suc y))
  along_out : {s : Spot} {a y : ℕ} → Linked h u s (spot a (suc y)) → a < h.aisles → y < h.deep → 0 < u.aisle a y → Linked h u s (spot a y)
  over_front : {s : Spot} {a : ℕ} → Linked h u s (spot a 0) → suc a < h.aisles → 0 < u.front a → Linked h u s (spot (suc a) 0)
  back_front : {s : Spot} {a : ℕ} → Linked h u s (spot (suc a) 0) → suc a < h.aisles → 0 < u.front a → Linked h u s (spot a 0)
  over_back : {s : Spot} {a : ℕ} → Linked h u s (spot a h.deep) → suc a < h.aisles → 0 < u.back a → Linked h u s (spot (suc a) h.deep)
  back_back : {s : Spot} {a : ℕ} → Linked h u s (spot (suc a) h.deep) → suc a < h.aisles → 0 < u.back a → Linked h u s (spot a h.deep)

-- round (Eulerian) uses, those that a tour can have: an even number meet at each spot, and every spot that is used, and every pick, is linked with the desk
pub record Round (h : House) (picks : List Spot) (u : Uses) : Type 0 where
  pub even : (a y : ℕ) → a < h.aisles → y ≤ h.deep → meet h u a y % 2 ≡ 0
  pub used : (a y : ℕ) → a < h.aisles → y ≤ h.deep → 0 < meet h u a y → Linked h u desk (spot a y)
  pub picked : (i : ℕ) (d : Spot) → i < length picks → Linked h u desk (slice_index_or picks i d)

-- nothing is used more than twice
unfoldable pub at_most_two : House → Uses → Type 0
at_most_two h u = ((a y : ℕ) → u.aisle a y ≤ 2) × ((a : ℕ) → (u.front a ≤ 2) × (u.back a ≤ 2))
