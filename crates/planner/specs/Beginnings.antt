-- Beginnings of a tour, the uses up to an aisle, and what it is for one to be of a class. Assumes nothing: these are definitions.
use Rattle.std.specs.Prelude.{◌≡◌, ℕ, zero, suc, ◌+◌, ◌%◌, ◌<◌, ◌≤◌, ◌⊎◌, ◌↔◌, List, length, get_or, nat_le, nat_lt, slice_index_or}
use Rattle.house.specs.House.{House, Spot, spot, desk}
use Rattle.uses.specs.Uses.{Uses, pick, meet, Linked}
use Rattle.classes.specs.Classes.{Class, class_front, class_back, class_joins, Alike}

-- the uses up to aisle a: its steps, those of the aisles before it, and the passages between them
abbrev pub upto : ℕ → Uses → Uses
upto a u =
    record {
      aisle = λ b y. pick (nat_le b a) (u.aisle b y) 0;
      front = λ b. pick (nat_lt b a) (u.front b) 0;
      back = λ b. pick (nat_lt b a) (u.back b) 0;
    }

-- two uses are the same beyond aisle a: in the aisles after it, and over the passages from it on
pub record SameBeyond (h : House) (a : ℕ) (u v : Uses) : Type 0 where
  pub aisle : (b y : ℕ) → a < b → b < h.aisles → y < h.deep → u.aisle b y ≡ v.aisle b y
  pub front : (b : ℕ) → a ≤ b → suc b < h.aisles → u.front b ≡ v.front b
  pub back : (b : ℕ) → a ≤ b → suc b < h.aisles → u.back b ≡ v.back b

-- the uses up to aisle a link a spot with the front or the back of that aisle
abbrev pub Held : House → Uses → ℕ → Spot → Type 0
Held h u a s = Linked h (upto a u) s (spot a 0) ⊎ Linked h (upto a u) s (spot a h.deep)

-- the desk, at the front of aisle 0, counts as two uses
abbrev pub desk_uses : ℕ → ℕ
desk_uses zero = 2
desk_uses (suc a) = 0

-- the uses up to aisle a are of class c: what is at the front of aisle a and at its back has the class's numbers, elsewhere an even number meets;
-- the desk, every spot that is used and every pick up to aisle a are linked with the front or the back; and those are linked if the class says so
pub record HasClass (h : House) (picks : List Spot) (a : ℕ) (c : Class) (u : Uses) : Type 0 where
  pub at_front : Alike (desk_uses a + meet h (upto a u) a 0) (class_front c)
  pub at_back : Alike (meet h (upto a u) a h.deep) (class_back c)
  pub even_inside : (y : ℕ) → 0 < y → y < h.deep → meet h (upto a u) a y % 2 ≡ 0
  pub even_before : (b y : ℕ) → b < a → y ≤ h.deep → meet h (upto a u) b y % 2 ≡ 0
  pub desk_held : Held h u a desk
  pub used_held : (b y : ℕ) → b ≤ a → y ≤ h.deep → 0 < meet h (upto a u) b y → Held h u a (spot b y)
  pub pick_held : (i : ℕ) (d : Spot) → i < length picks → (get_or picks i d).aisle ≤ a → Held h u a (slice_index_or picks i d)
  pub joined : (0 < class_joins c) ↔ Linked h (upto a u) (spot a 0) (spot a h.deep)
