-- Whether uses touch every pick of a list. Assumes nothing: these are definitions.
use Rattle.std.specs.Prelude.{◌≡◌, ℕ, ◌<◌, Bool, true, false, List, length, slice_index_or}
use Rattle.house.specs.House.{House, Spot, desk}
use Rattle.uses.specs.Edges.{degree}
use Rattle.uses.specs.Layout.{held_in}

-- the uses that meet at a pick
abbrev pub degree_at : House → List Spot → List ℕ → ℕ → ℕ
degree_at h picks us i = degree h (held_in h us) (slice_index_or picks i desk)

-- a pick that nothing touches
pub record Misses (h : House) (picks : List Spot) (us : List ℕ) : Type 0 where
  pub pick : ℕ
  pub there : pick < length picks
  pub untouched : degree_at h picks us pick ≡ 0

abbrev pub Touches : House → List Spot → List ℕ → Bool → Type 0
Touches h picks us true = (i : ℕ) → i < length picks → 0 < degree_at h picks us i
Touches h picks us false = Misses h picks us
