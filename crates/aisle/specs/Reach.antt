-- What the cheapest uses of an aisle need to know of its picks, and these uses from it. Assumes nothing: these are definitions.
use Rattle.std.specs.Prelude.{ℕ, List, [], ◌∷◌, Some, None, Option}
use Rattle.house.specs.House.{Spot}
use Rattle.aisle.specs.Costs.{
  Use,
  once,
  twice,
  leaving,
  Effect,
  nothing,
  from_front,
  from_back,
  both_ends,
  through_once,
  through_twice,
  last_of,
  wider,
  widest,
  leaving_gap,
}

-- the depths of spots, in their order
abbrev pub depths_of : List Spot → List ℕ
depths_of [] = []
depths_of (s ∷ ss) = s.depth ∷ depths_of ss

-- the depths of the first pick and of the last, and the widest gap between two neighbours
pub record Reach : Type 0 where
  pub first : ℕ
  pub last : ℕ
  pub gap : ℕ × ℕ

-- one pick only: an empty gap
abbrev pub only_at : ℕ → Reach
only_at d = record { first = d; last = d; gap = (d, d) }

-- one pick more
abbrev pub on_to : Reach → ℕ → Reach
on_to r d = record { first = r.first; last = d; gap = wider r.gap (r.last, d) }

-- more picks
unfoldable pub along : Reach → List ℕ → Reach
along r ds = record { first = r.first; last = last_of r.last ds; gap = widest r.gap r.last ds }

abbrev pub reach_in : List ℕ → Option Reach
reach_in [] = None
reach_in (d ∷ ds) = Some (along (only_at d) ds)

-- the cheapest use with an effect, where there is one
abbrev pub best_from : ℕ → Option Reach → Effect → Option Use
best_from deep None nothing = Some (leaving 0 deep)
best_from deep (Some r) nothing = None
best_from deep None from_front = None
best_from deep (Some r) from_front = Some (leaving r.last deep)
best_from deep None from_back = None
best_from deep (Some r) from_back = Some (leaving 0 r.first)
best_from deep None both_ends = None
best_from deep (Some r) both_ends = leaving_gap r.gap
best_from deep r through_once = Some once
best_from deep r through_twice = Some twice
