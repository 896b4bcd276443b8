-- How the checker remembers the spots that it passed: a flag for each depth of each aisle. Assumes nothing: these are definitions.
use Rattle.std.specs.Prelude.{◌≡◌, ℕ, ◌+◌, ◌*◌, Bool, true, false, not, List, [], ◌∷◌, Some, None, Ok, Err, Result, slice_index_or, slice_set}
use Rattle.house.specs.House.{House, Spot, desk}
use Rattle.house.specs.Reading.{spot_of}
use Rattle.house.specs.declared.layout.Spot as code
use Rattle.house.specs.declared.refusal.Refusal.{Refusal}
use Rattle.walk.specs.Steps.{follow, trace}
use Rattle.walk.specs.Checking.{exit_rule}

-- the place of a spot's flag: depths go from 0 to at most 200
abbrev pub cell : Spot → ℕ
cell s = 201 * s.aisle + s.depth

-- the flags after one spot, and after some, were marked
abbrev pub marked : List Bool → Spot → List Bool
marked flags s = slice_set flags (cell s) true

unfoldable pub all_marked : List Bool → List Spot → List Bool
all_marked flags [] = flags
all_marked flags (s ∷ ss) = all_marked (marked flags s) ss

abbrev pub has : List Bool → Spot → Bool
has flags s = slice_index_or flags (cell s) false

abbrev pub unmarked : List Bool → Spot → Bool
unmarked flags s = not (has flags s)

-- a walk over a whole row from the desk, which marks the spots that it passes; or the refusal where a step leads out
abbrev pub WalksOver : House → List ℕ → List Bool → List Bool → Result code.Spot Refusal → Type 0
WalksOver h way before after (Ok t) = (exit_rule h way ≡ None) × (follow h desk way ≡ Some (spot_of t)) × (after ≡ all_marked before (trace h desk way))
WalksOver h way before after (Err e) = exit_rule h way ≡ Some e
