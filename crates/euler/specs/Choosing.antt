-- Where one can go on from a spot, onto a use that is left over. Assumes nothing: these are definitions.
use Rattle.std.specs.Prelude.{◌≡◌, ℕ, ◌<◌, List, [], ◌∷◌, Some, None, Option, slice_index}
use Rattle.house.specs.House.{House, Spot}
use Rattle.house.specs.Reading.{spot_of}
use Rattle.walk.specs.Codes.{byte_of}
use Rattle.walk.specs.Steps.{landing}
use Rattle.uses.specs.Layout.{held_in}
use Rattle.uses.specs.Looking.{edge_by, Sees}
use Rattle.euler.specs.declared.choice.Onward.{Onward}

-- a step from s to t goes onto a use that is left over, which has this place
pub record Opens (h : House) (left : List ℕ) (s : Spot) (b entry : ℕ) (t : Spot) : Type 0 where
  pub seen : Sees h s b entry t
  pub left_over : 0 < slice_index left entry

-- wherever this step goes from s, nothing is left over
abbrev pub Shut : House → List ℕ → Spot → ℕ → Type 0
Shut h left s b = (t : Spot) → landing h s b ≡ Some t → held_in h left (edge_by h s b) ≡ 0

abbrev pub AllShut : House → List ℕ → Spot → List ℕ → Type 0
AllShut h left s [] = Unit {0}
AllShut h left s (b ∷ bs) = Shut h left s b × AllShut h left s bs

-- a step onto a use that is left over, if one of these steps from s is such
abbrev pub Tries : House → List ℕ → Spot → List ℕ → Option Onward → Type 0
Tries h left s bs None = AllShut h left s bs
Tries h left s bs (Some o) = Opens h left s (byte_of o.step) o.entry (spot_of o.to)

-- and if any step is
abbrev pub Chooses : House → List ℕ → Spot → Option Onward → Type 0
Chooses h left s None = (b : ℕ) → Shut h left s b
Chooses h left s (Some o) = Opens h left s (byte_of o.step) o.entry (spot_of o.to)
