-- What is promised of tours: a statement, a type whose proof is owed. Assumes nothing.
use Rattle.std.specs.Prelude.{◌≡◌, List}
use Rattle.house.specs.House.{House, Spot, Sound}
use Rattle.walk.specs.Walk.{Tour, length_of}
use Rattle.uses.specs.Uses.{Uses, cost, Round}

-- all round uses are those of a tour
abbrev pub RoundIsTour : Type 0
RoundIsTour = (h : House) (picks : List Spot) (u : Uses) → Sound h picks → Round h picks u → (t : Tour h picks) × (length_of t ≡ cost h u)
