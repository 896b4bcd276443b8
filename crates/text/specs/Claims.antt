-- The file that claims a way for a pick list, as the checker reads it. Assumes nothing: these are definitions.
use Rattle.std.specs.Prelude.{ℕ, ◌/◌, ◌%◌, List, [], ◌∷◌, ◌++◌, length, take}
use Rattle.house.specs.Bounds.{picks_of}
use Rattle.house.specs.Reading.{list_in}

-- a number in two bytes, the low one first
abbrev pub two_bytes : ℕ → List ℕ
two_bytes n = n % 256 ∷ n / 256 % 256 ∷ []

-- the house of a file to plan, the number of its picks, its list, and a way
abbrev pub claim_bytes : List ℕ → List ℕ → List ℕ
claim_bytes file way = take 3 file ++ (two_bytes (length (picks_of (list_in file))) ++ (list_in file ++ way))
