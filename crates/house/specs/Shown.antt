-- The line that tells of a refusal. Assumes nothing: this is a definition.
use Rattle.std.specs.Prelude.{ℕ, List, ◌++◌, codes, decimal}
use Rattle.house.specs.Rules.{number_of, place_of}
use Rattle.house.specs.declared.refusal.Refusal.{Refusal}

abbrev pub refusal_line : Refusal → List ℕ
refusal_line e = codes "refused " ++ (decimal (number_of e) ++ (codes " at " ++ decimal (place_of e)))
