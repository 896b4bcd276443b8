-- The lines of a way: one for each piece without a turn, which begins where the piece before it ended. Assumes nothing: these are definitions.
use Rattle.std.specs.Prelude.{ℕ, Bool, false, cond, List, [], ◌∷◌, ◌++◌, Some, None, codes, Option, ◌==◌}
use Rattle.house.specs.House.{House, Spot}
use Rattle.walk.specs.Codes.{byte_of}
use Rattle.walk.specs.Steps.{landing}
use Rattle.walk.specs.declared.step.Step.{Step}
use Rattle.text.specs.Lines.{newline}
use Rattle.picture.specs.Places.{point_text, middle_of, start_of, end_of}
use Rattle.picture.specs.declared.places.Point.{Point}

-- the byte of the step that led to a spot, if one did
abbrev pub last_of : Option Step → Option ℕ
last_of None = None
last_of (Some step) = Some (byte_of step)

-- where the way is when it has come to a spot by this step; it begins in the middle
abbrev pub come_to : Spot → Option ℕ → Point
come_to s None = middle_of s
come_to s (Some b) = end_of s b

-- a line is begun with the turn into its first step, and ended with its last point
abbrev pub line_begun : Spot → Option ℕ → ℕ → List ℕ
line_begun s last b = codes "<polyline points='" ++ (point_text (come_to s last) ++ (codes " " ++ (point_text (start_of s b) ++ codes " ")))

abbrev pub line_ended : Spot → Option ℕ → List ℕ
line_ended s None = []
line_ended s (Some b) = point_text (end_of s b) ++ (codes "'/>" ++ newline)

-- a step that goes on as the one before it
abbrev pub goes_on : Option ℕ → ℕ → Bool
goes_on None b = false
goes_on (Some c) b = c == b

-- what a step adds: nothing where it goes on
abbrev pub turned : Spot → Option ℕ → ℕ → List ℕ
turned s last b = cond (goes_on last b) [] (line_ended s last ++ line_begun s last b)

-- the rest of a way that has come to a spot, up to the first step that leads out of the house
unfoldable pub strokes : House → Spot → Option ℕ → List ℕ → List ℕ
strokes h s last [] = line_ended s last
strokes h s last (b ∷ bs) = elim (landing h s b) [ Some t ↦ turned s last b ++ strokes h t (Some b) bs | None ↦ line_ended s last ]
