-- The lines that tell of a way: one for each piece, and last its length. Assumes nothing: these are definitions.
use Rattle.std.specs.Prelude.{ℕ, List, [], ◌∷◌, ◌++◌, codes, decimal}
use Rattle.std.specs.List.{flat_map}
use Rattle.house.specs.House.{House}
use Rattle.walk.specs.Steps.{measure}
use Rattle.text.specs.Piece.{piece_text}
use Rattle.text.specs.Pieces.{pieces}
use Rattle.text.specs.declared.piece.Piece.{Piece}

abbrev pub newline : List ℕ
newline = 10 ∷ []

abbrev pub piece_line : Piece → List ℕ
piece_line p = piece_text p ++ newline

abbrev pub length_line : ℕ → List ℕ
length_line n = codes "length " ++ (decimal n ++ newline)

-- the lines of the pieces
abbrev pub piece_lines : List ℕ → List ℕ
piece_lines way = flat_map piece_line (pieces way)

abbrev pub way_text : House → List ℕ → List ℕ
way_text h way = piece_lines way ++ length_line (measure h way)
