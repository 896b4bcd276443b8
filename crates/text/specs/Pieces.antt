-- The pieces of a way: its steps gathered into runs that are walked without a turn.
-- Assumes nothing: these are definitions.
use Rattle.std.specs.Prelude.{◌≡◌, ℕ, suc, cond, List, [], ◌∷◌, drop, Some, None, Option, MatchOption, ◌==◌, nat_lt}
use Rattle.std.specs.Iterator.{YieldsFirst}
use Rattle.text.specs.Piece.{count_of, sort_of, piece_of}
use Rattle.text.specs.declared.piece.Piece.{Piece}
use Rattle.text.specs.declared.pieces.Pieces.{Pieces}

-- one step in front of pieces: it makes the first of them longer where that is of its sort, and else is a piece of its own
unfoldable pub ahead : ℕ → List Piece → List Piece
ahead b [] = piece_of b 1 ∷ []
ahead b (p ∷ ps) = cond (b == sort_of p) (piece_of b (suc (count_of p)) ∷ ps) (piece_of b 1 ∷ p ∷ ps)

-- the pieces of a row of steps, up to the first byte that is no step
unfoldable pub pieces : List ℕ → List Piece
pieces [] = []
pieces (b ∷ bs) = cond (nat_lt b 6) (ahead b (pieces bs)) []

abbrev pub first_of : List Piece → Option Piece
first_of [] = None
first_of (p ∷ ps) = Some p

-- the first piece is taken from what is left of a way, and its steps with it
abbrev pub TakesPiece : Pieces → Option Piece → Pieces → Type 0
TakesPiece from taken on = YieldsFirst (λ way. pieces way.rest.now) from taken on × MatchOption taken (on.rest.now ≡ from.rest.now) (λ p. on.rest.now ≡ drop (count_of p) from.rest.now)
