-- What is promised of the way as text and of claims: each is a statement, a type whose proof is owed. Assumes nothing.
use Rattle.std.specs.Prelude.{◌≡◌, ℕ, suc, ◌<◌, ◌≢◌, List, ◌++◌, length, None, Ok, slice_index_or}
use Rattle.std.specs.List.{flat_map}
use Rattle.house.specs.House.{House, Spot}
use Rattle.house.specs.Bounds.{picks_of}
use Rattle.house.specs.Reading.{house_in, list_in, refusal_of}
use Rattle.walk.specs.Walk.{Walk, long, steps_of, Tour, length_of}
use Rattle.walk.specs.Checking.{check_of}
use Rattle.walk.specs.Promise.{StepsBefore}
use Rattle.walk.specs.declared.verdict.Verdict.TheVariants.{Way}
use Rattle.text.specs.Claims.{claim_bytes}
use Rattle.text.specs.Lines.{piece_line, length_line, way_text}
use Rattle.text.specs.Piece.{count_of, sort_of, steps_in}
use Rattle.text.specs.Pieces.{pieces}
use Rattle.text.specs.declared.piece.Piece.{Piece}

-- pieces of a row of steps, without a turn in any and with one between each two
pub record Gathers (row : List ℕ) (ps : List Piece) : Type 0 where
  pub written_out : flat_map steps_in ps ≡ row
  pub none_empty : (i : ℕ) (d : Piece) → i < length ps → 0 < count_of (slice_index_or ps i d)
  pub turns_between : (i : ℕ) (d : Piece) → suc i < length ps → sort_of (slice_index_or ps i d) ≢ sort_of (slice_index_or ps (suc i) d)

-- the pieces of a row of steps are the row; and what is printed of a walk is its pieces and its length, which is the sum of its steps' lengths
abbrev pub PiecesAreTheSteps : Type 0
PiecesAreTheSteps =
    (row : List ℕ) → StepsBefore (length row) row →
    Gathers row (pieces row)
    × ((h : House) (s t : Spot) (w : Walk h s t) → steps_of w ≡ row → way_text h row ≡ flat_map piece_line (pieces row) ++ length_line (long w))

-- on the claim of any tour of a file that is not refused the checker says that it is a way of the tour's length
abbrev pub ClaimsOfToursHold : Type 0
ClaimsOfToursHold =
    (file : List ℕ) → refusal_of file ≡ None → (t : Tour (house_in file) (picks_of (list_in file))) → check_of (claim_bytes file (steps_of t.walk)) ≡ Ok (Way (length_of t))
