use Rattle.std.proofs.Common.{◌≡◌, ℕ, ◌+◌, ◌*◌, List, ◌∷◌, drop, sym, ap, ◌∙◌, arith}
use Rattle.house.specs.House.{House}
use Rattle.house.specs.Reading.{house_of}
use Rattle.walk.specs.Steps.{worth, measure}
use Rattle.text.specs.Piece.{count_of, sort_of}
use Rattle.text.specs.Pieces.{pieces, first_of}
use Rattle.text.specs.declared.piece.Piece.{Piece}
use Rattle.text.proofs.Runs.{front_piece, measure_few}
use Rattle.text.proofs.lines.measure.Goals as goal

-- the length of the piece that is taken goes from what is left to what was walked
taken_long :
    (h : House) (row : List ℕ) {after : List ℕ} {p : Piece} {more : List Piece} → pieces row ≡ p ∷ more → after ≡ drop (count_of p) row →
    measure h row ≡ count_of p * worth h (sort_of p) + measure h after
taken_long h row {after} {p} first left = (front_piece row p (sym (ap first_of first))).long h ∙ ap (λ r. count_of p * worth h (sort_of p) + measure h r) (sym left)

pub overflow_add-length : goal.overflow_add-length
overflow_add-length c =
    let h = house_of c.args.house in
    let taken = c.in-Some.ensures.steps in
    omega (arith, measure_few h (omega arith) c.args.way.now, taken_long h c.loop-piece.pieces.rest.now taken.0 taken.1, c.loop-piece.invariant, c.piece_length-length.ensures)

pub loop-piece-preserved : goal.loop-piece-preserved
loop-piece-preserved c =
    let taken = c.in-Some.ensures.steps in omega (arith, taken_long (house_of c.args.house) c.loop-piece.pieces.rest.now taken.0 taken.1, c.loop-piece.invariant, c.piece_length-length.ensures)

pub overflow_add-result : goal.overflow_add-result
overflow_add-result c =
    let h = house_of c.args.house in
    let left = c.measure.ensures ∙ ap (measure h) (c.rest.ensures ∙ c.in_default.ensures.steps.1) in
    omega (arith, measure_few h (omega arith) c.args.way.now, left, c.loop-piece.invariant)
