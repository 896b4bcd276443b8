use Rattle.std.proofs.Common.{◌≡◌, suc, List, ℕ, ◌-◌, ◌∷◌, length, take, drop, sym, ap, ◌∙◌, arith, rules}
use Rattle.std.proofs.lemmas.List.{length-drop, take_all}
use Rattle.text.specs.Piece.{count_of}
use Rattle.text.specs.Pieces.{pieces}
use Rattle.text.specs.declared.piece.Piece.{Piece}
use Rattle.text.proofs.Runs.{Front, front_piece}
use Rattle.text.proofs.pieces.PiecesIterator.next.Goals as goal

pub slice_bounds-self-count : goal.slice_bounds-self-count
slice_bounds-self-count c = (front_piece _ _ c.in_ok-piece.ensures).within

pub slice_bounds-self-start : goal.slice_bounds-self-start
slice_bounds-self-start c = omega (arith, (front_piece _ _ c.in_ok-piece.ensures).within)

-- what is left once a piece is taken, however it is cut off
taken : (row after : List ℕ) (p : Piece) → Front row p → after ≡ drop (count_of p) row → (pieces row ≡ p ∷ pieces after) × (after ≡ drop (count_of p) row)
taken row after p f left = (f.rest ∙ ap (λ (r : List ℕ). p ∷ pieces r) (sym left), left)

pub returns-clause-steps : goal.returns-clause-steps
returns-clause-steps c =
    let piece = c.in_ok-piece.piece in
    let row = c.args.self.now.rest.now in
    let cut : take (length row - piece.steps) (drop piece.steps row) ≡ drop piece.steps row = take_all _ _ (omega (arith, length-drop piece.steps row)) in
    taken row _ piece (front_piece _ _ c.in_ok-piece.ensures) (cc)

fewer : (row after : List ℕ) (p : Piece) → pieces row ≡ p ∷ pieces after → length (pieces row) ≡ suc (length (pieces after))
fewer row after p e = ap length e

-- a piece fewer is left
pub returns-clause-goes : goal.returns-clause-goes
returns-clause-goes c = let less = fewer c.args.self.now.rest.now _ _ (returns-clause-steps c).0 in search rules
