-- The pieces of a row are its steps, with a turn between each two, and a walk's text ends with its length. Assumes nothing.
use Rattle.std.proofs.Common.{◌≡◌, ℕ, zero, suc, ◌<◌, ◌≢◌, List, [], ◌∷◌, ◌++◌, length, get_or, replicate, sym, refl, ap, ◌∙◌, subst, inl, inr, le_of_suc-le-suc, arith}
use Rattle.std.specs.List.{flat_map}
use Rattle.std.proofs.lemmas.Bool.{cases_eq}
use Rattle.walk.specs.Steps.{measure}
use Rattle.walk.specs.Promise.{StepsBefore}
use Rattle.walk.proofs.Rows.{follow_of_walk}
use Rattle.text.specs.Lines.{piece_lines, length_line}
use Rattle.text.specs.Piece.{count_of, sort_of, steps_in}
use Rattle.text.specs.Pieces.{ahead, pieces}
use Rattle.text.specs.Promise.{Gathers, PiecesAreTheSteps}
use Rattle.text.specs.declared.piece.Piece.{Piece}
use Rattle.text.proofs.Ahead.{Made, piece_made, ahead_longer, ahead_turn, pieces_step}

-- the steps of a piece
made_steps : {q : Piece} {b n : ℕ} → Made q b n → steps_in q ≡ replicate n b
made_steps m = λ i. replicate (m.count_is i) (m.sort_is i)

module _ (b : ℕ) (q : Piece) (ps : List Piece) (row : List ℕ) where
  -- a step in front of pieces that begin with another sort, or of none
  turn : Made q b 1 → ((d : Piece) → 0 < length ps → b ≢ sort_of (get_or ps 0 d)) → Gathers row ps → Gathers (b ∷ row) (q ∷ ps)
  turn m other g =
      record {
        written_out = ap (λ (xs : List ℕ). xs ++ flat_map steps_in ps) (made_steps m) ∙ ap (λ (xs : List ℕ). b ∷ xs) g.written_out;
        none_empty = some;
        turns_between = apart;
      }
    where
      some : (i : ℕ) (d : Piece) → i < length (q ∷ ps) → 0 < count_of (get_or (q ∷ ps) i d)
      some zero d k = omega (arith, m.count_is)
      some (suc i) d k = g.none_empty i d (le_of_suc-le-suc k)

      apart : (i : ℕ) (d : Piece) → suc i < length (q ∷ ps) → sort_of (get_or (q ∷ ps) i d) ≢ sort_of (get_or ps i d)
      apart zero d k e = other d (le_of_suc-le-suc k) (sym m.sort_is ∙ e)
      apart (suc i) d k e = g.turns_between i d (le_of_suc-le-suc k) e

  -- a step more of the first piece's sort
  longer : (p : Piece) → Made q b (suc (count_of p)) → b ≡ sort_of p → Gathers row (p ∷ ps) → Gathers (b ∷ row) (q ∷ ps)
  longer p m e g =
      record {
        written_out =
            ap (λ (xs : List ℕ). xs ++ flat_map steps_in ps) (made_steps m)
            ∙ ap (λ (x : ℕ). b ∷ (replicate (count_of p) x ++ flat_map steps_in ps)) e
            ∙ ap (λ (xs : List ℕ). b ∷ xs) g.written_out;
        none_empty = some;
        turns_between = apart;
      }
    where
      some : (i : ℕ) (d : Piece) → i < length (q ∷ ps) → 0 < count_of (get_or (q ∷ ps) i d)
      some zero d k = omega (arith, m.count_is)
      some (suc i) d k = g.none_empty (suc i) d k

      apart : (i : ℕ) (d : Piece) → suc i < length (q ∷ ps) → sort_of (get_or (q ∷ ps) i d) ≢ sort_of (get_or ps i d)
      apart zero d k same = g.turns_between 0 d k (sym e ∙ sym m.sort_is ∙ same)
      apart (suc i) d k same = g.turns_between (suc i) d k same

ahead_gathers : (b : ℕ) (ps : List Piece) (row : List ℕ) → b < 6 → Gathers row ps → Gathers (b ∷ row) (ahead b ps)
unfolding ahead
ahead_gathers b [] row k g = turn b _ [] row (piece_made b 1 k) (λ d l. absurd (omega arith)) g
ahead_gathers b (p ∷ ps) row k g =
    elim (cases_eq b (sort_of p)) [
      | inl e ↦ subst (Gathers (b ∷ row)) (sym (ahead_longer b p ps e)) (longer b _ ps row p (piece_made b _ k) e g)
      | inr e ↦ subst (Gathers (b ∷ row)) (sym (ahead_turn b p ps e)) (turn b _ (p ∷ ps) row (piece_made b 1 k) (λ d l. e) g)
    ]

pub pieces_gather : (row : List ℕ) → StepsBefore (length row) row → Gathers row (pieces row)
unfolding pieces
pieces_gather [] steps = record { written_out = refl; none_empty = λ i d k. absurd (omega arith); turns_between = λ i d k. absurd (omega arith) }
pieces_gather (b ∷ bs) steps =
    let k : b < 6 = omega (arith, steps 0 (omega arith)) in
    subst (Gathers (b ∷ bs)) (sym (pieces_step b bs k)) (ahead_gathers b (pieces bs) bs k (pieces_gather bs (λ i l. steps (suc i) (omega arith))))

pub pieces_are_the_steps : PiecesAreTheSteps
pieces_are_the_steps row steps = (
  pieces_gather row steps,
  λ h s t w e. ap (λ (n : ℕ). piece_lines row ++ length_line n) (ap (measure h) (sym e) ∙ sym (follow_of_walk w).length_is),
)
