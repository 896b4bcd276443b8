-- The sort and the steps of a piece that is made of them, and one step in front of pieces. Assumes nothing.
use Rattle.std.proofs.Common.{◌≡◌, ℕ, zero, suc, ◌<◌, ◌≤◌, ◌≢◌, List, [], ◌∷◌, refl, arith}
use Rattle.std.proofs.lemmas.Bool.{cond-true, cond-false, lt-ltb, le-ltb, eq-eqb, ne_eqb}
use Rattle.text.specs.Piece.{count_of, sort_of, piece_of}
use Rattle.text.specs.Pieces.{ahead, pieces}
use Rattle.text.specs.declared.piece.Piece.{Piece}

-- a piece of n steps with this byte
pub record Made (p : Piece) (b n : ℕ) : Type 0 where
  pub sort_is : sort_of p ≡ b
  pub count_is : count_of p ≡ n

pub piece_made : (b n : ℕ) → b < 6 → Made (piece_of b n) b n
piece_made zero n k = record { sort_is = refl; count_is = refl }
piece_made (suc zero) n k = record { sort_is = refl; count_is = refl }
piece_made (suc (suc zero)) n k = record { sort_is = refl; count_is = refl }
piece_made (suc (suc (suc zero))) n k = record { sort_is = refl; count_is = refl }
piece_made (suc (suc (suc (suc zero)))) n k = record { sort_is = refl; count_is = refl }
piece_made (suc (suc (suc (suc (suc zero))))) n k = record { sort_is = refl; count_is = refl }
piece_made (suc (suc (suc (suc (suc (suc b)))))) n k = absurd (omega arith)

module _ (b : ℕ) (p : Piece) (ps : List Piece) where
  pub ahead_longer : b ≡ sort_of p → ahead b (p ∷ ps) ≡ piece_of b (suc (count_of p)) ∷ ps
  unfolding ahead
  ahead_longer e = cond-true _ _ _ (eq-eqb b (sort_of p) e)

  pub ahead_turn : b ≢ sort_of p → ahead b (p ∷ ps) ≡ piece_of b 1 ∷ p ∷ ps
  unfolding ahead
  ahead_turn e = cond-false _ _ _ (ne_eqb b (sort_of p) e)

module _ (b : ℕ) (bs : List ℕ) where
  pub pieces_step : b < 6 → pieces (b ∷ bs) ≡ ahead b (pieces bs)
  unfolding pieces
  pieces_step k = cond-true _ _ _ (lt-ltb b 6 k)

  pub pieces_stray : 6 ≤ b → pieces (b ∷ bs) ≡ []
  unfolding pieces
  pieces_stray k = cond-false _ _ _ (le-ltb b 6 k)
