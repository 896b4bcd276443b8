-- The first piece of a row is its longest run of one step, and the other pieces are those of what follows it; so the row is as long as both together.
-- Assumes nothing.
use Rattle.std.proofs.Common.{◌≡◌, ℕ, suc, ◌+◌, ◌*◌, ◌<◌, ◌≤◌, Bool, true, false, cond, eqb, ltb, List, [], ◌∷◌, length, get_or, drop, Some, None, sym, refl, ap, ◌∙◌, subst, inl, inr, suc-mul, arith}
use Rattle.std.specs.List.{prefix_len}
use Rattle.std.proofs.lemmas.List.Sums.{prefix_len-le-length}
use Rattle.std.proofs.lemmas.Bool.{cases_eq, cases_lt, cond-true, cond-false, lt-ltb, le-ltb, eq-eqb, ne_eqb}
use Rattle.house.specs.House.{House}
use Rattle.walk.specs.Steps.{worth, measure}
use Rattle.text.specs.Piece.{count_of, sort_of, piece_of, piece_at}
use Rattle.text.specs.Pieces.{ahead, pieces, first_of}
use Rattle.text.specs.declared.piece.Piece.{Piece}
use Rattle.text.proofs.Ahead.{piece_made, ahead_longer, ahead_turn, pieces_step, pieces_stray}

-- a run goes on with the same byte, and ends before any other
module _ (b c : ℕ) (cs : List ℕ) where
  pub run_on : b ≡ c → prefix_len (eqb b) (c ∷ cs) ≡ suc (prefix_len (eqb b) cs)
  run_on e = let s : 1 + prefix_len (eqb b) cs ≡ suc (prefix_len (eqb b) cs) = omega arith in cond-true _ _ _ (eq-eqb b c e) ∙ s

  run_ends : (b ≡ c → ⊥) → prefix_len (eqb b) (c ∷ cs) ≡ 0
  run_ends e = cond-false _ _ _ (ne_eqb b c e)

-- a row of so many more steps of its first sort
abbrev gathered : ℕ → List ℕ → ℕ → List Piece
gathered b bs n = piece_of b (suc n) ∷ pieces (drop n bs)

pub pieces_run : (b : ℕ) (bs : List ℕ) → b < 6 → pieces (b ∷ bs) ≡ gathered b bs (prefix_len (eqb b) bs)
unfolding ahead pieces
pieces_run b [] k = pieces_step b [] k
pieces_run b (c ∷ cs) k =
    elim (cases_eq b c) [
      | inl e ↦
          let n = prefix_len (eqb b) cs in
          let m = piece_made b (suc n) k in
          pieces_step b (c ∷ cs) k ∙ ap (λ (x : ℕ). ahead b (pieces (x ∷ cs))) (sym e) ∙ ap (ahead b) (pieces_run b cs k)
          ∙ ahead_longer b (piece_of b (suc n)) (pieces (drop n cs)) (sym m.sort_is)
          ∙ ap (λ (x : ℕ). piece_of b (suc x) ∷ pieces (drop n cs)) m.count_is
          ∙ ap (gathered b (c ∷ cs)) (sym (run_on b c cs e))
      | inr e ↦
          pieces_step b (c ∷ cs) k
          ∙ elim (cases_lt c 6) [
            | inl l ↦
                let q = piece_of c (suc (prefix_len (eqb c) cs)) in
                let r = pieces_run c cs l in
                ap (ahead b) r ∙ ahead_turn b q _ (λ f. e (f ∙ (piece_made c (suc (prefix_len (eqb c) cs)) l).sort_is)) ∙ ap (λ (ps : List Piece). piece_of b 1 ∷ ps) (sym r)
            | inr l ↦ let r = pieces_stray c cs l in ap (ahead b) r ∙ ap (λ (ps : List Piece). piece_of b 1 ∷ ps) (sym r)
          ]
          ∙ ap (gathered b (c ∷ cs)) (sym (run_ends b c cs e))
    ]

pub first_of_none : (row : List ℕ) → length row ≡ 0 → None ≡ first_of (pieces row)
unfolding pieces
first_of_none [] e = refl
first_of_none (b ∷ bs) e = absurd (omega arith)

-- the run from the first byte on is the first piece
pub first_of_run : (row : List ℕ) (b n : ℕ) → 0 < length row → b ≡ get_or row 0 0 → n ≡ prefix_len (eqb b) row → piece_at b n ≡ first_of (pieces row)
first_of_run [] b n k e run = absurd (omega arith)
first_of_run (c ∷ cs) b n k e run =
    (λ i. piece_at (e i) ((run ∙ ap (λ (x : ℕ). prefix_len (eqb x) (c ∷ cs)) e) i))
    ∙ elim (cases_lt c 6) [
      | inl l ↦ cond-true _ _ _ (lt-ltb c 6 l) ∙ ap (λ (m : ℕ). Some (piece_of c m)) (run_on c c cs refl) ∙ ap first_of (sym (pieces_run c cs l))
      | inr l ↦ cond-false _ _ _ (le-ltb c 6 l) ∙ ap first_of (sym (pieces_stray c cs l))
    ]

-- a row is as long as the bytes of its run together, and what follows them
measure_run :
    (h : House) (b : ℕ) (bs : List ℕ) →
    measure h bs ≡ prefix_len (eqb b) bs * worth h b + measure h (drop (prefix_len (eqb b) bs) bs)
unfolding measure
measure_run h b [] = omega arith
measure_run h b (c ∷ cs) =
    elim (cases_eq b c) [
      | inl e ↦
          let n = prefix_len (eqb b) cs in
          let w : worth h c ≡ worth h b = ap (worth h) (sym e) in
          let m = suc-mul n (worth h b) in
          let s : measure h (c ∷ cs) ≡ suc n * worth h b + measure h (drop n cs) = omega (arith, measure_run h b cs, m, w) in
          s ∙ ap (λ (k : ℕ). k * worth h b + measure h (drop k (c ∷ cs))) (sym (run_on b c cs e))
      | inr e ↦
          let s : measure h (c ∷ cs) ≡ 0 * worth h b + measure h (c ∷ cs) = omega arith in
          s ∙ ap (λ (k : ℕ). k * worth h b + measure h (drop k (c ∷ cs))) (sym (run_ends b c cs e))
    ]

worth_few : (h : House) (b : ℕ) → h.apart ≤ 255 → worth h b ≤ 255
worth_few h b few = by (ltb b 2) (ltb b 6)
  where
    by : (x y : Bool) → cond x 1 (cond y h.apart 0) ≤ 255
    by true y = omega arith
    by false true = few
    by false false = omega arith

-- no row that fits in memory is too long for its length's type
pub measure_few : (h : House) → h.apart ≤ 255 → (bs : List ℕ) → measure h bs ≤ 255 * length bs
unfolding measure
measure_few h few [] = omega arith
measure_few h few (b ∷ bs) = omega (arith, worth_few h b few, measure_few h few bs)

-- the first piece of a row, and what is left of it
pub record Front (row : List ℕ) (p : Piece) : Type 0 where
  pub some : 0 < count_of p
  pub within : count_of p ≤ length row
  pub rest : pieces row ≡ p ∷ pieces (drop (count_of p) row)
  pub long : (h : House) → measure h row ≡ count_of p * worth h (sort_of p) + measure h (drop (count_of p) row)

pub front_piece : (row : List ℕ) (p : Piece) → Some p ≡ first_of (pieces row) → Front row p
unfolding pieces
front_piece [] p e = absurd (let z : ◌≡◌ {A = ℕ} 0 1 = cc in omega arith)
front_piece (b ∷ bs) p e =
    elim (cases_lt b 6) [
      | inl l ↦
          let n = prefix_len (eqb b) bs in
          let r = pieces_run b bs l in
          let m = piece_made b (suc n) l in
          let q : piece_of b (suc n) ≡ p = cc in
          subst (Front (b ∷ bs)) q
          (record {
            some = omega (arith, m.count_is);
            within = omega (arith, m.count_is, prefix_len-le-length (eqb b) bs);
            rest = r ∙ ap (λ (x : ℕ). piece_of b (suc n) ∷ pieces (drop x (b ∷ bs))) (sym m.count_is);
            long =
                λ h.
                measure_run h b (b ∷ bs)
                ∙ ap (λ (k : ℕ). k * worth h b + measure h (drop k (b ∷ bs))) (run_on b b bs refl ∙ sym m.count_is)
                ∙ ap (λ (k : ℕ). count_of (piece_of b (suc n)) * worth h k + measure h (drop (count_of (piece_of b (suc n))) (b ∷ bs))) (sym m.sort_is);
          })
      | inr l ↦ absurd (let r = pieces_stray b bs l in let z : ◌≡◌ {A = ℕ} 0 1 = cc in omega arith)
    ]
