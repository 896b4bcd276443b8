-- The lines of a way, step by step: what a step adds goes from what is left to what is written. Assumes nothing.
use Rattle.std.proofs.Common.{◌≡◌, ℕ, ◌+◌, ◌<◌, List, ◌∷◌, ◌++◌, length, get_or, drop, Some, Option, sym, ap, ◌∙◌, append_assoc}
use Rattle.std.proofs.lemmas.List.{at_drop_more}
use Rattle.house.specs.House.{House, Spot}
use Rattle.walk.specs.Steps.{landing}
use Rattle.picture.specs.Strokes.{turned, strokes}

module _ (h : House) (s : Spot) (last : Option ℕ) (b : ℕ) (bs : List ℕ) where
  strokes_more : {t : Spot} → landing h s b ≡ Some t → strokes h s last (b ∷ bs) ≡ turned s last b ++ strokes h t (Some b) bs
  unfolding strokes
  strokes_more e = rw (e, strokes)

-- at place i of a row, with the text as it is and what it is to be in the end
module _ (h : House) (s : Spot) (last : Option ℕ) (row : List ℕ) (i : ℕ) (text : List ℕ) {all : List ℕ} (left : text ++ strokes h s last (drop i row) ≡ all) where
  at_step : i < length row → strokes h s last (drop i row) ≡ strokes h s last (get_or row i 0 ∷ drop (i + 1) row)
  at_step k = at_drop_more (strokes h s last) row i 0 k

  pub drawn_more :
      (b : ℕ) {t : Spot} {now : List ℕ} → i < length row → b ≡ get_or row i 0 → landing h s (get_or row i 0) ≡ Some t → now ≡ text ++ turned s last b →
      now ++ strokes h t (Some b) (drop (i + 1) row) ≡ all
  drawn_more b {t} k e l wrote =
      let rest = strokes h t (Some (get_or row i 0)) (drop (i + 1) row) in
      (λ j. wrote j ++ strokes h t (Some (e j)) (drop (i + 1) row))
      ∙ ap (λ (x : ℕ). (text ++ turned s last x) ++ rest) e
      ∙ append_assoc text (turned s last (get_or row i 0)) rest
      ∙ ap (λ (w : List ℕ). text ++ w) (sym (at_step k ∙ strokes_more h s last (get_or row i 0) (drop (i + 1) row) l))
      ∙ left
