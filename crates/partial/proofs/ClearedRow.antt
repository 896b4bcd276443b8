-- A cleared row: no class has a length in it, and all else is as it was. Assumes nothing.
use Rattle.std.proofs.Common.{◌≡◌, ℕ, ◌+◌, ◌*◌, ◌<◌, ◌≤◌, ◌⊎◌, List, length, get_or, set, refl, ap, ◌∙◌, inl, inr, arith, length-set, get_or-set_other, get_or-set_same}
use native.Mathlib.Decide.{ℕ_discrete}
use Rattle.classes.specs.Classes.{Class}
use Rattle.partial.specs.Prices.{never}
use Rattle.partial.specs.Table.{class_place, Tables, blanked, cleared}
use Rattle.partial.proofs.ChoiceParts.{class_place_small}
use Rattle.partial.proofs.RowOffers.{HasRow, SoFar}

-- the first n entries of the row of aisle a hold v, and all others what they held
record Written (a n v : ℕ) (was is : List ℕ) : Type 0 where
  long : length is ≡ length was
  others : (i : ℕ) → (i < 7 * a) ⊎ (7 * a + n ≤ i) → get_or is i 0 ≡ get_or was i 0
  here : (j : ℕ) → j < n → get_or is (7 * a + j) 0 ≡ v

module _ (a v : ℕ) (was : List ℕ) where
  written_none : Written a 0 v was was
  written_none = record { long = refl; others = λ i out. refl; here = λ j l. absurd (omega arith) }

  written_more : (n i : ℕ) {is : List ℕ} → i ≡ 7 * a + n → i < length was → Written a n v was is → Written a (n + 1) v was (set is i v)
  written_more n i {is} at l w =
      record { long = length-set is i v ∙ w.long; others = λ k out. get_or-set_other is i k v 0 (apart k out) ∙ w.others k (before k out); here = all }
    where
      apart : (k : ℕ) → (k < 7 * a) ⊎ (7 * a + (n + 1) ≤ k) → k ≡ i → ⊥
      apart k (inl h) e = omega arith
      apart k (inr h) e = omega arith

      before : (k : ℕ) → (k < 7 * a) ⊎ (7 * a + (n + 1) ≤ k) → (k < 7 * a) ⊎ (7 * a + n ≤ k)
      before k (inl h) = inl h
      before k (inr h) = inr (omega arith)

      all : (j : ℕ) → j < n + 1 → get_or (set is i v) (7 * a + j) 0 ≡ v
      all j h =
          elim (ℕ_discrete j n) [
            | yes e ↦ ap (λ (k : ℕ). get_or (set is i v) k 0) (omega arith) ∙ get_or-set_same is i v 0 (omega (arith, w.long))
            | no e ↦ get_or-set_other is i (7 * a + j) v 0 (λ z. e (omega arith)) ∙ w.here j (omega arith)
          ]

  -- the seven entries of a row
  written_row :
      7 * a + 7 ≤ length was →
      Written a 7 v was (set (set (set (set (set (set (set was (7 * a) v) (7 * a + 1) v) (7 * a + 2) v) (7 * a + 3) v) (7 * a + 4) v) (7 * a + 5) v) (7 * a + 6) v)
  written_row room =
      written_more 6 (7 * a + 6) refl (omega arith) (written_more 5 (7 * a + 5) refl (omega arith) (written_more 4 (7 * a + 4) refl (omega arith)
      (written_more 3 (7 * a + 3) refl (omega arith) (written_more 2 (7 * a + 2) refl (omega arith) (written_more 1 (7 * a + 1) refl (omega arith)
      (written_more 0 (7 * a) (omega arith) (omega arith) written_none))))))

pub cleared_row : {a : ℕ} {Way : Class → ℕ → ℕ → Type 0} {was : Tables} → HasRow a was → SoFar a Way was (cleared a was)
unfolding cleared blanked
cleared_row {a} {Way} {was} room =
    record {
      lengths_kept = record { long = lengths.long; same = lengths.others };
      came_kept = record { long = came.long; same = came.others };
      at_most_never = λ d. omega (arith, blank d);
      reached = λ d less. absurd (omega (arith, blank d));
    }
  where
    lengths : Written a 7 never was.lengths (cleared a was).lengths
    lengths = written_row a never was.lengths room.in_lengths

    came : Written a 7 0 was.came (cleared a was).came
    came = written_row a 0 was.came room.in_came

    blank : (d : Class) → get_or (cleared a was).lengths (7 * a + class_place d) 0 ≡ never
    blank d = lengths.here (class_place d) (omega (arith, class_place_small d))
