-- What a row is long, and its first byte that is no step, as chains of iterators give them. Assumes nothing.
use Rattle.std.proofs.Common.{◌≡◌, ℕ, suc, ◌+◌, true, false, cond, not, ltb, List, [], ◌∷◌, Some, refl, add-one}
use Rattle.std.specs.List.{sum_by, position_from}
use Rattle.std.proofs.lemmas.List.Recursion.{is_sum_by}
use Rattle.house.specs.House.{House}
use Rattle.walk.specs.Steps.{worth, measure}
use Rattle.walk.specs.Checking.{stray_from}

pub measure_sum : (h : House) (bs : List ℕ) → measure h bs ≡ sum_by (worth h) bs
unfolding measure
measure_sum h = is_sum_by (measure h) (worth h) refl (λ b bs. refl)

pub stray_position : (i : ℕ) (bs : List ℕ) → stray_from i bs ≡ position_from (λ b. not (ltb b 6)) i bs
unfolding stray_from
stray_position i [] = refl
stray_position i (b ∷ bs) =
    elim (ltb b 6) as (λ c. cond c (stray_from (suc i) bs) (Some i) ≡ cond (not c) (Some i) (position_from (λ b. not (ltb b 6)) (i + 1) bs)) [
      | true ↦ rw (add-one i) (stray_position (suc i) bs)
      | false ↦ refl
    ]
