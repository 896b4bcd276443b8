-- How many picks at the start of a list stand in one aisle. Assumes nothing.
use Rattle.std.proofs.Common.{◌≡◌, ℕ, suc, ◌+◌, ◌<◌, Bool, true, false, cond, eqb, List, [], ◌∷◌, length, take, drop, sym, refl, ap, ◌∙◌, arith}
use Rattle.std.proofs.lemmas.List.{at_drop_all, take_rest}
use Rattle.std.specs.List.{prefix_len, slice_range, take_while}
use Rattle.house.specs.declared.layout.Spot.{Spot}
use Rattle.aisle.specs.Order.{run}
use Rattle.aisle.specs.Values.{spots_of}

module _ (a : ℕ) where
  run_is : (xs : List Spot) → run a (spots_of xs) ≡ length (take_while (λ (s : Spot). eqb s.aisle a) xs)
  unfolding run
  run_is [] = refl
  run_is (x ∷ xs) = by (eqb x.aisle a) (run_is xs)
    where
      on : ℕ
      on = prefix_len (λ (s : Spot). eqb s.aisle a) xs

      by : (b : Bool) → run a (spots_of xs) ≡ length (take on xs) → cond b (suc (run a (spots_of xs))) 0 ≡ length (take (cond b (1 + on) 0) (x ∷ xs))
      by true e = let next : suc on ≡ 1 + on = omega arith in ap suc e ∙ ap (λ (n : ℕ). length (take n (x ∷ xs))) next
      by false e = refl

  -- the picks from a place on, and none past the last
  pub run_later :
      (xs : List Spot) (from : ℕ) → run a (spots_of (drop from xs)) ≡ length (take_while (λ (s : Spot). eqb s.aisle a) (slice_range xs from (length xs)))
  run_later xs from = run_is (drop from xs) ∙ ap (λ (l : List Spot). length (take_while (λ (s : Spot). eqb s.aisle a) l)) (sym (take_rest xs from))

  pub run_past : (xs : List Spot) (from : ℕ) → length xs < from → run a (spots_of (drop from xs)) ≡ 0
  unfolding run
  run_past xs from l = at_drop_all (λ (m : List Spot). run a (spots_of m)) xs from (omega arith)
