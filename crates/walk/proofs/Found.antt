-- A search for the first pick finds it, and nothing where there is none. Assumes nothing.
use Rattle.std.proofs.Common.{◌≡◌, ℕ, ◌<◌, Bool, true, false, List, length, get_or, Some, None, Option, refl, ap, inl, inr, arith}
use Rattle.std.proofs.lemmas.Bool.{both_ways, cases_order}
use Rattle.house.specs.House.{Spot, desk}
use Rattle.house.specs.Rules.{first_from}
use Rattle.house.proofs.Found.{Finds, first_finds}

module _ (test : Spot → Bool) (ps : List Spot) where
  none_found : ((k : ℕ) → k < length ps → test (get_or ps k desk) ≡ false) → (o : Option ℕ) → Finds test 0 ps o → o ≡ None
  none_found fail None f = refl
  none_found fail (Some n) (j, e, k, holds, before) = absurd (both_ways _ (fail j k) holds)

  one_found : (j : ℕ) → j < length ps → test (get_or ps j desk) ≡ true → ((k : ℕ) → k < j → test (get_or ps k desk) ≡ false) → (o : Option ℕ) → Finds test 0 ps o → o ≡ Some j
  one_found j k holds before None f = absurd (both_ways _ (f j k) holds)
  one_found j k holds before (Some n) (m, e, l, there, earlier) =
      elim (cases_order m j) [
        | inl z ↦ ap Some (omega arith)
        | inr z ↦ elim z [ inl lt ↦ absurd (both_ways _ (before m lt) there) | inr gt ↦ absurd (both_ways _ (earlier j gt) holds) ]
      ]

  pub first_none : ((k : ℕ) → k < length ps → test (get_or ps k desk) ≡ false) → first_from test 0 ps ≡ None
  first_none fail = none_found fail (first_from test 0 ps) (first_finds test 0 ps)

  pub first_some : (j : ℕ) → j < length ps → test (get_or ps j desk) ≡ true → ((k : ℕ) → k < j → test (get_or ps k desk) ≡ false) → first_from test 0 ps ≡ Some j
  first_some j k holds before = one_found j k holds before (first_from test 0 ps) (first_finds test 0 ps)
