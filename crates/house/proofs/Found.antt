-- What a search for the first pick that a test finds says of all picks. Assumes nothing.
use Rattle.std.proofs.Common.{◌≡◌, ℕ, zero, suc, ◌+◌, ◌<◌, Bool, true, false, cond, List, [], ◌∷◌, length, get_or, Some, None, Option, refl, le_of_suc-le-suc, arith}
use Rattle.house.specs.House.{Spot, desk}
use Rattle.house.specs.Rules.{first_from}

-- the pick that was found, counted from i, passes the test, and those before it fail; where none was found all fail
abbrev pub Finds : (Spot → Bool) → ℕ → List Spot → Option ℕ → Type 0
Finds test i ps None = (k : ℕ) → k < length ps → test (get_or ps k desk) ≡ false
Finds test i ps (Some n) = (j : ℕ) × (n ≡ i + j) × (j < length ps) × (test (get_or ps j desk) ≡ true) × ((k : ℕ) → k < j → test (get_or ps k desk) ≡ false)

module _ (test : Spot → Bool) where
  -- one pick more in front, which fails
  on : (i : ℕ) (p : Spot) (ps : List Spot) (o : Option ℕ) → test p ≡ false → Finds test (suc i) ps o → Finds test i (p ∷ ps) o
  on i p ps None fails f = earlier
    where
      earlier : (k : ℕ) → k < length (p ∷ ps) → test (get_or (p ∷ ps) k desk) ≡ false
      earlier zero h = fails
      earlier (suc k) h = f k (le_of_suc-le-suc h)
  on i p ps (Some n) fails (j, e, h, holds, before) = (suc j, omega arith, omega arith, holds, earlier)
    where
      earlier : (k : ℕ) → k < suc j → test (get_or (p ∷ ps) k desk) ≡ false
      earlier zero l = fails
      earlier (suc k) l = before k (le_of_suc-le-suc l)

  -- the front pick decides
  either : (i : ℕ) (p : Spot) (ps : List Spot) (o : Option ℕ) (b : Bool) → test p ≡ b → Finds test (suc i) ps o → Finds test i (p ∷ ps) (cond b (Some i) o)
  either i p ps o true holds f = (0, omega arith, omega arith, holds, λ k h. absurd (omega arith))
  either i p ps o false fails f = on i p ps o fails f

  pub first_finds : (i : ℕ) (ps : List Spot) → Finds test i ps (first_from test i ps)
  unfolding first_from
  first_finds i [] = λ k h. absurd (omega arith)
  first_finds i (p ∷ ps) = either i p ps (first_from test (suc i) ps) (test p) refl (first_finds (suc i) ps)
