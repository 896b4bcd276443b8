-- What holds of both answers of a test holds of what the test picks. Assumes nothing.
use Rattle.std.proofs.Common.{◌≡◌, ℕ, ◌<◌, ◌≤◌, Bool, true, false, ltb, refl, ltb-false, ltb-true}
use Rattle.uses.specs.Uses.{pick}

pub pick_either : {A : Type 0} (P : A → Type 0) (m n : ℕ) (x y : A) → (m < n → P x) → (n ≤ m → P y) → P (pick (ltb m n) x y)
pick_either {A} P m n x y less more = by (ltb m n) refl
  where
    by : (b : Bool) → ltb m n ≡ b → P (pick b x y)
    by true e = less (ltb-true m n e)
    by false e = more (ltb-false m n e)
