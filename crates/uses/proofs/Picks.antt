-- What a test picks, once its answer is known. Assumes nothing.
use Rattle.std.proofs.Common.{◌≡◌, ℕ, suc, ◌+◌, ◌-◌, ◌<◌, ◌≤◌, Bool, true, false, eqb, ltb, leb, sym, refl, ◌∙◌, arith}
use native.Mathlib.Decide.{dec_lt}
use Rattle.uses.specs.Uses.{pick}

pub pick_lt : (m n : ℕ) (x y : ℕ) → m < n → pick (ltb m n) x y ≡ x
pick_lt m n x y i = grind arith

pub pick_ge : (m n : ℕ) (x y : ℕ) → n ≤ m → pick (ltb m n) x y ≡ y
pick_ge m n x y i = grind arith

pub pick_le : (m n : ℕ) (x y : ℕ) → m ≤ n → pick (leb m n) x y ≡ x
pick_le m n x y i = grind arith

pub pick_gt : (m n : ℕ) (x y : ℕ) → n < m → pick (leb m n) x y ≡ y
pick_gt m n x y i = grind arith

pub pick_eq : (m n : ℕ) (x y : ℕ) → m ≡ n → pick (eqb m n) x y ≡ x
pick_eq m n x y i = grind arith

pub pick_ne : (m n : ℕ) (x y : ℕ) → ¬ (m ≡ n) → pick (eqb m n) x y ≡ y
pick_ne m n x y i = grind arith

-- what is picked or left out adds up if it does where it is picked
pub pick_lt_add : (m n x y z : ℕ) → (m < n → x ≡ y + z) → pick (ltb m n) x 0 ≡ pick (ltb m n) y 0 + pick (ltb m n) z 0
pick_lt_add m n x y z e = grind arith

pub pick_eq_add : (m n x y z : ℕ) → x ≡ y + z → pick (eqb m n) x 0 ≡ pick (eqb m n) y 0 + pick (eqb m n) z 0
pick_eq_add m n x y z e = grind arith

-- where something is picked the test holds
pub pick_lt_some : (m n x : ℕ) → 0 < pick (ltb m n) x 0 → (m < n) × (0 < x)
pick_lt_some m n x p = grind arith

pub pick_eq_some : (m n x : ℕ) → 0 < pick (eqb m n) x 0 → (m ≡ n) × (0 < x)
pick_eq_some m n x p = grind arith

-- nothing is picked from nothing
pub pick_zero : (b : Bool) (x : ℕ) → x ≡ 0 → pick b x 0 ≡ 0
pick_zero true x e = e
pick_zero false x e = refl

-- the test on the number before
pub pick_lt_pred : (m n x : ℕ) → pick (ltb (suc m) n) x 0 ≡ pick (ltb m (n - 1)) x 0
pick_lt_pred m n x = elim (dec_lt (suc m) n) [
  | yes i ↦ pick_lt (suc m) n x 0 i ∙ sym (pick_lt m (n - 1) x 0 (omega arith))
  | no i ↦ pick_ge (suc m) n x 0 (omega arith) ∙ sym (pick_ge m (n - 1) x 0 (omega arith))
]
