-- Costs of which there are none, or a least one; and that this can be told over finitely many choices. Assumes nothing.
use Rattle.std.proofs.Common.{◌≡◌, ℕ, ◌+◌, ◌≤◌, ◌⊎◌, List, [], ◌∷◌, Some, None, Option, refl, subst, inl, inr, ⊎_elim, arith}
use native.Mathlib.Decide.{dec_le}

-- no cost, or a least one
pub data Optimum (P : ℕ → Type 0) : Type 0 where
  never : ((w : ℕ) → ¬ (P w)) → Optimum P
  least : (w : ℕ) → P w → ((v : ℕ) → P v → w ≤ v) → Optimum P

pub optimum_alike : {P Q : ℕ → Type 0} → ((w : ℕ) → P w → Q w) → ((w : ℕ) → Q w → P w) → Optimum P → Optimum Q
optimum_alike to from (never none) = never (λ w q. none w (from w q))
optimum_alike to from (least w p first) = least w (to w p) (λ v q. first v (from v q))

-- the costs of one kind and of another
pub optimum_either : {P Q : ℕ → Type 0} → Optimum P → Optimum Q → Optimum (λ w. P w ⊎ Q w)
optimum_either (never a) (never b) = never (λ w. ⊎_elim (a w) (b w))
optimum_either (never a) (least w q first) = least w (inr q) (λ v. ⊎_elim (λ p. absurd (a v p)) (first v))
optimum_either (least w p first) (never b) = least w (inl p) (λ v. ⊎_elim (first v) (λ q. absurd (b v q)))
optimum_either (least w p first) (least x q second) =
    elim (dec_le w x) [
      | yes l ↦ least w (inl p) (λ v. ⊎_elim (first v) (λ z. omega (arith, second v z)))
      | no l ↦ least x (inr q) (λ v. ⊎_elim (λ z. omega (arith, first v z)) (second v))
    ]

-- all costs with so much more
pub optimum_more : {P : ℕ → Type 0} (k : ℕ) → Optimum P → Optimum (λ w. (v : ℕ) × P v × (w ≡ v + k))
optimum_more k (never none) = never (λ w z. none z.0 z.1)
optimum_more k (least w p first) = least (w + k) (w, p, refl) (λ v z. omega (arith, first z.0 z.1, z.2))

-- one cost only
pub optimum_one : (k : ℕ) → Optimum (λ w. w ≡ k)
optimum_one k = least k refl (λ v e. omega arith)

-- under a condition
pub optimum_if : {A : Type 0} {P : ℕ → Type 0} → Dec A → Optimum P → Optimum (λ w. A × P w)
optimum_if (no n) o = never (λ w z. n z.0)
optimum_if (yes a) o = optimum_alike (λ w p. (a, p)) (λ w z. z.1) o

-- the costs of what was found
pub optimum_found : {A : Type 0} (P : A → ℕ → Type 0) (found : Option A) → ((x : A) → Optimum (P x)) → Optimum (λ w. (x : A) × (found ≡ Some x) × P x w)
optimum_found P None each = never (λ w z. let q : ◌≡◌ {A = ℕ} 0 1 = cc z.1 in omega arith)
optimum_found {A} P (Some x) each = optimum_alike (λ w p. (x, refl, p)) (λ w z. from w z) (each x)
  where
    from : (w : ℕ) → (y : A) × (Some x ≡ Some y) × P y w → P x w
    from w (y, same, p) = subst (λ z. P z w) (cc) p

-- x is one of a list
abbrev pub OneOf : {A : Type 0} → A → List A → Type 0
OneOf x [] = ⊥
OneOf x (y ∷ ys) = (x ≡ y) ⊎ OneOf x ys

-- the costs of the choices in a list
pub optimum_of :
    {A : Type 0} (P : A → ℕ → Type 0) → ((x : A) → Optimum (P x)) → (xs : List A) → Optimum (λ w. (x : A) × OneOf x xs × P x w)
optimum_of P each [] = never (λ w z. z.1)
optimum_of {A} P each (y ∷ ys) = optimum_alike to from (optimum_either (each y) (optimum_of P each ys))
  where
    to : (w : ℕ) → P y w ⊎ ((x : A) × OneOf x ys × P x w) → (x : A) × OneOf x (y ∷ ys) × P x w
    to w (inl p) = (y, inl refl, p)
    to w (inr (x, i, p)) = (x, inr i, p)

    from : (w : ℕ) → (x : A) × OneOf x (y ∷ ys) × P x w → P y w ⊎ ((x : A) × OneOf x ys × P x w)
    from w (x, inl same, p) = inl (rw same at p)
    from w (x, inr i, p) = inr (x, i, p)

-- the costs of all choices, where a list has them all
pub optimum_over : {A : Type 0} (P : A → ℕ → Type 0) (xs : List A) → ((x : A) → OneOf x xs) → ((x : A) → Optimum (P x)) → Optimum (λ w. (x : A) × P x w)
optimum_over P xs all each = optimum_alike (λ w z. (z.0, z.2)) (λ w z. (z.0, all z.0, z.1)) (optimum_of P each xs)
