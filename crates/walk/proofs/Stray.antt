-- The first byte of a row that is no step: all before it are steps, and where there is none all are. Assumes nothing.
use Rattle.std.proofs.Common.{◌≡◌, ℕ, zero, suc, ◌+◌, ◌<◌, ◌≤◌, ◌⊎◌, List, [], ◌∷◌, length, get_or, Some, None, refl, ap, ◌∙◌, inl, inr, le_of_suc-le-suc, arith}
use native.Mathlib.Decide.{dec_le}
use Rattle.std.proofs.lemmas.Bool.{lt-ltb, le-ltb, cond-true, cond-false}
use Rattle.walk.specs.Checking.{stray_from}
use Rattle.walk.specs.Promise.{StepsBefore}

pub one_more : (n b : ℕ) (bs : List ℕ) → b ≤ 5 → StepsBefore n bs → StepsBefore (suc n) (b ∷ bs)
one_more n b bs l before zero k = l
one_more n b bs l before (suc j) k = before j (le_of_suc-le-suc k)

module _ (i b : ℕ) (bs : List ℕ) where
  stray_on : b ≤ 5 → stray_from i (b ∷ bs) ≡ stray_from (suc i) bs
  unfolding stray_from
  stray_on l = cond-true _ _ _ (lt-ltb b 6 (omega arith))

  stray_stop : 5 < b → stray_from i (b ∷ bs) ≡ Some i
  unfolding stray_from
  stray_stop l = cond-false _ _ _ (le-ltb b 6 (omega arith))

stray_at : (i : ℕ) (bs : List ℕ) (j : ℕ) → StepsBefore j bs → j < length bs → 5 < get_or bs j 0 → stray_from i bs ≡ Some (i + j)
stray_at i [] j before k l = absurd (omega arith)
stray_at i (b ∷ bs) zero before k l = let e : i ≡ i + 0 = omega arith in stray_stop i b bs l ∙ ap Some e
stray_at i (b ∷ bs) (suc j) before k l =
    let e : suc i + j ≡ i + suc j = omega arith in
    stray_on i b bs (before 0 (omega arith)) ∙ stray_at (suc i) bs j (λ n m. before (suc n) (omega arith)) (omega arith) l ∙ ap Some e

pub stray_first : (bs : List ℕ) {j : ℕ} → StepsBefore j bs → j < length bs → 5 < get_or bs j 0 → stray_from 0 bs ≡ Some j
stray_first bs {j} before k l = let e : 0 + j ≡ j = omega arith in stray_at 0 bs j before k l ∙ ap Some e

pub no_stray : (i : ℕ) (bs : List ℕ) → StepsBefore (length bs) bs → stray_from i bs ≡ None
unfolding stray_from
no_stray i [] before = refl
no_stray i (b ∷ bs) before = stray_on i b bs (before 0 (omega arith)) ∙ no_stray (suc i) bs (λ n m. before (suc n) (omega arith))

-- a byte that is no step, after steps only
pub record Stray (bs : List ℕ) : Type 0 where
  pub place : ℕ
  pub before : StepsBefore place bs
  pub within : place < length bs
  pub no_step : 5 < get_or bs place 0

pub stray_or_steps : (bs : List ℕ) → Stray bs ⊎ StepsBefore (length bs) bs
stray_or_steps [] = inr (λ k l. absurd (omega arith))
stray_or_steps (b ∷ bs) =
    elim (dec_le b 5) [
      | yes l ↦
          elim (stray_or_steps bs) [
            | inl s ↦ inl (record { place = suc s.place; before = one_more s.place b bs l s.before; within = omega (arith, s.within); no_step = s.no_step })
            | inr before ↦ inr (one_more (length bs) b bs l before)
          ]
      | no l ↦ inl (record { place = 0; before = λ k m. absurd (omega arith); within = omega arith; no_step = omega arith })
    ]
