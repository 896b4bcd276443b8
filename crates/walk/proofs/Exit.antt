-- The first step of a row that leads out: there is none exactly where the row leads somewhere, and else the steps before it do. Assumes nothing.
use Rattle.std.proofs.Common.{◌≡◌, ℕ, suc, ◌+◌, ◌<◌, ◌⊎◌, List, [], ◌∷◌, ◌++◌, length, get_or, take, drop, Some, None, sym, refl, ap, ◌∙◌, inl, inr, append-nil, arith}
use Rattle.std.proofs.lemmas.List.{drop_more, take-append-drop, length-take-le}
use Rattle.std.proofs.lemmas.Option.{none-some}
use Rattle.house.specs.House.{House, Spot}
use Rattle.walk.specs.Walk.{Goes, byte_of}
use Rattle.walk.specs.Steps.{Within, landing, follow}
use Rattle.walk.specs.Checking.{exit_from}
use Rattle.walk.proofs.Lands.{landing_of_step, step_of_landing}
use Rattle.walk.proofs.Follow.{some_or_none, stays, first, follow_more}

-- no step with this byte exactly where it leads out
pub no_way : {h : House} {t : Spot} {b : ℕ} → landing h t b ≡ None → (u : Spot) (n : ℕ) (g : Goes h t u n) → byte_of g ≡ b → ⊥
no_way {h} {t} l u n g e = none-some _ (sym l ∙ ap (landing h t) (sym e) ∙ (landing_of_step g).leads)

pub leads_nowhere : {h : House} {t : Spot} {b : ℕ} → Within h t → ((u : Spot) (n : ℕ) (g : Goes h t u n) → byte_of g ≡ b → ⊥) → landing h t b ≡ None
leads_nowhere {h} {t} {b} k none =
    elim (some_or_none (landing h t b)) [ inl (u, l) ↦ let g = step_of_landing b k l in absurd (none u _ g.step g.byte) | inr l ↦ l ]

module _ (h : House) where
  module _ (i : ℕ) (s : Spot) (b : ℕ) (bs : List ℕ) where
    exit_more : {t : Spot} → landing h s b ≡ Some t → exit_from h i s (b ∷ bs) ≡ exit_from h (suc i) t bs
    unfolding exit_from
    exit_more e = rw (e, exit_from)

    exit_here : landing h s b ≡ None → exit_from h i s (b ∷ bs) ≡ Some i
    unfolding exit_from
    exit_here e = rw (e, exit_from)

  exit_append : (i : ℕ) (s : Spot) (xs ys : List ℕ) {t : Spot} → follow h s xs ≡ Some t → exit_from h i s (xs ++ ys) ≡ exit_from h (i + length xs) t ys
  exit_append i s [] ys {t} e = let k : i ≡ i + 0 = omega arith in rw (← k, stays h s e)
  exit_append i s (b ∷ xs) ys {t} e =
      let f = first h s b xs e in
      let k : suc i + length xs ≡ i + suc (length xs) = omega arith in
      exit_more i s b (xs ++ ys) f.leads ∙ exit_append (suc i) f.on xs ys f.rest ∙ ap (λ (n : ℕ). exit_from h n t ys) k

  -- no step of a row that leads somewhere leads out
  pub no_exit : (i : ℕ) (s : Spot) (bs : List ℕ) {t : Spot} → follow h s bs ≡ Some t → exit_from h i s bs ≡ None
  unfolding exit_from
  no_exit i s bs e = ap (exit_from h i s) (sym (append-nil bs)) ∙ exit_append i s bs [] e

  -- the step after a row that leads to t leads out
  exit_after : (s : Spot) (xs : List ℕ) (b : ℕ) (ys : List ℕ) {t : Spot} → follow h s xs ≡ Some t → landing h t b ≡ None → exit_from h 0 s (xs ++ (b ∷ ys)) ≡ Some (length xs)
  exit_after s xs b ys {t} e l = let k : 0 + length xs ≡ length xs = omega arith in exit_append 0 s xs (b ∷ ys) e ∙ exit_here _ t b ys l ∙ ap Some k

  -- a step that leads out, after a row that leads to a spot
  pub record Out (s : Spot) (bs : List ℕ) : Type 0 where
    pub place : ℕ
    pub at : Spot
    pub within : place < length bs
    pub leads : follow h s (take place bs) ≡ Some at
    pub out : landing h at (get_or bs place 0) ≡ None

  pub out_or_leads : (s : Spot) (bs : List ℕ) → Out s bs ⊎ ((t : Spot) × (follow h s bs ≡ Some t))
  unfolding follow
  out_or_leads s [] = inr (s, refl)
  out_or_leads s (b ∷ bs) =
      elim (some_or_none (landing h s b)) [
        | inl (t, l) ↦
            elim (out_or_leads t bs) [
              | inl o ↦ inl (record { place = suc o.place; at = o.at; within = omega (arith, o.within); leads = follow_more h s b (take o.place bs) l ∙ o.leads; out = o.out })
              | inr (u, e) ↦ inr (u, follow_more h s b bs l ∙ e)
            ]
        | inr l ↦ inl (record { place = 0; at = s; within = omega arith; leads = refl; out = l })
      ]

  -- the refusal at such a step
  pub exit_at : (s : Spot) (bs : List ℕ) (i : ℕ) {t : Spot} → i < length bs → follow h s (take i bs) ≡ Some t → landing h t (get_or bs i 0) ≡ None → exit_from h 0 s bs ≡ Some i
  exit_at s bs i k e l =
      ap (exit_from h 0 s) (sym (take-append-drop i bs) ∙ ap (λ (xs : List ℕ). take i bs ++ xs) (drop_more bs i 0 k))
      ∙ exit_after s (take i bs) (get_or bs i 0) (drop (i + 1) bs) e l
      ∙ ap Some (length-take-le i bs (omega arith))
