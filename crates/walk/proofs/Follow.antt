-- Rows of steps one after the other: where they lead, what they are long and which spots they pass. Assumes nothing.
use Rattle.std.proofs.Common.{◌≡◌, ℕ, ◌+◌, ◌⊎◌, List, [], ◌∷◌, ◌++◌, Some, None, Option, sym, refl, ap, ◌∙◌, subst, inl, inr, arith}
use Rattle.std.proofs.lemmas.Option.{none-some}
use Rattle.house.specs.House.{House, Spot}
use Rattle.walk.specs.Steps.{Within, landing, worth, follow, measure, reached, trace}
use Rattle.walk.proofs.Lands.{landing_within}

pub some_or_none : (o : Option Spot) → ((t : Spot) × (o ≡ Some t)) ⊎ (o ≡ None)
some_or_none (Some t) = inl (t, refl)
some_or_none None = inr refl

module _ (h : House) where
  -- a row of no steps leads to where it begins
  pub stays : (s : Spot) {t : Spot} → follow h s [] ≡ Some t → s ≡ t
  unfolding follow
  stays s e = cc

  module _ (s : Spot) (b : ℕ) (bs : List ℕ) where
    pub follow_more : {t : Spot} → landing h s b ≡ Some t → follow h s (b ∷ bs) ≡ follow h t bs
    unfolding follow
    follow_more e = rw (e, follow)

    pub follow_out : landing h s b ≡ None → follow h s (b ∷ bs) ≡ None
    unfolding follow
    follow_out e = rw (e, follow)

    pub reached_more : {t : Spot} → landing h s b ≡ Some t → reached h s (b ∷ bs) ≡ t ∷ reached h t bs
    unfolding reached
    reached_more e = rw (e, reached)

    -- the first step of a row that leads to t, and the rest
    pub record First (t : Spot) : Type 0 where
      pub on : Spot
      pub leads : landing h s b ≡ Some on
      pub rest : follow h on bs ≡ Some t

    pub first : {t : Spot} → follow h s (b ∷ bs) ≡ Some t → First t
    first e =
        elim (some_or_none (landing h s b)) [
          | inl (u, l) ↦ record { on = u; leads = l; rest = sym (follow_more l) ∙ e }
          | inr l ↦ absurd (none-some _ (sym (follow_out l) ∙ e))
        ]

  pub follow_within : (s : Spot) (bs : List ℕ) {t : Spot} → Within h s → follow h s bs ≡ Some t → Within h t
  follow_within s [] k e = subst (Within h) (stays s e) k
  follow_within s (b ∷ bs) k e = let f = first s b bs e in follow_within f.on bs (landing_within b k f.leads) f.rest

  pub follow_append : (s : Spot) (xs ys : List ℕ) {t : Spot} → follow h s xs ≡ Some t → follow h s (xs ++ ys) ≡ follow h t ys
  follow_append s [] ys e = ap (λ u. follow h u ys) (stays s e)
  follow_append s (b ∷ xs) ys e = let f = first s b xs e in follow_more s b (xs ++ ys) f.leads ∙ follow_append f.on xs ys f.rest

  pub measure_append : (xs ys : List ℕ) → measure h (xs ++ ys) ≡ measure h xs + measure h ys
  unfolding measure
  measure_append [] ys = omega arith
  measure_append (b ∷ xs) ys = omega (arith, measure_append xs ys)

  pub reached_append : (s : Spot) (xs ys : List ℕ) {t : Spot} → follow h s xs ≡ Some t → reached h s (xs ++ ys) ≡ reached h s xs ++ reached h t ys
  unfolding reached
  reached_append s [] ys e = ap (λ u. reached h u ys) (stays s e)
  reached_append s (b ∷ xs) ys {t} e =
      let f = first s b xs e in
      rw (reached_more s b (xs ++ ys) f.leads, reached_more s b xs f.leads) (ap (λ qs. f.on ∷ qs) (reached_append f.on xs ys f.rest))

  pub trace_append : (s : Spot) (xs ys : List ℕ) {t : Spot} → follow h s xs ≡ Some t → trace h s (xs ++ ys) ≡ trace h s xs ++ reached h t ys
  trace_append s xs ys e = ap (λ qs. s ∷ qs) (reached_append s xs ys e)

  -- one more step at the end of a row
  module _ (s : Spot) (xs : List ℕ) (b : ℕ) {t : Spot} (e : follow h s xs ≡ Some t) where
    pub follow_push : follow h s (xs ++ (b ∷ [])) ≡ landing h t b
    unfolding follow
    follow_push =
        elim (some_or_none (landing h t b)) [
          | inl (u, l) ↦ follow_append s xs (b ∷ []) e ∙ follow_more t b [] l ∙ sym l
          | inr l ↦ follow_append s xs (b ∷ []) e ∙ follow_out t b [] l ∙ sym l
        ]

    pub trace_push : {u : Spot} → landing h t b ≡ Some u → trace h s (xs ++ (b ∷ [])) ≡ trace h s xs ++ (u ∷ [])
    unfolding reached
    trace_push l = trace_append s xs (b ∷ []) e ∙ ap (λ qs. trace h s xs ++ qs) (reached_more t b [] l)

  pub measure_push : (xs : List ℕ) (b : ℕ) → measure h (xs ++ (b ∷ [])) ≡ measure h xs + worth h b
  unfolding measure
  measure_push xs b = omega (arith, measure_append xs (b ∷ []))
