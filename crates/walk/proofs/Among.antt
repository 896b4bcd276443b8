-- The spots of a list, and of two lists one after the other. Assumes nothing.
use Rattle.std.proofs.Common.{◌≡◌, ◌⊎◌, ◌↔◌, List, [], ◌∷◌, ◌++◌, inl, inr, ⊎_elim}
use Rattle.house.specs.House.{Spot}
use Rattle.walk.specs.Steps.{Among}

pub among_append : (p : Spot) (xs ys : List Spot) → Among p (xs ++ ys) ↔ (Among p xs ⊎ Among p ys)
among_append p [] ys = (inr, elim [ inl m ↦ absurd m | inr m ↦ m ])
among_append p (x ∷ xs) ys =
    let ih = among_append p xs ys in (
      elim [ inl e ↦ inl (inl e) | inr m ↦ elim (ih.0 m) [ inl l ↦ inl (inr l) | inr r ↦ inr r ] ],
      elim [ inl m ↦ elim m [ inl e ↦ inl e | inr l ↦ inr (ih.1 (inl l)) ] | inr r ↦ inr (ih.1 (inr r)) ],
    )

pub among_push : (p q : Spot) (qs : List Spot) → Among p (qs ++ (q ∷ [])) ↔ ((q ≡ p) ⊎ Among p qs)
among_push p q qs =
    (λ m. elim ((among_append p qs (q ∷ [])).0 m) [ inl l ↦ inr l | inr r ↦ elim r [ inl e ↦ inl e | inr z ↦ absurd z ] ], ⊎_elim (λ e. (among_append p qs (q ∷ [])).1 (inr (inl e))) (λ m. (among_append p qs (q ∷ [])).1 (inl m)))
