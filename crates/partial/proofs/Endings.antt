-- The class that is taken for the end is one of whole tours, and no other such class is shorter. Assumes nothing.
use Rattle.std.proofs.Common.{◌≡◌, ℕ, ◌≤◌, true, List, [], ◌∷◌, fold, ◌++◌, sym, refl, ap, ◌∙◌, arith, le-ltb, lt-ltb}
use Rattle.std.proofs.lemmas.List.Sums.{fold-append}
use native.Mathlib.Decide.{dec_lt}
use Rattle.classes.specs.Classes.{Class, odd_odd, even_back, even_front, even_one, even_two, nothing_yet, closed, closes}
use Rattle.classes.specs.Values.{class_of}
use Rattle.classes.specs.declared.class.Class as code
use Rattle.classes.specs.declared.class.Class.TheVariants.{EvenFront, EvenOne, EvenBack, NothingYet}
use Rattle.partial.specs.Ending.{length_at, shorter, ending, Ends}

-- the classes that are whole tours, but for the closed one
abbrev pub whole_tours : List code.Class
whole_tours = EvenFront ∷ EvenOne ∷ EvenBack ∷ NothingYet ∷ []

module _ (lengths : List ℕ) (a : ℕ) where
  -- the shorter of two classes: of whole tours if both are, and no longer than either
  record Taken (c d r : Class) : Type 0 where
    whole : closes c ≡ true → closes d ≡ true → closes r ≡ true
    first : length_at lengths a r ≤ length_at lengths a c
    second : length_at lengths a r ≤ length_at lengths a d

  taken : (c d : Class) → Taken c d (shorter lengths a c d)
  taken c d =
      elim (dec_lt (length_at lengths a d) (length_at lengths a c)) [
        | yes l ↦ rw (lt-ltb _ _ l) (record { whole = λ s t. t; first = omega arith; second = omega arith })
        | no l ↦ rw (le-ltb (length_at lengths a d) (length_at lengths a c) (omega arith)) (record { whole = λ s t. s; first = omega arith; second = omega arith })
      ]

  -- the classes of whole tours, one after the other
  chain : (c₁ c₂ c₃ c₄ : Class) → Taken closed even_front c₁ → Taken c₁ even_one c₂ → Taken c₂ even_back c₃ → Taken c₃ nothing_yet c₄ → Ends lengths a c₄
  chain c₁ c₂ c₃ c₄ t₁ t₂ t₃ t₄ = record { whole = t₄.whole (t₃.whole (t₂.whole (t₁.whole refl refl) refl) refl) refl; least = least }
    where
      least : (d : Class) → closes d ≡ true → length_at lengths a c₄ ≤ length_at lengths a d
      least odd_odd e = absurd (let z : ◌≡◌ {A = ℕ} 0 1 = cc in omega arith)
      least even_back e = omega (arith, t₃.second, t₄.first)
      least even_front e = omega (arith, t₁.second, t₂.first, t₃.first, t₄.first)
      least even_one e = omega (arith, t₂.second, t₃.first, t₄.first)
      least even_two e = absurd (let z : ◌≡◌ {A = ℕ} 0 1 = cc in omega arith)
      least nothing_yet e = t₄.second
      least closed e = omega (arith, t₁.first, t₂.first, t₃.first, t₄.first)

  pub ending_ends : Ends lengths a (ending lengths a)
  unfolding ending
  ending_ends = chain _ _ _ _ (taken _ _) (taken _ _) (taken _ _) (taken _ _)

  -- the shortest of a closed tour and the others so far
  abbrev pub shortest : List code.Class → Class
  shortest ds = fold (λ c d. shorter lengths a c (class_of d)) closed ds

  -- a class that stands for it
  abbrev pub Best : List code.Class → code.Class → Type 0
  Best ds r = class_of r ≡ shortest ds

  pub shortest_more : (ds : List code.Class) (d : code.Class) (c r : Class) → c ≡ shortest ds → r ≡ shorter lengths a c (class_of d) → r ≡ shortest (ds ++ d ∷ [])
  shortest_more ds d c r so_far taken =
      taken ∙ ap (λ (x : Class). shorter lengths a x (class_of d)) so_far
      ∙ sym (fold-append (λ x y. shorter lengths a x (class_of y)) closed ds (d ∷ []))

  pub shortest_of_all : (c : Class) → c ≡ shortest whole_tours → c ≡ ending lengths a
  unfolding ending
  shortest_of_all c e = e
