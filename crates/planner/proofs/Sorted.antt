-- The picks of every list that fits a house can be sorted into its aisles, in ascending order. Assumes nothing.
use Rattle.std.proofs.Common.{◌≡◌, ℕ, zero, suc, ◌<◌, ◌≤◌, eqb, ltb, ◌⊎◌, List, [], ◌∷◌, length, get_or, sym, refl, inl, inr, arith, eq-eqb, ne_eqb}
use mathlib.Core.Path.{subst⁻¹}
use native.Mathlib.Decide.{ℕ_discrete}
use Rattle.house.specs.House.{House, Spot, desk, Sound}
use Rattle.uses.specs.Uses.{pick}
use Rattle.aisle.specs.Promise.{PickAt}
use Rattle.aisle.specs.Costs.{Among}
use Rattle.aisle.proofs.Ascending.{Rises, among_first, among_rest, first_or_rest}
use Rattle.aisle.proofs.Tests.{pick_either}
use Rattle.planner.specs.Plans.{PicksByAisle}
use Rattle.classes.proofs.Tests.{pick_true, pick_false}

pick_later : (p : Spot) (picks : List Spot) (a y : ℕ) → PickAt picks a y → PickAt (p ∷ picks) a y
pick_later p picks a y (i, d, l, same, e) = (suc i, d, omega arith, same, e)

unfoldable pub insert : ℕ → List ℕ → List ℕ
insert y [] = y ∷ []
insert y (x ∷ xs) = pick (ltb x y) (x ∷ insert y xs) (y ∷ x ∷ xs)

insert_rises : (y d : ℕ) (xs : List ℕ) → Rises d xs → d ≤ y → Rises d (insert y xs)
unfolding insert
insert_rises y d [] up l = (l, tt)
insert_rises y d (x ∷ xs) up l =
    pick_either (Rises d) x y _ _ (λ j. (up.0, insert_rises y x xs up.1 (omega arith))) (λ j. (l, (j, up.1)))

insert_new : (y : ℕ) (xs : List ℕ) → Among (insert y xs) y
unfolding insert
insert_new y [] = among_first y []
insert_new y (x ∷ xs) =
    pick_either (λ l. Among l y) x y _ _ (λ j. among_rest x (insert y xs) (insert_new y xs)) (λ j. among_first y (x ∷ xs))

-- what is among the rest of a list stays among another rest
among_other : (x z : ℕ) (xs ys : List ℕ) → (Among xs z → Among ys z) → Among (x ∷ xs) z → Among (x ∷ ys) z
among_other x z xs ys rest m =
    elim (first_or_rest x xs z m) [ inl e ↦ (0, omega arith, sym e) | inr n ↦ among_rest x ys (rest n) ]

insert_old : (y z : ℕ) (xs : List ℕ) → Among xs z → Among (insert y xs) z
unfolding insert
insert_old y z [] m = absurd (omega (arith, m.1))
insert_old y z (x ∷ xs) m =
    pick_either (λ l. Among l z) x y _ _ (λ j. among_other x z xs (insert y xs) (insert_old y z xs) m) (λ j. among_rest y (x ∷ xs) m)

insert_only : (y z : ℕ) (xs : List ℕ) → Among (insert y xs) z → (z ≡ y) ⊎ Among xs z
unfolding insert
insert_only y z [] = λ m. first_or_rest y [] z m
insert_only y z (x ∷ xs) =
    pick_either (λ l. Among l z → (z ≡ y) ⊎ Among (x ∷ xs) z) x y (x ∷ insert y xs) (y ∷ x ∷ xs)
    (λ j m. elim (first_or_rest x (insert y xs) z m) [
      | inl e ↦ inr (rw e (among_first x xs))
      | inr n ↦ elim (insert_only y z xs n) [ inl e ↦ inl e | inr k ↦ inr (among_rest x xs k) ]
    ])
    (λ j m. first_or_rest y (x ∷ xs) z m)

rises_ascending : (d : ℕ) (xs : List ℕ) → Rises d xs → (i : ℕ) → suc i < length (d ∷ xs) → get_or (d ∷ xs) i 0 ≤ get_or (d ∷ xs) (suc i) 0
rises_ascending d [] up i l = absurd (omega arith)
rises_ascending d (x ∷ xs) up zero l = up.0
rises_ascending d (x ∷ xs) up (suc i) l = rises_ascending x xs up.1 i (omega arith)

-- the depths of the picks in aisle a
unfoldable pub depths_in : List Spot → ℕ → List ℕ
depths_in [] a = []
depths_in (p ∷ picks) a = pick (eqb p.aisle a) (insert p.depth (depths_in picks a)) (depths_in picks a)

-- the list with one pick more, by whether that stands in the aisle
one_more :
    (P : List ℕ → Type 0) (p : Spot) (picks : List Spot) (a : ℕ) → (p.aisle ≡ a → P (insert p.depth (depths_in picks a))) →
    (¬ (p.aisle ≡ a) → P (depths_in picks a)) → P (depths_in (p ∷ picks) a)
unfolding depths_in
one_more P p picks a here else =
    elim (ℕ_discrete p.aisle a) [
      | yes e ↦ subst⁻¹ P (pick_true _ _ (eq-eqb p.aisle a e)) (here e)
      | no n ↦ subst⁻¹ P (pick_false _ _ (ne_eqb p.aisle a n)) (else n)
    ]

depths_rise : (picks : List Spot) (a : ℕ) → Rises 0 (depths_in picks a)
unfolding depths_in
depths_rise [] a = tt
depths_rise (p ∷ picks) a = one_more (Rises 0) p picks a (λ e. insert_rises p.depth 0 _ (depths_rise picks a) (omega arith)) (λ n. depths_rise picks a)

depths_every : (picks : List Spot) (i : ℕ) (d : Spot) → i < length picks → Among (depths_in picks (get_or picks i d).aisle) (get_or picks i d).depth
depths_every [] i d l = absurd (omega arith)
depths_every (p ∷ picks) zero d l =
    one_more (λ ds. Among ds p.depth) p picks p.aisle (λ e. insert_new p.depth _) (λ n. absurd (n refl))
depths_every (p ∷ picks) (suc i) d l =
    let q = get_or picks i d in
    let later = depths_every picks i d (omega arith) in
    one_more (λ ds. Among ds q.depth) p picks q.aisle (λ e. insert_old p.depth q.depth _ later) (λ n. later)

depths_only : (picks : List Spot) (a y : ℕ) → Among (depths_in picks a) y → PickAt picks a y
unfolding depths_in
depths_only [] a y = λ m. absurd (omega (arith, m.1))
depths_only (p ∷ picks) a y =
    one_more (λ ds. Among ds y → PickAt (p ∷ picks) a y) p picks a
    (λ e m. elim (insert_only p.depth y _ m) [ inl same ↦ (0, p, omega arith, e, sym same) | inr n ↦ pick_later p picks a y (depths_only picks a y n) ])
    (λ n m. pick_later p picks a y (depths_only picks a y m))

pub sorted_picks : (h : House) (picks : List Spot) → Sound h picks → 0 < length picks → PicksByAisle h picks (depths_in picks)
sorted_picks h picks sound some =
    record {
      depths = λ a l. record {
        some_step = omega (arith, sound.inside 0 desk some);
        inside = λ i l. pick_inside (depths_only picks a (get_or (depths_in picks a) i 0) (i, l, refl));
        ascending = λ i l. rises_ascending 0 (depths_in picks a) (depths_rise picks a) (suc i) (omega arith);
      };
      every = depths_every picks;
      only = λ a y l m. depths_only picks a y m;
    }
  where
    pick_inside : {a y : ℕ} → PickAt picks a y → (0 < y) × (y < h.deep)
    pick_inside (i, d, l, same, e) = omega (arith, sound.inside i d l)
