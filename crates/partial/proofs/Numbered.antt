-- Every entry that is made in the table of where partial tours came from is the number of a choice. Assumes nothing.
use Rattle.std.proofs.Common.{◌≡◌, ℕ, zero, suc, ◌+◌, ◌*◌, ◌<◌, ◌≤◌, List, [], ◌∷◌, length, get_or, set, Some, None, Option, sym, refl, subst, add-one, arith, length-set, get_or-set_other}
use native.Mathlib.Decide.{dec_lt, ℕ_discrete}
use Rattle.std.proofs.lemmas.Grind.{get_or-set_at}
use Rattle.std.proofs.lemmas.List.{get_or_past}
use Rattle.house.specs.House.{House, Spot}
use Rattle.aisle.specs.Costs.{Effect, nothing, from_front, from_back, both_ends, through_once, through_twice}
use Rattle.classes.specs.Classes.{Class, odd_odd, even_back, even_front, even_one, even_two, nothing_yet, closed, Passage, none, transition}
use Rattle.partial.specs.Filling.{part_depths, after_part, row, filled}
use Rattle.partial.specs.Prices.{price}
use Rattle.partial.specs.Table.{cell, choice_number, Tables, offer, go, extend, blanked, cleared, moves, spread, next_row, opened, first_row}
use Rattle.partial.proofs.ChoiceParts.{number_small}
use Rattle.partial.proofs.Offers.{offer_taken, offer_left, go_nowhere, go_to, opened_to}
use Rattle.partial.proofs.RowsMade.{every_effect_opens}

-- an entry is no larger than the largest number of a choice
abbrev pub Small : ℕ → Tables → Type 0
Small i t = get_or t.came i 0 ≤ 209

-- a change that makes no other entries
abbrev Keeps : (Tables → Tables) → Type 0
Keeps f = (i : ℕ) (t : Tables) → Small i t → Small i (f t)

set_small : (xs : List ℕ) (i j x : ℕ) → x ≤ 209 → get_or xs j 0 ≤ 209 → get_or (set xs i x) j 0 ≤ 209
set_small xs i j x l m =
    elim (ℕ_discrete j i) [
      | no n ↦ omega (arith, get_or-set_other xs i j x 0 n)
      | yes e ↦
          elim (dec_lt i (length xs)) [
            | yes k ↦ omega (arith, get_or-set_at xs i j x 0 e k)
            | no k ↦ omega (arith, get_or_past (set xs i x) j 0 (omega (arith, length-set xs i x)))
          ]
    ]

offer_keeps : (i w k : ℕ) → k ≤ 209 → Keeps (offer i w k)
offer_keeps i w k l j t s =
    elim (dec_lt w (get_or t.lengths i 0)) [
      | yes less ↦ rw (offer_taken i w k t less) (set_small t.came i j k l s)
      | no not_less ↦ rw (offer_left i w k t (omega arith)) s
    ]

module _ (apart : ℕ) (prices : Effect → ℕ) (a : ℕ) where
  go_keeps : (c : Class) (p : Passage) (e : Effect) → Keeps (go apart prices a c p e)
  go_keeps c p e i t s = by_transition (transition c p e) refl
    where
      by_transition : (o : Option Class) → transition c p e ≡ o → Small i (go apart prices a c p e t)
      by_transition None nowhere = subst (Small i) (go_nowhere apart prices a c p e t (sym nowhere)) s
      by_transition (Some d) leads =
          subst (Small i) (go_to apart prices a c p e d t _ _ _ (sym leads) refl refl refl) (offer_keeps _ _ (choice_number c p e) (number_small c p e) i t s)

  extend_keeps : (c : Class) (p : Passage) → Keeps (extend apart prices a c p)
  unfolding extend
  extend_keeps c p i t s =
      go_keeps c p through_twice i _ (go_keeps c p through_once i _ (go_keeps c p both_ends i _
      (go_keeps c p from_back i _ (go_keeps c p from_front i _ (go_keeps c p nothing i t s)))))

  spread_keeps : (ms : List (Class × Passage)) → Keeps (spread apart prices a ms)
  unfolding spread
  spread_keeps [] i t s = s
  spread_keeps (m ∷ ms) i t s = spread_keeps ms i _ (extend_keeps m.0 m.1 i t s)

opened_keeps : (prices : Effect → ℕ) (e : Effect) → Keeps (opened prices e)
opened_keeps prices e i t s =
    let (c, opens) = every_effect_opens e in
    subst (Small i) (opened_to prices e c t _ _ _ (sym opens) refl refl refl)
    (offer_keeps _ _ (choice_number nothing_yet none e) (number_small nothing_yet none e) i t s)

opened_all_keeps :
    (prices : Effect → ℕ) →
    Keeps (λ t. opened prices through_twice (opened prices through_once (opened prices both_ends (opened prices from_back (opened prices from_front (opened prices nothing t))))))
opened_all_keeps prices i t s =
    opened_keeps prices through_twice i _ (opened_keeps prices through_once i _ (opened_keeps prices both_ends i _
    (opened_keeps prices from_back i _ (opened_keeps prices from_front i _ (opened_keeps prices nothing i t s)))))

blanked_keeps : (j : ℕ) → Keeps (blanked j)
unfolding blanked
blanked_keeps j i t s = set_small t.came j i 0 (omega arith) s

blanked_here : (i j : ℕ) (t : Tables) → i ≡ j → Small i (blanked j t)
unfolding blanked
blanked_here i j t e =
    elim (dec_lt j (length t.came)) [
      | yes k ↦ omega (arith, get_or-set_at t.came j i 0 0 e k)
      | no k ↦ omega (arith, get_or_past (set t.came j 0) i 0 (omega (arith, length-set t.came j 0)))
    ]

cleared_keeps : (a : ℕ) → Keeps (cleared a)
unfolding cleared
cleared_keeps a i t s =
    blanked_keeps (7 * a + 6) i _ (blanked_keeps (7 * a + 5) i _ (blanked_keeps (7 * a + 4) i _ (blanked_keeps (7 * a + 3) i _
    (blanked_keeps (7 * a + 2) i _ (blanked_keeps (7 * a + 1) i _ (blanked_keeps (7 * a) i t s))))))

cleared_small : (a : ℕ) (d : Class) (t : Tables) → Small (cell a d) (cleared a t)
unfolding cleared
cleared_small a closed t = blanked_here _ (7 * a + 6) _ refl
cleared_small a nothing_yet t = blanked_keeps (7 * a + 6) _ _ (blanked_here _ (7 * a + 5) _ refl)
cleared_small a even_two t = blanked_keeps (7 * a + 6) _ _ (blanked_keeps (7 * a + 5) _ _ (blanked_here _ (7 * a + 4) _ refl))
cleared_small a even_one t =
    blanked_keeps (7 * a + 6) _ _ (blanked_keeps (7 * a + 5) _ _ (blanked_keeps (7 * a + 4) _ _ (blanked_here _ (7 * a + 3) _ refl)))
cleared_small a even_front t =
    blanked_keeps (7 * a + 6) _ _ (blanked_keeps (7 * a + 5) _ _ (blanked_keeps (7 * a + 4) _ _ (blanked_keeps (7 * a + 3) _ _ (blanked_here _ (7 * a + 2) _ refl))))
cleared_small a even_back t =
    blanked_keeps (7 * a + 6) _ _ (blanked_keeps (7 * a + 5) _ _ (blanked_keeps (7 * a + 4) _ _ (blanked_keeps (7 * a + 3) _ _
    (blanked_keeps (7 * a + 2) _ _ (blanked_here _ (7 * a + 1) _ refl)))))
cleared_small a odd_odd t =
    blanked_keeps (7 * a + 6) _ _ (blanked_keeps (7 * a + 5) _ _ (blanked_keeps (7 * a + 4) _ _ (blanked_keeps (7 * a + 3) _ _
    (blanked_keeps (7 * a + 2) _ _ (blanked_keeps (7 * a + 1) _ _ (blanked_here _ (7 * a) _ (omega arith)))))))

module _ (h : House) (prices : Effect → ℕ) where
  row_keeps : (a : ℕ) → Keeps (row h a prices)
  unfolding first_row next_row
  row_keeps zero i t s = opened_all_keeps prices i _ (cleared_keeps 0 i t s)
  row_keeps (suc a) i t s = spread_keeps h.apart prices a moves i _ (cleared_keeps (a + 1) i t s)

  row_small : (a : ℕ) (d : Class) (t : Tables) → Small (cell a d) (row h a prices t)
  unfolding first_row next_row
  row_small zero d t = opened_all_keeps prices _ _ (cleared_small 0 d t)
  row_small (suc a) d t =
      spread_keeps h.apart prices a moves _ _ (subst (λ (n : ℕ). Small (cell n d) (cleared (a + 1) t)) (add-one a) (cleared_small (a + 1) d t))

-- the rows that are filled, and those before them if they were so
pub filled_small :
    (h : House) (left a : ℕ) (ss : List Spot) (t : Tables) (b : ℕ) (d : Class) → b < a + left → (b < a → Small (cell b d) t) → Small (cell b d) (filled h left a ss t)
unfolding filled
filled_small h zero a ss t b d l before = before (omega arith)
filled_small h (suc left) a ss t b d l before =
    filled_small h left (a + 1) (after_part a ss) (row h a (price h.deep (part_depths a ss)) t) b d (omega arith)
    (λ m. elim (ℕ_discrete a b) [
      | yes e ↦ subst (λ (n : ℕ). Small (cell n d) (row h a (price h.deep (part_depths a ss)) t)) e (row_small h (price h.deep (part_depths a ss)) a d t)
      | no n ↦ row_keeps h (price h.deep (part_depths a ss)) a (cell b d) t (before (omega arith))
    ])
