-- Changes within the first 448 cells of the tables: they leave what stands behind as it is, and do not depend on it. Assumes nothing.
use Rattle.std.proofs.Common.{◌≡◌, ℕ, zero, suc, ◌+◌, ◌*◌, ◌<◌, ◌≤◌, List, [], ◌∷◌, ◌++◌, length, get_or, set, Some, None, Option, sym, refl, ap, ◌∙◌, subst, arith, length-set}
use native.Mathlib.Decide.{dec_lt}
use Rattle.std.proofs.lemmas.List.{get_or_append_left, set-append_left}
use Rattle.house.specs.House.{House, Spot}
use Rattle.aisle.specs.Costs.{Effect, nothing, from_front, from_back, both_ends, through_once, through_twice}
use Rattle.classes.specs.Classes.{Class, nothing_yet, Passage, none, transition}
use Rattle.partial.specs.Filling.{part_depths, after_part, row, filled}
use Rattle.partial.specs.Prices.{never, price}
use Rattle.partial.specs.Table.{cell, choice_number, Tables, tables, plus, toll, offer, go, extend, blanked, cleared, moves, spread, next_row, opened, first_row}
use Rattle.partial.proofs.ChoiceParts.{class_place_small}
use Rattle.partial.proofs.Offers.{offer_taken, offer_left, go_nowhere, go_to, opened_to}
use Rattle.partial.proofs.RowsMade.{every_effect_opens}

-- tables of 448 cells each
pub record Full (t : Tables) : Type 0 where
  pub lengths : length t.lengths ≡ 448
  pub came : length t.came ≡ 448

-- tables with more cells behind
abbrev pub with_more : Tables → Tables → Tables
with_more more t = tables (t.lengths ++ more.lengths) (t.came ++ more.came)

pub record Within (f : Tables → Tables) : Type 0 where
  pub full : (t : Tables) → Full t → Full (f t)
  pub alone : (more t : Tables) → Full t → f (with_more more t) ≡ with_more more (f t)

none_within : Within (λ t. t)
none_within = record { full = λ t h. h; alone = λ more t h. refl }

both_within : (f g : Tables → Tables) → Within f → Within g → Within (λ t. g (f t))
both_within f g w v =
    record { full = λ t h. v.full (f t) (w.full t h); alone = λ more t h. ap g (w.alone more t h) ∙ v.alone more (f t) (w.full t h) }

module _ (i w k : ℕ) (l : i < 448) where
  set_full : (t : Tables) → Full t → Full (tables (set t.lengths i w) (set t.came i k))
  set_full t h = record { lengths = length-set t.lengths i w ∙ h.lengths; came = length-set t.came i k ∙ h.came }

  set_alone :
      (more t : Tables) → Full t →
      tables (set (t.lengths ++ more.lengths) i w) (set (t.came ++ more.came) i k) ≡ with_more more (tables (set t.lengths i w) (set t.came i k))
  set_alone more t h =
      λ j. tables (set-append_left t.lengths more.lengths i w (omega (arith, h.lengths)) j) (set-append_left t.came more.came i k (omega (arith, h.came)) j)

  offer_within : Within (offer i w k)
  offer_within = record { full = λ t h. full t h; alone = λ more t h. alone more t h }
    where
      full : (t : Tables) → Full t → Full (offer i w k t)
      full t h =
          elim (dec_lt w (get_or t.lengths i 0)) [
            | yes less ↦ rw (offer_taken i w k t less) (set_full t h)
            | no not_less ↦ rw (offer_left i w k t (omega arith)) h
          ]

      alone : (more t : Tables) → Full t → offer i w k (with_more more t) ≡ with_more more (offer i w k t)
      alone more t h =
          let same : get_or (t.lengths ++ more.lengths) i 0 ≡ get_or t.lengths i 0 = get_or_append_left t.lengths more.lengths 0 i (omega (arith, h.lengths)) in
          elim (dec_lt w (get_or t.lengths i 0)) [
            | yes less ↦
                offer_taken i w k (with_more more t) (omega arith) ∙ set_alone more t h ∙ ap (with_more more) (sym (offer_taken i w k t less))
            | no not_less ↦ offer_left i w k (with_more more t) (omega arith) ∙ ap (with_more more) (sym (offer_left i w k t (omega arith)))
          ]

module _ (apart : ℕ) (prices : Effect → ℕ) (a : ℕ) (l : a + 1 < 64) where
  go_within : (c : Class) (p : Passage) (e : Effect) → Within (go apart prices a c p e)
  go_within c p e = by_transition (transition c p e) refl
    where
      total : List ℕ → ℕ
      total ls = plus (plus (get_or ls (cell a c) 0) (toll apart p)) (prices e)

      by_transition : (o : Option Class) → transition c p e ≡ o → Within (go apart prices a c p e)
      by_transition None nowhere =
          record {
            full = λ t h. subst Full (go_nowhere apart prices a c p e t (sym nowhere)) h;
            alone = λ more t h. sym (go_nowhere apart prices a c p e (with_more more t) (sym nowhere)) ∙ ap (with_more more) (go_nowhere apart prices a c p e t (sym nowhere));
          }
      by_transition (Some d) leads =
          record {
            full = λ t h. subst Full (offered t) ((offer_here t).full t h);
            alone = λ more t h.
                sym (offered (with_more more t)) ∙ ap (λ (n : ℕ). offer (cell (a + 1) d) n (choice_number c p e) (with_more more t)) (same more t h)
                ∙ (offer_here t).alone more t h ∙ ap (with_more more) (offered t);
          }
        where
          offered : (t : Tables) → offer (cell (a + 1) d) (plus (plus (get_or t.lengths (cell a c) 0) (toll apart p)) (prices e)) (choice_number c p e) t ≡ go apart prices a c p e t
          offered t = go_to apart prices a c p e d t _ _ _ (sym leads) refl refl refl

          offer_here : (t : Tables) → Within (offer (cell (a + 1) d) (plus (plus (get_or t.lengths (cell a c) 0) (toll apart p)) (prices e)) (choice_number c p e))
          offer_here t = offer_within _ _ _ (omega (arith, class_place_small d))

          same :
              (more t : Tables) → Full t →
              plus (plus (get_or (t.lengths ++ more.lengths) (cell a c) 0) (toll apart p)) (prices e) ≡ plus (plus (get_or t.lengths (cell a c) 0) (toll apart p)) (prices e)
          same more t h =
              ap (λ (n : ℕ). plus (plus n (toll apart p)) (prices e))
              (get_or_append_left t.lengths more.lengths 0 (cell a c) (omega (arith, h.lengths, class_place_small c)))

  extend_within : (c : Class) (p : Passage) → Within (extend apart prices a c p)
  unfolding extend
  extend_within c p =
      both_within _ _ (go_within c p nothing) (both_within _ _ (go_within c p from_front) (both_within _ _ (go_within c p from_back)
      (both_within _ _ (go_within c p both_ends) (both_within _ _ (go_within c p through_once) (go_within c p through_twice)))))

  spread_within : (ms : List (Class × Passage)) → Within (spread apart prices a ms)
  unfolding spread
  spread_within [] = none_within
  spread_within (m ∷ ms) = both_within _ _ (extend_within m.0 m.1) (spread_within ms)

blanked_within : (i : ℕ) → i < 448 → Within (blanked i)
unfolding blanked
blanked_within i l = record { full = λ t h. set_full i never 0 l t h; alone = λ more t h. set_alone i never 0 l more t h }

cleared_within : (a : ℕ) → a < 64 → Within (cleared a)
unfolding cleared
cleared_within a l =
    both_within _ _ (blanked_within (7 * a) (omega arith)) (both_within _ _ (blanked_within (7 * a + 1) (omega arith)) (both_within _ _ (blanked_within (7 * a + 2) (omega arith))
    (both_within _ _ (blanked_within (7 * a + 3) (omega arith)) (both_within _ _ (blanked_within (7 * a + 4) (omega arith))
    (both_within _ _ (blanked_within (7 * a + 5) (omega arith)) (blanked_within (7 * a + 6) (omega arith)))))))

opened_within : (prices : Effect → ℕ) (e : Effect) → Within (opened prices e)
opened_within prices e =
    let (c, opens) = every_effect_opens e in
    let w : Within (offer (cell 0 c) (prices e) (choice_number nothing_yet none e)) = offer_within _ _ _ (omega (arith, class_place_small c)) in
    let same : (t : Tables) → offer (cell 0 c) (prices e) (choice_number nothing_yet none e) t ≡ opened prices e t = λ t. opened_to prices e c t _ _ _ (sym opens) refl refl refl in
    record { full = λ t h. subst Full (same t) (w.full t h); alone = λ more t h. sym (same (with_more more t)) ∙ w.alone more t h ∙ ap (with_more more) (same t) }

pub row_within : (h : House) (a : ℕ) (prices : Effect → ℕ) → a < 64 → Within (row h a prices)
unfolding first_row next_row
row_within h zero prices l =
    both_within _ _ (cleared_within 0 l) (both_within _ _ (opened_within prices nothing) (both_within _ _ (opened_within prices from_front)
    (both_within _ _ (opened_within prices from_back) (both_within _ _ (opened_within prices both_ends)
    (both_within _ _ (opened_within prices through_once) (opened_within prices through_twice))))))
row_within h (suc a) prices l = both_within _ _ (cleared_within (a + 1) (omega arith)) (spread_within h.apart prices a (omega arith) moves)

pub filled_within : (h : House) (left a : ℕ) (ss : List Spot) → a + left ≤ 64 → Within (filled h left a ss)
unfolding filled
filled_within h zero a ss l = none_within
filled_within h (suc left) a ss l =
    both_within _ _ (row_within h a (price h.deep (part_depths a ss)) (omega arith)) (filled_within h left (a + 1) (after_part a ss) (omega arith))
