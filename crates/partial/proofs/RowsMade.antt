-- A row that is made holds the least length of the ways to each class, and the choice by which it came. Assumes nothing.
use Rattle.std.proofs.Common.{◌≡◌, ℕ, zero, suc, ◌+◌, ◌<◌, ◌≤◌, ◌⊎◌, List, [], ◌∷◌, length, get_or, Some, None, Option, sym, refl, subst, inl, inr, arith}
use Rattle.aisle.specs.Costs.{Effect, nothing, from_front, from_back, both_ends, through_once, through_twice}
use Rattle.classes.specs.Classes.{Class, odd_odd, even_front, even_one, even_two, nothing_yet, Passage, none, transition, opening}
use Rattle.partial.specs.Table.{cell, choice_number, Tables, plus, toll, go, extend, moves, spread, next_row, opened, first_row, cleared}
use Rattle.partial.proofs.ChoiceParts.{class_place_small}
use Rattle.partial.proofs.ClearedRow.{cleared_row}
use Rattle.partial.proofs.Moves.{Listed, moves_are_all}
use Rattle.partial.proofs.Offers.{go_nowhere, go_to, opened_to}
use Rattle.partial.proofs.RowOffers.{entry, HasRow, SoFar, Onward, Makes, met_less, nothing_met, both_met, offer_met, each_effect}

-- a way to class d in aisle 0, of length w, with number k: an effect that opens it
pub record FirstWay (prices : Effect → ℕ) (d : Class) (w k : ℕ) : Type 0 where
  pub effect : Effect
  pub opens : opening effect ≡ Some d
  pub total : prices effect ≡ w
  pub number : choice_number nothing_yet none effect ≡ k

-- a way to class d in the next aisle, of length w, with number k: a class of the row before, passages and an effect that lead to it
pub record NextWay (apart : ℕ) (prices : Effect → ℕ) (old : Class → ℕ) (d : Class) (w k : ℕ) : Type 0 where
  pub class : Class
  pub passage : Passage
  pub effect : Effect
  pub leads : transition class passage effect ≡ Some d
  pub total : plus (plus (old class) (toll apart passage)) (prices effect) ≡ w
  pub number : choice_number class passage effect ≡ k

-- the row of aisle a is made: no way to a class is shorter than its entry
pub record RowMade (a : ℕ) (Way : Class → ℕ → ℕ → Type 0) (was is : Tables) : Type 0 where
  pub so_far : SoFar a Way was is
  pub least : (d : Class) (w k : ℕ) → Way d w k → entry is.lengths a d ≤ w

pub every_effect_opens : (e : Effect) → (c : Class) × (opening e ≡ Some c)
every_effect_opens nothing = (even_front, refl)
every_effect_opens from_front = (even_front, refl)
every_effect_opens from_back = (even_two, refl)
every_effect_opens both_ends = (even_two, refl)
every_effect_opens through_once = (odd_odd, refl)
every_effect_opens through_twice = (even_one, refl)

module _ (prices : Effect → ℕ) (was : Tables) (room : HasRow 0 was) where
  -- the offer of an effect in aisle 0 is met
  opened_met : (e : Effect) → Makes 0 (FirstWay prices) was (λ d w. (opening e ≡ Some d) × (prices e ≡ w)) (opened prices e)
  opened_met e t s =
      let (c, opens) = every_effect_opens e in
      let way : FirstWay prices c (prices e) (choice_number nothing_yet none e) = record { effect = e; opens = opens; total = refl; number = refl } in
      rw (← opened_to prices e c t _ _ _ (sym opens) refl refl refl)
      (met_less (λ d w (same, total). (let z : c ≡ d = cc in z, total)) (offer_met room c (prices e) (choice_number nothing_yet none e) way t s))

  pub first_row_made : RowMade 0 (FirstWay prices) was (first_row prices was)
  unfolding first_row
  first_row_made = record { so_far = on.now; least = λ d w k way. on.meets d w (way.effect, (way.opens, way.total)) }
    where
      on : Onward 0 (FirstWay prices) was (λ d w. (e : Effect) × ((opening e ≡ Some d) × (prices e ≡ w))) (cleared 0 was) (first_row prices was)
      on = each_effect (opened prices) opened_met (cleared 0 was) (cleared_row room)

-- an offer of these lengths by a class, passages and an effect
abbrev LeadsAt : ℕ → (Effect → ℕ) → (Class → ℕ) → Class → Passage → Effect → Class → ℕ → Type 0
LeadsAt apart prices old c p e d w = (transition c p e ≡ Some d) × (plus (plus (old c) (toll apart p)) (prices e) ≡ w)

module _ (apart : ℕ) (prices : Effect → ℕ) (a : ℕ) (was : Tables) (room : HasRow (a + 1) was) where
  -- the lengths of the row before
  abbrev old : Class → ℕ
  old = entry was.lengths a

  -- the offer of a choice is met, if it leads on
  go_met : (c : Class) (p : Passage) (e : Effect) → Makes (a + 1) (NextWay apart prices old) was (LeadsAt apart prices old c p e) (go apart prices a c p e)
  go_met c p e t s = by_transition (transition c p e) refl
    where
      by_transition : (o : Option Class) → transition c p e ≡ o → Onward (a + 1) (NextWay apart prices old) was (LeadsAt apart prices old c p e) t (go apart prices a c p e t)
      by_transition None nowhere =
          rw (← go_nowhere apart prices a c p e t (sym nowhere))
          (met_less (λ d w (leads, total). let z : ◌≡◌ {A = ℕ} 0 1 = cc in omega arith) (nothing_met s))
      by_transition (Some c') leads =
          let w : ℕ = plus (plus (old c) (toll apart p)) (prices e) in
          let way : NextWay apart prices old c' w (choice_number c p e) =
          record { class = c; passage = p; effect = e; leads = leads; total = refl; number = refl } in
          let same = s.lengths_kept.same (cell a c) (inl (omega (arith, class_place_small c))) in
          rw (← go_to apart prices a c p e c' t (cell (a + 1) c') w (choice_number c p e) (sym leads) refl (λ i. plus (plus (sym same i) (toll apart p)) (prices e)) refl)
          (met_less (λ d w (leads, total). (let z : c' ≡ d = cc in z, total)) (offer_met room c' w (choice_number c p e) way t s))

  extend_met : (c : Class) (p : Passage) → Makes (a + 1) (NextWay apart prices old) was (λ d w. (e : Effect) × LeadsAt apart prices old c p e d w) (extend apart prices a c p)
  unfolding extend
  extend_met c p = each_effect (go apart prices a c p) (go_met c p)

  -- an offer by one of the moves
  record MoveLeads (ms : List (Class × Passage)) (d : Class) (w : ℕ) : Type 0 where
    class : Class
    passage : Passage
    listed : Listed class passage ms
    by_effect : (e : Effect) × LeadsAt apart prices old class passage e d w

  spread_met : (ms : List (Class × Passage)) → Makes (a + 1) (NextWay apart prices old) was (MoveLeads ms) (spread apart prices a ms)
  unfolding spread
  spread_met [] t s = met_less (λ d w l. omega (arith, l.listed.inside)) (nothing_met s)
  spread_met (m ∷ ms) t s =
      let first = extend_met m.0 m.1 t s in
      met_less (λ d w l. first_or_later d w l.class l.passage l.listed.place l.listed.inside l.listed.is l.by_effect)
      (both_met first (spread_met ms _ first.now))
    where
      first_or_later :
          (d : Class) (w : ℕ) (c : Class) (p : Passage) (i : ℕ) → i < length (m ∷ ms) → get_or (m ∷ ms) i (c, p) ≡ (c, p) →
          (e : Effect) × LeadsAt apart prices old c p e d w → ((e : Effect) × LeadsAt apart prices old m.0 m.1 e d w) ⊎ MoveLeads ms d w
      first_or_later d w c p zero l is by = inl (subst (λ (x : Class × Passage). (e : Effect) × LeadsAt apart prices old x.0 x.1 e d w) (sym is) by)
      first_or_later d w c p (suc i) l is by = inr (record { class = c; passage = p; listed = record { place = i; inside = omega arith; is = is }; by_effect = by })

  pub next_row_made : RowMade (a + 1) (NextWay apart prices old) was (next_row apart prices a was)
  unfolding next_row
  next_row_made =
      record {
        so_far = on.now;
        least = λ d w k way.
            on.meets d w
            (record {
              class = way.class;
              passage = way.passage;
              listed = moves_are_all way.class way.passage way.effect way.leads;
              by_effect = (way.effect, (way.leads, way.total));
            });
      }
    where
      on : Onward (a + 1) (NextWay apart prices old) was (MoveLeads moves) (cleared (a + 1) was) (next_row apart prices a was)
      on = spread_met moves (cleared (a + 1) was) (cleared_row room)
