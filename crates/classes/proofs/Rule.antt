-- The transitions between classes are those of the rule for ends and link, or they close the tour. Assumes nothing.
use Rattle.std.proofs.Common.{◌≡◌, ℕ, ◌+◌, ◌%◌, ◌<◌, ◌≤◌, min, Bool, true, false, ◌&&◌, ◌⊎◌, Some, None, sym, refl, ◌∙◌, inl, inr, arith}
use native.Mathlib.Decide.{dec_lt}
use borrow.Author.Tests.{both_ways}
use Rattle.graph.proofs.Rules.{Accepted}
use Rattle.uses.specs.Uses.{pick}
use Rattle.aisle.specs.Costs.{Effect, effect_front, effect_back, effect_joins}
use Rattle.classes.specs.Classes.{Class, odd_odd, even_back, even_front, even_one, even_two, nothing_yet, closed, is_closed, class_front, class_back, class_joins, Passage, passage_front, passage_back, leads_on, small, new_uses, idle, begun, closes, into_aisle, go_on, transition, opening}
use Rattle.classes.specs.Promise.{Leads, TransitionsByRule, Shuts, ClosingsByRule}
use Rattle.classes.proofs.Tests.{Picked, picked, pick_true, pick_false, true_or_false, leads_on_told, may_close_told, idle_told, closing_told}
use Rattle.classes.proofs.Numbers.{Proper, class_proper, effect_proper, Paired, passage_paired, Numbered, class_with, class_named, class_numbered}

-- a transition closes the tour, or keeps it closed, or leads on by the rule
pub data Transition (c : Class) (p : Passage) (e : Effect) (d : Class) : Type 0 where
  ends : Shuts c p e → d ≡ closed → Transition c p e d
  goes : is_closed c ≡ false → is_closed d ≡ false → Leads c p e d → Transition c p e d

-- the class that a tour goes on to
pub record NextClass (c : Class) (p : Passage) (e : Effect) : Type 0 where
  pub class : Class
  pub going : is_closed class ≡ false
  pub leads : Leads c p e class
  pub is : transition c p e ≡ Some class

small_parity : (n : ℕ) → small n % 2 ≡ n % 2
small_parity n = omega arith

sum_parity : (i k x y : ℕ) → i % 2 ≡ k % 2 → x % 2 ≡ y % 2 → (i + x) % 2 ≡ (k + y) % 2
sum_parity i k x y e d = omega arith

-- i passages, m of which are linked, and x uses of the aisle, t of which are linked
odd_sum : (i x m t : ℕ) → i % 2 ≤ m → x % 2 ≤ t → (i + x) % 2 ≤ min 1 (m + t)
odd_sum i x m t e d = omega arith

joined_sum : (i x m t : ℕ) → m ≤ i → t ≤ x → min 1 (m + t) ≤ small (i + x)
joined_sum i x m t e d = omega arith

odd_linked : (f j i k : ℕ) → f % 2 ≤ j → i % 2 ≡ k % 2 → (f + i) % 2 ≡ 0 → i % 2 ≤ min k (min i j)
odd_linked f j i k odd same even = omega arith

-- passages that are accepted, and a proper aisle, make proper numbers
proper_sum :
    {f b j i k x y t : ℕ} → Paired i k → Proper x y t → f % 2 ≤ j → Accepted f b j i k →
    Proper (small (i + x)) (small (k + y)) (min 1 (min k (min i j) + t))
proper_sum {f} {b} {j} {i} {k} {x} {y} {t} paired aisle odd ok =
    let both = sum_parity i k x y paired.one_parity aisle.one_parity in
    let linked = odd_linked f j i k odd paired.one_parity ok.front_even in
    record {
      front_small = omega arith;
      back_small = omega arith;
      joins_small = omega arith;
      one_parity = small_parity (i + x) ∙ both ∙ sym (small_parity (k + y));
      odd_joined = rw (small_parity (i + x)) (odd_sum i x (min k (min i j)) t linked aisle.odd_joined);
      front_joined = joined_sum i x (min k (min i j)) t (omega arith) aisle.front_joined;
      back_joined = joined_sum k y (min k (min i j)) t (omega arith) aisle.back_joined;
    }

none_some : {A : Type 0} {x : A} → None ≡ Some x → ⊥
none_some e = let z : ◌≡◌ {A = ℕ} 0 1 = cc in omega arith

pub closed_closes : (c : Class) → is_closed c ≡ true → closes c ≡ true
closed_closes odd_odd e = e
closed_closes even_back e = refl
closed_closes even_front e = refl
closed_closes even_one e = refl
closed_closes even_two e = e
closed_closes nothing_yet e = refl
closed_closes closed e = refl

module _ (c : Class) (p : Passage) (e : Effect) where
  abbrev GoesOn : Type 0
  GoesOn = Accepted (class_front c) (class_back c) (class_joins c) (passage_front p) (passage_back p)

  -- the numbers of the next class
  abbrev Next : Class → Type 0
  Next =
      Numbered (small (passage_front p + effect_front e)) (small (passage_back p + effect_back e))
      (min 1 (min (passage_back p) (min (passage_front p) (class_joins c)) + effect_joins e))

  next_leads : {d : Class} → GoesOn → Next d → Leads c p e d
  next_leads ok n =
      record {
        front_even = ok.front_even;
        back_even = ok.back_even;
        front_goes_on = ok.front_goes_on;
        back_goes_on = ok.back_goes_on;
        new_front = omega (arith, n.front);
        new_back = omega (arith, n.back);
        new_joins = omega (arith, n.joins);
      }

  leads_next : {d : Class} → is_closed d ≡ false → Leads c p e d → Next d
  leads_next {d} going l =
      record {
        front = omega (arith, l.new_front, class_proper d);
        back = omega (arith, l.new_back, class_proper d);
        joins = omega (arith, l.new_joins);
        going = going;
      }

  leads_accepted : {d : Class} → Leads c p e d → GoesOn
  leads_accepted l =
      record { front_even = l.front_even; back_even = l.back_even; front_goes_on = l.front_goes_on; back_goes_on = l.back_goes_on }

  next_proper :
      GoesOn →
      Proper (small (passage_front p + effect_front e)) (small (passage_back p + effect_back e))
      (min 1 (min (passage_back p) (min (passage_front p) (class_joins c)) + effect_joins e))
  next_proper ok = proper_sum (passage_paired p) (effect_proper e) (class_proper c).odd_joined ok

  abbrev leads : Bool
  leads = leads_on (class_front c) (class_back c) (class_joins c) (passage_front p) (passage_back p)

  abbrev closing : Bool
  closing = idle p e && begun c && closes c

  shuts :
      new_uses p e ≡ 0 → closes c ≡ true → (is_closed c ≡ true) ⊎ (0 < class_front c + class_back c) →
      Shuts c p e
  shuts rests may some =
      let ok = (may_close_told _ _ _).0 may in
      record { unused = rests; front_even = ok.front_even; back_even = ok.back_even; one_piece = ok.joined; some_use = some }

  -- a class that shuts may close a tour
  pub shuts_closes : Shuts c p e → closes c ≡ true
  shuts_closes s = (may_close_told _ _ _).1 (record { front_even = s.front_even; back_even = s.back_even; joined = s.one_piece })

  -- what a transition tells
  pub transition_told : {d : Class} → transition c p e ≡ Some d → Transition c p e d
  transition_told {d} is = by (picked (pick (idle p e) (Some closed) None) (go_on c p e) (is_closed c) is)
    where
      stays : is_closed c ≡ true → Picked (idle p e) (Some closed) None (Some d) → Transition c p e d
      stays shut (inl (rests, is)) = ends (shuts ((idle_told p e).0 rests) (closed_closes c shut) (inl shut)) (cc)
      stays shut (inr (works, is)) = absurd (none_some is)

      over : is_closed c ≡ false → Picked leads (into_aisle c p e) None (Some d) → Transition c p e d
      over going (inl (ok, is)) = let next = class_numbered _ _ _ is in goes going next.going (next_leads ((leads_on_told _ _ _ _ _).0 ok) next)
      over going (inr (refused, is)) = absurd (none_some is)

      onward : is_closed c ≡ false → Picked closing (Some closed) (pick leads (into_aisle c p e) None) (Some d) → Transition c p e d
      onward going (inl (closing, is)) = let z = (closing_told c p e).0 closing in ends (shuts z.0.0 z.1 (inr z.0.1)) (cc)
      onward going (inr (goes_on, is)) = over going (picked (into_aisle c p e) None leads is)

      by : Picked (is_closed c) (pick (idle p e) (Some closed) None) (go_on c p e) (Some d) → Transition c p e d
      by (inl (shut, is)) = stays shut (picked (Some closed) None (idle p e) is)
      by (inr (going, is)) = onward going (picked (Some closed) (pick leads (into_aisle c p e) None) closing is)

  -- passages that lead on do not close the tour
  not_closing : GoesOn → closing ≡ false
  not_closing ok = elim (true_or_false closing) [ inr no_close ↦ no_close | inl shuts ↦ absurd (open_end ((closing_told c p e).0 shuts).0) ]
    where
      open_end : (new_uses p e ≡ 0) × (0 < class_front c + class_back c) → ⊥
      open_end (idle, begun) =
          elim (dec_lt 0 (class_back c)) [
            | yes some ↦ omega (arith, ok.back_goes_on some)
            | no z ↦ omega (arith, ok.front_goes_on (omega arith), (class_proper c).back_joined)
          ]

  -- accepted passages lead to the class of the numbers
  pub transition_next : {d : Class} → is_closed c ≡ false → GoesOn → Next d → transition c p e ≡ Some d
  transition_next going ok next =
      pick_false _ _ going ∙ pick_false _ _ (not_closing ok) ∙ pick_true _ _ ((leads_on_told _ _ _ _ _).1 ok) ∙ class_named next

  -- accepted passages lead on
  pub next_class : is_closed c ≡ false → GoesOn → NextClass c p e
  next_class going ok =
      let (d, next) = class_with (next_proper ok) in
      record { class = d; going = next.going; leads = next_leads ok next; is = transition_next going ok next }

  -- where nothing more is used, a tour is closed and stays closed
  pub transition_shuts : Shuts c p e → transition c p e ≡ Some closed
  transition_shuts s = elim (true_or_false (is_closed c)) [ inl shut ↦ stays shut | inr going ↦ closing going s.some_use ]
    where
      stays : is_closed c ≡ true → transition c p e ≡ Some closed
      stays shut = pick_true _ _ shut ∙ pick_true _ _ ((idle_told p e).1 s.unused)

      closing : is_closed c ≡ false → (is_closed c ≡ true) ⊎ (0 < class_front c + class_back c) → transition c p e ≡ Some closed
      closing going (inl shut) = absurd (both_ways (is_closed c) going shut)
      closing going (inr some) = pick_false _ _ going ∙ pick_true _ _ ((closing_told c p e).1 ((s.unused, some), shuts_closes s))

-- the class at aisle 0 has the numbers of the aisle, with two more at the front
pub opening_told : (e : Effect) {c : Class} → opening e ≡ Some c → Numbered (small (2 + effect_front e)) (small (effect_back e)) (effect_joins e) c
opening_told e is = class_numbered _ _ _ is

-- every use of aisle 0 opens a tour
pub opening_class : (e : Effect) → (c : Class) × (opening e ≡ Some c)
opening_class e = let (c, n) = class_with proper in (c, class_named n)
  where
    proper : Proper (small (2 + effect_front e)) (small (effect_back e)) (effect_joins e)
    proper =
        let t = effect_proper e in
        record {
          front_small = omega arith;
          back_small = omega arith;
          joins_small = t.joins_small;
          one_parity = omega (arith, small_parity (2 + effect_front e), t.one_parity, small_parity (effect_back e));
          odd_joined = rw (small_parity (2 + effect_front e)) (omega (arith, t.odd_joined));
          front_joined = omega (arith, t.joins_small);
          back_joined = omega (arith, t.joins_small, t.back_joined);
        }

pub transitions_by_rule : TransitionsByRule
transitions_by_rule c d p e going goes_on = (told, λ l. transition_next c p e going (leads_accepted c p e l) (leads_next c p e goes_on l))
  where
    led : Transition c p e d → Leads c p e d
    led (ends s shut) = absurd (both_ways true (rw shut at goes_on) refl)
    led (goes a b l) = l

    told : transition c p e ≡ Some d → Leads c p e d
    told is = led (transition_told c p e is)

pub closings_by_rule : ClosingsByRule
closings_by_rule c p e = (λ is. shut (transition_told c p e is), transition_shuts c p e)
  where
    shut : Transition c p e closed → Shuts c p e
    shut (ends s same) = s
    shut (goes a b l) = absurd (both_ways true b refl)
