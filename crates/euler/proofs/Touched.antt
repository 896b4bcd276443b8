-- A way on from a spot shows that a use meets it; and uses that are round for a list touch all its picks. Assumes nothing.
use Rattle.std.proofs.Common.{◌≡◌, ℕ, ◌<◌, true, false, Bool, ltb, ◌⊎◌, List, [], Ok, Err, Result, Option, Some, None, length, get_or, refl, ap, subst, inl, inr, arith}
use Rattle.std.proofs.lemmas.Iterator.{YieldsList}
use Rattle.std.proofs.lemmas.List.{get_or_default}
use Rattle.std.specs.Bool.{MatchBool}
use Rattle.std.specs.List.{AllWithin, HoldsAt}
use Rattle.std.proofs.lemmas.Bool.Decides.{nat_tests}
use Rattle.std.specs.Option.{is_some}
use Rattle.graph.specs.Graph.{Linked}
use Rattle.graph.proofs.Links.{touched_end}
use Rattle.graph.proofs.Sums.{degree_at_start}
use Rattle.house.specs.House.{House, Spot, desk}
use Rattle.house.specs.Bounds.{picks_of}
use Rattle.house.specs.Reading.{spot_of, TakesPick}
use Rattle.house.specs.declared.entries.Picks.{Picks}
use Rattle.house.proofs.Searching.{picks_given}
use Rattle.walk.specs.Steps.{Within}
use Rattle.uses.specs.Edges.{degree, house_graph}
use Rattle.uses.specs.Layout.{held_in, uses_in}
use Rattle.uses.specs.Looking.{edge_by}
use Rattle.uses.specs.Uses.{Round}
use Rattle.uses.proofs.Laws.{house_laws}
use Rattle.uses.proofs.Taken.{joins_of_landing}
use Rattle.euler.specs.Choosing.{Opens, Shut, Chooses}
use Rattle.euler.specs.Touching.{Misses, Touches}
use Rattle.euler.specs.Walking.{WalksUses, WalksRound}
use Rattle.euler.specs.declared.answer.Unwalked.{Unwalked}
use Rattle.euler.specs.declared.answer.Unwalked.TheVariants.{Refused, NotRound}
use Rattle.euler.specs.declared.answer.Walked.{Walked}
use Rattle.euler.specs.declared.choice.Onward.{Onward}
use Rattle.euler.proofs.Rounded.{round_eulerian, round_picked, eulerian_round, round_for_none}
use Rattle.euler.proofs.Stuck.{stuck_degree}

-- the picks of a list, as they come one by one
pub road : (s : Picks) {list : List ℕ} → s.bytes.now ≡ list → YieldsList TakesPick spot_of s (picks_of list)
road s {list} begins = picks_given s (picks_of list) (ap picks_of begins)

positive : (n : ℕ) → 0 < n → true ≡ ltb 0 n
positive n l = grind (arith, nat_tests)

none_there : (n : ℕ) → n ≡ 0 → false ≡ ltb 0 n
none_there n l = grind (arith, nat_tests)

module _ (h : House) (us : List ℕ) where
  opens_touch : {s t : Spot} {b entry : ℕ} → Within h s → Opens h us s b entry t → true ≡ ltb 0 (degree h (held_in h us) s)
  opens_touch {s} {t} {b} inside opens =
      let j = joins_of_landing h b inside opens.seen.leads in
      let used : 0 < held_in h us (edge_by h s b) = omega (arith, ap (λ (k : ℕ). get_or us k 0) opens.seen.entry_is, opens.left_over) in
      positive _ (degree_at_start (house_graph h) (house_laws h) (held_in h us) (edge_by h s b) j.inside used j.ends)

  shut_misses : (s : Spot) → ((b : ℕ) → Shut h us s b) → false ≡ ltb 0 (degree h (held_in h us) s)
  shut_misses s shut = none_there _ (stuck_degree h us s shut)

  -- one can go on from a spot exactly where a use meets it
  pub chosen_touches : (s : Spot) (r : Option Onward) → Within h s → Chooses h us s r → is_some r ≡ ltb 0 (degree h (held_in h us) s)
  chosen_touches s (Some o) inside opens = opens_touch inside opens
  chosen_touches s None inside shut = shut_misses s shut

  untouched_misses :
      (picks : List Spot) (n : ℕ) {p : Spot} → n < length picks → p ≡ get_or picks n desk → false ≡ ltb 0 (degree h (held_in h us) p) → Misses h picks us
  untouched_misses picks n {p} there is not =
      let none : degree h (held_in h us) p ≡ 0 = grind (arith, nat_tests) in
      record { pick = n; there = there; untouched = omega (arith, ap (λ (q : Spot). degree h (held_in h us) q) is) }

  -- a test of each pick tells whether uses touch them all
  pub touches_tells :
      (picks : List Spot) (r : Bool) →
      MatchBool r (AllWithin (λ (s : Spot). true ≡ ltb 0 (degree h (held_in h us) s)) picks 0 (length picks))
      ((k : ℕ) × (k < length picks) × HoldsAt (λ (s : Spot). false ≡ ltb 0 (degree h (held_in h us) s)) picks k) → Touches h picks us r
  touches_tells picks true all =
      λ i l.
      let touched = all i desk (omega arith) l in
      let some : 0 < degree h (held_in h us) (get_or picks i desk) = grind (arith, nat_tests) in
      some
  touches_tells picks false (k, there, not) = untouched_misses picks k there refl (not desk)

  module _ {picks : List Spot} where
    -- round uses link every spot that they touch with the desk
    touched_round : Round h [] (uses_in h us) → Touches h picks us true → Round h picks (uses_in h us)
    touched_round round touches =
        let euler = round_eulerian h us round in
        eulerian_round h us euler (λ i d l.
        subst (λ p. Linked (house_graph h) (held_in h us) desk p) (get_or_default picks i desk d l) (euler.held (get_or picks i desk) (touches i l)))

    -- a pick is not the desk
    pub misses_round : ((i : ℕ) → i < length picks → 0 < (get_or picks i desk).depth) → Misses h picks us → Round h picks (uses_in h us) → ⊥
    misses_round shelves miss round = at (touched_end (house_graph h) (house_laws h) (round_picked h us round miss.pick desk miss.there))
      where
        at : (desk ≡ get_or picks miss.pick desk) ⊎ (0 < degree h (held_in h us) (get_or picks miss.pick desk)) → ⊥
        at (inl same) = omega (arith, ap (λ (p : Spot). p.depth) same, shelves miss.pick miss.there)
        at (inr some) = omega (arith, miss.untouched)

  -- a walk over uses that touch all picks is one past the picks
  pub touched_past :
      (picks : List Spot) (us' steps steps' : List ℕ) (r : Result Walked Unwalked) → Touches h picks us true → WalksUses h us us' steps steps' r →
      WalksRound h picks us us' steps steps' r
  touched_past picks us' steps steps' (Ok w) touches z = let round = touched_round z.1.0 touches in (z.0, (round, z.1.1 picks round))
  touched_past picks us' steps steps' (Err (Refused e)) touches z = z
  touched_past picks us' steps steps' (Err NotRound) touches z = (z.0, (λ round. z.1 (round_for_none round)), z.2)
