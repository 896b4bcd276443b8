-- Beginnings of a tour: the uses up to an aisle, their class, and how the passages and the use of the next aisle lead from class to class.
-- Assumes nothing.
use Rattle.std.proofs.Common.{◌≡◌, ℕ, suc, ◌+◌, ◌<◌, min, true, false, ◌≢◌, ◌↔◌, List, Some, sym, refl, ap, ◌∙◌, subst, arith}
use borrow.Author.Tests.{both_ways}
use Rattle.graph.proofs.Advance.{advance}
use Rattle.graph.proofs.Rules.{Accepted}
use Rattle.graph.proofs.State.{Whole, load}
use Rattle.graph.proofs.TwoEnds.{PartialTour, part_alike, part_class}
use Rattle.graph.proofs.TwoSteps.{part_wish, part_close}
use Rattle.house.specs.House.{House, Spot, spot, desk}
use Rattle.uses.specs.Edges.{Edge, lane, front, back, In, house_graph}
use Rattle.uses.proofs.Laws.{house_laws}
use Rattle.aisle.specs.Costs.{Use, steps_of_use, Among, Effect, effect_front, effect_back, effect_joins, Serves}
use Rattle.classes.specs.Classes.{Class, is_closed, class_front, class_back, class_joins, Passage, passage_front, passage_back, new_uses, closes, transition, opening}
use Rattle.planner.specs.Plans.{PicksByAisle}
use Rattle.classes.specs.Promise.{Leads}
use Rattle.planner.proofs.AisleState.{Served, aisle_state}
use Rattle.planner.proofs.Following.{needs_follow, uses_follow, following, ends_apart}
use Rattle.planner.proofs.Parts.{many_none, whole_alike, bare_part, bare_unused}
use Rattle.classes.proofs.Rule.{Transition, ends, goes, shuts_closes, transition_told, opening_told}
use Rattle.planner.proofs.Stretch.{Stands, stands?, needs_in, needs_inside, needs_outside, uses_in}
use Rattle.classes.proofs.Tests.{may_close_told}
use Rattle.planner.proofs.Wanted.{wanted, wanted_even, Listed, wanted_listed, needed, needed_later, needed_desk, needed_else}

-- needs in a stretch count by their values there
needs_alike : (n m : Spot → ℕ) (lo hi : ℕ) (s : Spot) → (Stands lo hi s → n s ≡ m s) → needs_in lo hi n s ≡ needs_in lo hi m s
needs_alike n m lo hi s same =
    elim (stands? lo hi s) [
      | yes i ↦ needs_inside lo hi n s i ∙ same i ∙ sym (needs_inside lo hi m s i)
      | no i ↦ needs_outside lo hi n s i ∙ sym (needs_outside lo hi m s i)
    ]

-- the uses f use aisle a in a way that serves by the effect e
pub record ServesAisle (h : House) (ds : ℕ → List ℕ) (f : Edge → ℕ) (a : ℕ) (e : Effect) : Type 0 where
  pub inside : a < h.aisles
  pub way : Use
  pub serves : Serves h.deep (ds a) e way
  pub steps : (y : ℕ) → y < h.deep → f (lane a y) ≡ steps_of_use way y

-- from aisle a to the next the uses f use the passages p, and the next aisle in a way that serves by the effect e
pub record Chosen (h : House) (ds : ℕ → List ℕ) (f : Edge → ℕ) (a : ℕ) (p : Passage) (e : Effect) : Type 0 where
  pub front_uses : f (front a) ≡ passage_front p
  pub back_uses : f (back a) ≡ passage_back p
  pub aisle : ServesAisle h ds f (suc a) e

-- the uses f up to aisle a, with these numbers
abbrev pub Begins : House → List Spot → (Edge → ℕ) → ℕ → ℕ → ℕ → ℕ → Type 0
Begins h picks f a = PartialTour (house_graph h) (needs_in 0 (suc a) (needed picks)) (uses_in h 0 (suc a) f) (spot a 0) (spot a h.deep)

-- of this class
abbrev pub BeginsIn : House → List Spot → (Edge → ℕ) → ℕ → Class → Type 0
BeginsIn h picks f a c = Begins h picks f a (class_front c) (class_back c) (class_joins c)

-- the uses f up to aisle a are a whole tour
abbrev pub Ended : House → List Spot → (Edge → ℕ) → ℕ → Type 0
Ended h picks f a = Whole (house_graph h) (needs_in 0 (suc a) (needed picks)) (uses_in h 0 (suc a) f)

module _ {h : House} {picks : List Spot} {ds : ℕ → List ℕ} (by_aisle : PicksByAisle h picks ds) {f : Edge → ℕ} where
  served : {a : ℕ} {e : Effect} (s : ServesAisle h ds f a e) → Served h (wanted picks) f a (ds a) e s.way
  served {a} s =
      record {
        inside = s.inside;
        depths = by_aisle.depths a s.inside;
        even = wanted_even picks;
        among = λ y p. among y (wanted_listed picks (spot a y) p);
        serves = s.serves;
        steps = s.steps;
      }
    where
      among : (y : ℕ) → Listed picks (spot a y) → Among (ds a) y
      among y l = subst (λ (t : Spot). Among (ds t.aisle) t.depth) (l.is desk) (by_aisle.every l.place desk l.inside)

  some_step : {a : ℕ} {e : Effect} → ServesAisle h ds f a e → 0 < h.deep
  some_step {a} s = (by_aisle.depths a s.inside).some_step

  -- a later aisle as a part of the tour
  next_aisle :
      {a : ℕ} {e : Effect} → ServesAisle h ds f (suc a) e →
      PartialTour (house_graph h) (needs_in (suc a) (suc (suc a)) (needed picks)) (uses_in h (suc a) (suc (suc a)) f)
      (spot (suc a) 0) (spot (suc a) h.deep) (effect_front e) (effect_back e) (effect_joins e)
  next_aisle {a} s = part_alike (house_graph h) (house_laws h) same (λ e i. refl) (aisle_state (served s))
    where
      same : (t : Spot) → needs_in (suc a) (suc (suc a)) (needed picks) t ≡ needs_in (suc a) (suc (suc a)) (wanted picks) t
      same t = needs_alike _ _ (suc a) (suc (suc a)) t (λ i. needed_later picks t (omega arith))

  -- aisle 0, where the desk stands at the front
  first_aisle : {e : Effect} → ServesAisle h ds f 0 e → Begins h picks f 0 (effect_front e + 2) (effect_back e) (effect_joins e)
  first_aisle s = part_wish (house_graph h) (house_laws h) 2 (ends_apart h (some_step s) 0) at_desk elsewhere (aisle_state (served s))
    where
      at_desk : needs_in 0 1 (needed picks) desk ≡ needs_in 0 1 (wanted picks) desk + 2
      at_desk = omega (arith, needs_inside 0 1 (needed picks) desk (omega arith), needs_inside 0 1 (wanted picks) desk (omega arith), needed_desk picks)

      elsewhere : (t : Spot) → t ≢ desk → needs_in 0 1 (needed picks) t ≡ needs_in 0 1 (wanted picks) t
      elsewhere t other = needs_alike _ _ 0 1 t (λ i. needed_else picks t other)

  -- the class after aisle 0
  pub opens_in : {e : Effect} {c : Class} → opening e ≡ Some c → ServesAisle h ds f 0 e → BeginsIn h picks f 0 c
  opens_in {e} {c} opens s =
      let n = opening_told e opens in
      part_class (house_graph h) (omega (arith, n.front)) (omega (arith, n.back)) (λ p. omega (arith, n.joins), λ p. omega (arith, n.joins)) (first_aisle s)

  module _ {a : ℕ} {p : Passage} {e : Effect} (s : Chosen h ds f a p e) where
    -- from class to class
    pub leads_in : {c d : Class} → Leads c p e d → BeginsIn h picks f a c → BeginsIn h picks f (suc a) d
    leads_in {c} {d} l part =
        part_class (house_graph h) (omega (arith, s.front_uses, s.back_uses, l.new_front)) (omega (arith, s.front_uses, s.back_uses, l.new_back)) linked
        (advance (house_graph h) (house_laws h) (following h (some_step s.aisle) a (suc (suc a)) (omega arith) s.aisle.inside (needed picks) f) part accepted (next_aisle s.aisle))
      where
        linked : (0 < min (f (back a)) (min (f (front a)) (class_joins c)) + effect_joins e) ↔ (0 < class_joins d)
        linked = (λ q. omega (arith, s.front_uses, s.back_uses, l.new_joins), λ q. omega (arith, s.front_uses, s.back_uses, l.new_joins))

        accepted : Accepted (class_front c) (class_back c) (class_joins c) (f (front a)) (f (back a))
        accepted =
            record {
              front_even = omega (arith, s.front_uses, s.back_uses, l.front_even);
              back_even = omega (arith, s.front_uses, s.back_uses, l.back_even);
              front_goes_on = λ q. omega (arith, s.front_uses, s.back_uses, l.front_goes_on q);
              back_goes_on = λ q. omega (arith, s.front_uses, s.back_uses, l.back_goes_on q);
            }

    -- where neither the passages nor the aisle are used, the tour stays whole
    pub stays_ended : new_uses p e ≡ 0 → Ended h picks f a → Ended h picks f (suc a)
    stays_ended idle whole = whole_alike (house_graph h) (house_laws h) same_needs same_uses whole
      where
        bare : (t : Spot) → load (house_graph h) (needs_in (suc a) (suc (suc a)) (needed picks)) (uses_in h (suc a) (suc (suc a)) f) t ≡ 0
        bare = bare_part (house_graph h) (house_laws h) (omega arith) (omega arith) (next_aisle s.aisle)

        same_needs : (t : Spot) → needs_in 0 (suc (suc a)) (needed picks) t ≡ needs_in 0 (suc a) (needed picks) t
        same_needs t = omega (arith, needs_follow a (suc (suc a)) (omega arith) (needed picks) t, bare t)

        same_uses : (x : Edge) → In h x → uses_in h 0 (suc (suc a)) f x ≡ uses_in h 0 (suc a) f x
        same_uses x there =
            omega (
              arith,
              uses_follow h a (suc (suc a)) (omega arith) f x,
              many_none (house_graph h) (front a) x (f (front a)) (omega (arith, s.front_uses)),
              many_none (house_graph h) (back a) x (f (back a)) (omega (arith, s.back_uses)),
              bare_unused (house_graph h) (house_laws h) (uses_in h (suc a) (suc (suc a)) f) (λ t. omega (arith, bare t)) x there,
            )

-- what is told of the uses up to aisle a, by their class: they are of that class, or a whole tour
pub data StandsAt (h : House) (picks : List Spot) (f : Edge → ℕ) (a : ℕ) (c : Class) : Type 0 where
  going : is_closed c ≡ false → BeginsIn h picks f a c → StandsAt h picks f a c
  ended : is_closed c ≡ true → Ended h picks f a → StandsAt h picks f a c

-- a class that closes makes a whole tour
pub closes_whole : {h : House} {picks : List Spot} {f : Edge → ℕ} {a : ℕ} {c : Class} → closes c ≡ true → StandsAt h picks f a c → Ended h picks f a
closes_whole {h} {c = c} may (going open_yet part) = part_close (house_graph h) (house_laws h) ((may_close_told _ _ _).0 may) part
closes_whole may (ended shut whole) = whole

-- the transitions between classes are right
pub transition_stands :
    {h : House} {picks : List Spot} {ds : ℕ → List ℕ} {f : Edge → ℕ} {a : ℕ} {p : Passage} {e : Effect} {c d : Class} → PicksByAisle h picks ds →
    Chosen h ds f a p e → transition c p e ≡ Some d → StandsAt h picks f a c → StandsAt h picks f (suc a) d
transition_stands {h} {picks} {f = f} {a} {p} {e} {c} {d} by_aisle s is stands = by (transition_told c p e is) stands
  where
    by : Transition c p e d → StandsAt h picks f a c → StandsAt h picks f (suc a) d
    by (ends shuts shut) stands = ended (ap is_closed shut) (stays_ended by_aisle s shuts.unused (closes_whole (shuts_closes c p e shuts) stands))
    by (goes c_open d_open l) (going z part) = going d_open (leads_in by_aisle s l part)
    by (goes c_open d_open l) (ended shut whole) = absurd (both_ways (is_closed c) c_open shut)
