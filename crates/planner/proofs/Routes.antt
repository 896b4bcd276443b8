-- The planner's route: from picks in order, a filled table and what was laid down, to a shortest tour. Assumes nothing.
use Rattle.std.proofs.Common.{◌≡◌, ℕ, suc, ◌-◌, ◌≤◌, Bool, true, false, List, [], length, take, is_ok, Some, None, Ok, Err, Option, Result, sym, refl, ap, ◌∙◌, subst, arith, le-leb}
use Rattle.house.specs.House.{House, Spot, Sound, desk}
use Rattle.house.specs.Bounds.{picks_of, InAisles, OnShelves}
use Rattle.house.specs.Rules.{unless, or_else}
use Rattle.house.specs.declared.layout.Spot.{Spot as Entry}
use Rattle.house.specs.declared.refusal.Refusal.{Refusal}
use Rattle.uses.specs.Edges.{Edge, lane, front, back, In}
use Rattle.aisle.specs.Costs.{best}
use Rattle.uses.specs.Layout.{uses_in}
use Rattle.uses.specs.Uses.{Uses, Round}
use Rattle.aisle.specs.Order.{sorted}
use Rattle.aisle.specs.Sorting.{Holds, Sorts}
use Rattle.aisle.specs.Values.{spots_of}
use Rattle.euler.specs.Walking.{count_of, walk_rule, WalksUses, Tours}
use Rattle.euler.specs.declared.answer.Unwalked.{Unwalked}
use Rattle.euler.specs.declared.answer.Unwalked.TheVariants.{Refused, NotRound}
use Rattle.euler.specs.declared.answer.Walked.{Walked}
use Rattle.std.proofs.lemmas.List.{get_or_default}
use Rattle.partial.specs.Choosing.{Chosen, Chooses}
use Rattle.classes.specs.Classes.{passage_front, passage_back}
use Rattle.partial.specs.Ending.{length_at, ending}
use Rattle.planner.specs.Laying.{steps_or_none, laid_by, Before, Laid, at, part_at}
use Rattle.planner.specs.Planning.{lent, BestLaid, Routed}
use Rattle.planner.specs.Plans.{PicksByAisle}
use Rattle.partial.specs.Table.{Tables, tables}
use Rattle.partial.specs.Tracing.{choice_passage, choice_effect, chosen}
use Rattle.planner.proofs.FilledTable.{FilledTable, filled_table}
use Rattle.planner.proofs.PlannedTours.{ShortestTour}
use Rattle.planner.proofs.Few.{laid_small, count_few}
use Rattle.planner.proofs.PartedPicks.{parted_picks}
use Rattle.planner.proofs.Shown.{round_of_laid, shortest_of_laid}

-- the walk is made where there is room and the uses are round
unless_kept : (b : Bool) (e : Refusal) → b ≡ true → unless b e ≡ None
unless_kept true e z = refl
unless_kept false e z = absurd (let w : ◌≡◌ {A = ℕ} 0 1 = cc in omega arith)

or_none : (a b : Option Refusal) → a ≡ None → b ≡ None → or_else a b ≡ None
or_none None b z w = w
or_none (Some e) b z w = absurd (let x : ◌≡◌ {A = ℕ} 0 1 = cc in omega arith)

room_to_walk : (h : House) (us steps : List ℕ) → 25852 ≤ length steps → 12926 ≤ length us → count_of h us ≤ 25852 → walk_rule h us (length steps) ≡ None
room_to_walk h us steps l m n =
    or_none _ _ (unless_kept _ _ (le-leb _ _ l)) (or_none _ _ (unless_kept _ _ (le-leb _ _ m)) (unless_kept _ _ (le-leb _ _ n)))

some_not_none : (a : Option Refusal) (e : Refusal) → a ≡ Some e → a ≡ None → ⊥
some_not_none a e z w = let x : ◌≡◌ {A = ℕ} 0 1 = cc in omega arith

-- round uses with room are walked
is_walked :
    (h : House) (us us' steps steps' : List ℕ) (r : Result Walked Unwalked) → walk_rule h us (length steps) ≡ None → Round h [] (uses_in h us) →
    WalksUses h us us' steps steps' r → is_ok r ≡ true
is_walked h us us' steps steps' (Ok w) room round walks = refl
is_walked h us us' steps steps' (Err (Refused e)) room round walks = absurd (some_not_none _ e walks.0 room)
is_walked h us us' steps steps' (Err NotRound) room round walks = absurd (walks.1 round)

-- uses that are round for a list are round for none
round_for_none : (h : House) (picks : List Spot) (u : Uses) → Round h picks u → Round h [] u
round_for_none h picks u r = record { even = r.even; used = r.used; picked = λ i d l. absurd (omega arith) }

-- choices are made where there is room for the tables
pub is_chosen :
    (h : House) (ss : List Spot) (was is : Tables) (r : Result (List ℕ) Refusal) → 448 ≤ length was.lengths → 448 ≤ length was.came → Chooses h ss was is r →
    is_ok r ≡ true
is_chosen h ss was is (Ok choices) l m chooses = refl
is_chosen h ss was is (Err e) l m chooses = absurd (some_not_none _ e chooses.0 (unless_kept _ _ (rw (le-leb _ _ l, le-leb _ _ m) refl)))

-- what the choices lay down is what is read back from the table
pub chosen_laid :
    (h : House) (ss : List Spot) (lengths came lengths' came' choices us us' : List ℕ) → Chosen h ss (tables lengths came) (tables lengths' came') choices →
    Laid h (at choices) (part_at ss) h.aisles us us' → BestLaid h ss lengths came lengths' came' us us'
chosen_laid h ss lengths came lengths' came' choices us us' made laid =
    record { table = made.table; end = ending lengths' (h.aisles - 1); ends = made.ends; lays = λ e i. laid.laid e i (before e i) ∙ alike e i; beyond = laid.beyond }
  where
    before : (e : Edge) → In h e → Before h.aisles e
    before (lane a y) i = i.0
    before (front a) i = i
    before (back a) i = i

    alike : (e : Edge) → In h e → laid_by h (at choices) (part_at ss) e ≡ laid_by h (chosen h.aisles came' (ending lengths' (h.aisles - 1))) (part_at ss) e
    alike (lane a y) i = ap (λ (n : ℕ). steps_or_none (best h.deep (part_at ss a) (choice_effect n)) y) (made.each a i.0)
    alike (front a) i = ap (λ (n : ℕ). passage_front (choice_passage n)) (made.each (suc a) i)
    alike (back a) i = ap (λ (n : ℕ). passage_back (choice_passage n)) (made.each (suc a) i)

-- a house within the bounds of planning
pub record Bounds (h : House) : Type 0 where
  pub some_aisle : 1 ≤ h.aisles
  pub few_aisles : h.aisles ≤ 64
  pub some_depth : 2 ≤ h.deep
  pub little_depth : h.deep ≤ 200
  pub little_way : h.apart ≤ 200

-- picks inside such a house are sound
pub fits_sound : (h : House) (list : List ℕ) → Bounds h → InAisles h.aisles list → OnShelves h.deep list → Sound h (picks_of list)
fits_sound h list b in_aisles on_shelves =
    record {
      some_aisle = b.some_aisle;
      inside = λ i d l. rw (get_or_default (picks_of list) i d desk l) (in_aisles i l, (on_shelves i l).0, (on_shelves i l).1);
    }

module _ (h : House) (bounds : Bounds h) (picks : List Spot) (sound : Sound h picks) (lengths came lengths' came' us us₁ : List ℕ)
    (long : 448 ≤ length lengths) (long_came : 448 ≤ length came) (laid : BestLaid h (sorted picks) lengths came lengths' came' us us₁) where
  table : FilledTable h (part_at (sorted picks)) (tables lengths came) (tables lengths' came')
  table =
      subst (FilledTable h (part_at (sorted picks)) (tables lengths came)) (sym laid.table)
      (filled_table h (sorted picks) bounds.some_aisle bounds.few_aisles bounds.little_depth bounds.little_way (tables lengths came) long long_came)

  by_aisle : PicksByAisle h picks (part_at (sorted picks))
  by_aisle = parted_picks h picks (omega (arith, bounds.some_depth)) sound

  pub best_round : Round h picks (uses_in h us₁)
  best_round =
      round_of_laid h picks (part_at (sorted picks)) lengths' came' sound by_aisle table.starts table.goes table.came_from laid.end laid.ends us₁ laid.lays

  few : count_of h us₁ ≤ 25852
  few =
      count_few h us₁ bounds.few_aisles bounds.little_depth
      (λ e i. omega (arith, laid.lays e i, laid_small h (chosen h.aisles came' laid.end) (part_at (sorted picks)) e))

  pub best_room : (steps : List ℕ) → 25852 ≤ length steps → 12926 ≤ length us₁ → walk_rule h us₁ (length steps) ≡ None
  best_room steps l m = room_to_walk h us₁ steps l m few

  pub best_walked :
      (us' steps steps' : List ℕ) (r : Result Walked Unwalked) → 25852 ≤ length steps → 12926 ≤ length us₁ → WalksUses h us₁ us' steps steps' r → is_ok r ≡ true
  best_walked us' steps steps' r l m walks = is_walked h us₁ us' steps steps' r (best_room steps l m) (round_for_none h picks (uses_in h us₁) best_round) walks

  -- the tour that is walked is shortest, and memory holds what it should
  pub routed :
      (was_picks is_picks : List Entry) (us' steps steps' : List ℕ) (w : Walked) → 25852 ≤ length steps' → Holds (length picks) (sorted picks) was_picks is_picks →
      WalksUses h us₁ us' steps steps' (Ok w) →
      Routed h picks (lent was_picks lengths came steps us) (lent is_picks lengths' came' steps' us') w
  routed was_picks is_picks us' steps steps' w room in_order walks =
      record {
        tour = t.tour;
        shortest = best.shortest;
        long = t.long;
        written = t.written;
        kept = t.kept;
        used_up = t.used_up;
        beyond = λ k l. t.beyond k l ∙ laid.beyond k l;
        in_order = in_order;
        table = laid.table;
      }
    where
      t : Tours h picks us₁ us' steps steps' w
      t = walks.1.1 picks best_round

      best : ShortestTour h picks t.tour (length_at lengths' (h.aisles - 1) laid.end)
      best =
          shortest_of_laid h picks (part_at (sorted picks)) lengths' came' sound by_aisle table.starts table.goes table.came_from laid.end laid.ends us₁ laid.lays
          t.tour t.uses

-- what sorting and laying down come to, as the code has them
pub record Facts (h : House) (picks : List Spot) (was is : List Entry) (lengths came lengths' came' us us₁ : List ℕ) : Type 0 where
  pub holds : Holds (length picks) (sorted picks) was is
  pub laid : BestLaid h (sorted picks) lengths came lengths' came' us us₁

pub facts :
    (h : House) (picks : List Spot) (was is : List Entry) (lengths came lengths' came' us us₁ numbers : List ℕ) (n : ℕ) (s : Result ℕ Refusal) (r : Result (List ℕ) Refusal) →
    Sorts picks was is s → s ≡ Ok n → Chooses h (spots_of (take n is)) (tables lengths came) (tables lengths' came') r → r ≡ Ok numbers →
    Laid h (at numbers) (part_at (spots_of (take n is))) h.aisles us us₁ → Facts h picks was is lengths came lengths' came' us us₁
facts h picks was is lengths came lengths' came' us us₁ numbers n s r sorts told chooses made laid =
    record {
      holds = subst (λ k. Holds k (sorted picks) was is) done.1 done.2;
      laid = subst (λ ss. BestLaid h ss lengths came lengths' came' us us₁) (done.2.first) best;
    }
  where
    done : (512 ≤ length was) × (n ≡ length picks) × Holds n (sorted picks) was is
    done = subst (Sorts picks was is) told sorts

    best : BestLaid h (spots_of (take n is)) lengths came lengths' came' us us₁
    best =
        chosen_laid h (spots_of (take n is)) lengths came lengths' came' numbers us us₁
        (subst (Chooses h (spots_of (take n is)) (tables lengths came) (tables lengths' came')) made chooses).1 laid
