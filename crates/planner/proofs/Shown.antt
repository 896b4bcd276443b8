-- What is read back from a table of least rows and laid down is round, and a tour with these uses is shortest. Assumes nothing.
use Rattle.std.proofs.Common.{◌≡◌, ℕ, suc, ◌-◌, ◌<◌, Bool, cond, List, Some, None, sym, ap, ◌∙◌, arith, le-ltb, lt-ltb}
use native.Mathlib.Decide.{dec_lt}
use Rattle.house.specs.House.{House, Spot, Sound}
use Rattle.walk.specs.Walk.{Tour}
use Rattle.uses.specs.Edges.{Edge, lane, front, back, In, use_of, uses_of}
use Rattle.uses.specs.Layout.{held_in, uses_in}
use Rattle.uses.specs.Uses.{Round}
use Rattle.uses.specs.Walked.{counted}
use Rattle.uses.proofs.Rings.{to_ring, from_ring}
use Rattle.planner.specs.Came.{length_in, row_of, CameFrom}
use Rattle.uses.proofs.CountedRound.{ring_alike}
use Rattle.uses.proofs.Links.{use_of_uses}
use Rattle.classes.specs.Classes.{Class}
use Rattle.partial.specs.Ending.{length_at, Ends}
use Rattle.planner.specs.Laying.{laid_by}
use Rattle.planner.specs.Plans.{PicksByAisle, Plan, laid}
use Rattle.partial.specs.Prices.{never}
use Rattle.planner.specs.Tables.{HoldsLeast, Starts, GoesOn, LeastEnd}
use Rattle.partial.specs.Tracing.{chosen}
use Rattle.planner.proofs.AllTwice.{all_twice, all_twice_ring}
use Rattle.planner.proofs.EnoughPlans.{plans_enough}
use Rattle.planner.proofs.PlannedTours.{ShortestTour, table_shortest}
use Rattle.planner.proofs.RoundPlans.{plans_are_round}
use Rattle.planner.proofs.Rows.{rows_are_least}
use Rattle.planner.proofs.TracedPlan.{Upto, Traced, traced}

-- a length below never is one
pub length_some : (w : ℕ) → w < never → length_in w ≡ Some w
length_some w l = ap (λ (b : Bool). cond b (Some w) None) (lt-ltb w never l)

-- and only such
pub some_length : (w v : ℕ) → length_in w ≡ Some v → (w ≡ v) × (w < never)
some_length w v e = by (dec_lt w never)
  where
    by : Dec (w < never) → (w ≡ v) × (w < never)
    by (yes l) = let s = length_some w l in let z : Some w ≡ Some v = sym s ∙ e in (cc, l)
    by (no l) =
        let s : length_in w ≡ None = ap (λ (b : Bool). cond b (Some w) None) (le-ltb w never (omega arith)) in
        absurd (let z : ◌≡◌ {A = ℕ} 0 1 = cc in omega arith)

module _ (h : House) (picks : List Spot) (ds : ℕ → List ℕ) (lengths came : List ℕ) (sound : Sound h picks) (by_aisle : PicksByAisle h picks ds)
    (starts : Starts h ds (row_of lengths 0)) (goes : (a : ℕ) → suc a < h.aisles → GoesOn h ds a (row_of lengths a) (row_of lengths (suc a)))
    (from : CameFrom h ds lengths came) (end : Class) (ends : Ends lengths (h.aisles - 1) end) where
  last : h.aisles - 1 < h.aisles
  last = omega (arith, sound.some_aisle)

  holds : HoldsLeast (Plan h ds (h.aisles - 1)) (row_of lengths (h.aisles - 1))
  holds = rows_are_least h ds (row_of lengths) h.aisles starts goes (h.aisles - 1) last

  -- there is a whole tour in the last row, since everything used twice is round
  end_length : length_at lengths (h.aisles - 1) end < never
  end_length =
      let (w, f, cheap) = plans_enough h picks ds (uses_of all_twice) sound by_aisle (from_ring all_twice (all_twice_ring h sound)) in
      let (v, in_row, less) = holds.least f.class w f.plan in
      let known = some_length (length_at lengths (h.aisles - 1) f.class) v in_row in
      omega (arith, ends.least f.class f.closes_tour, known.0, known.1)

  end_row : row_of lengths (h.aisles - 1) end ≡ Some (length_at lengths (h.aisles - 1) end)
  end_row = length_some (length_at lengths (h.aisles - 1) end) end_length

  least_end : LeastEnd (row_of lengths (h.aisles - 1)) end (length_at lengths (h.aisles - 1) end)
  least_end =
      record {
        entry = end_row;
        closes_tour = ends.whole;
        least = λ d v is whole. let known = some_length (length_at lengths (h.aisles - 1) d) v is in omega (arith, ends.least d whole, known.0);
      }

  best_plan : Traced h ds lengths came from (h.aisles - 1) end (length_at lengths (h.aisles - 1) end)
  best_plan = traced h ds lengths came from (h.aisles - 1) end (length_at lengths (h.aisles - 1) end) last end_row

  module _ (us : List ℕ) (lays : (e : Edge) → In h e → held_in h us e ≡ laid_by h (chosen h.aisles came end) ds e) where
    aisles_are : suc (h.aisles - 1) ≡ h.aisles
    aisles_are = omega (arith, sound.some_aisle)

    upto : (e : Edge) → In h e → Upto (h.aisles - 1) e
    upto (lane b y) i = omega (arith, i.0)
    upto (front b) i = omega arith
    upto (back b) i = omega arith

    -- the entries are what the plan lays down
    held_laid : (e : Edge) → In h e → held_in h us e ≡ laid best_plan.plan e
    held_laid e i = lays e i ∙ sym (best_plan.lays e (upto e i) ∙ ap (λ (m : ℕ). laid_by h (chosen m came end) ds e) aisles_are)

    -- so they are round
    pub round_of_laid : Round h picks (uses_in h us)
    round_of_laid =
        from_ring (held_in h us)
        (ring_alike h (use_of (uses_of (laid best_plan.plan))) (held_in h us) (λ e i. use_of_uses (laid best_plan.plan) e ∙ sym (held_laid e i))
        (to_ring (plans_are_round h picks ds (length_at lengths (h.aisles - 1) end) (record { class = end; plan = best_plan.plan; closes_tour = ends.whole }) sound by_aisle).0))

    -- any tour with these uses is shortest
    pub shortest_of_laid : (t : Tour h picks) → ((e : Edge) → In h e → counted h t.walk e ≡ held_in h us e) → ShortestTour h picks t (length_at lengths (h.aisles - 1) end)
    shortest_of_laid t uses = table_shortest (row_of lengths) sound by_aisle starts goes least_end best_plan.plan t (λ e i. uses e i ∙ held_laid e i)
