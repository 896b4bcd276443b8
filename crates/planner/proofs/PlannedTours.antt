-- A tour that uses what the cheapest finished plan lays down is shortest, and as long as the plan costs. Assumes nothing.
use Rattle.std.proofs.Common.{◌≡◌, ℕ, suc, ◌-◌, ◌<◌, ◌≤◌, List, Option, ◌∙◌, arith}
use Rattle.house.specs.House.{House, Spot, Sound}
use Rattle.walk.specs.Walk.{Tour, length_of, Shortest}
use Rattle.uses.specs.Edges.{Edge, In}
use Rattle.uses.proofs.Tours.{Toured, toured_length, tour_is_round}
use Rattle.uses.specs.Walked.{counted}
use Rattle.classes.specs.Classes.{Class}
use Rattle.planner.specs.Plans.{PicksByAisle, Plan, laid, Finished}
use Rattle.planner.specs.Tables.{HoldsLeast, Starts, GoesOn, LeastEnd}
use Rattle.planner.proofs.EnoughPlans.{plans_enough}
use Rattle.planner.proofs.RoundPlans.{finished_cost}
use Rattle.planner.proofs.Rows.{rows_are_least}

-- a finished plan that is no dearer than any other
pub record CheapestPlan (h : House) (ds : ℕ → List ℕ) (w : ℕ) : Type 0 where
  pub finished : Finished h ds w
  pub least : (v : ℕ) → Finished h ds v → w ≤ v

-- a shortest tour, of this length
pub record ShortestTour (h : House) (picks : List Spot) (t : Tour h picks) (w : ℕ) : Type 0 where
  pub shortest : Shortest h picks t
  pub length : length_of t ≡ w

module _ {h : House} {picks : List Spot} {ds : ℕ → List ℕ} (sound : Sound h picks) (by_aisle : PicksByAisle h picks ds) where
  -- no tour is shorter than the cheapest plan
  no_shorter : {w : ℕ} → CheapestPlan h ds w → (q : Tour h picks) → w ≤ length_of q
  no_shorter cheapest q =
      let (u, round, cost_is) = tour_is_round h picks q sound in
      let (v, plan, cheap) = plans_enough h picks ds u sound by_aisle round in
      omega (arith, cheapest.least v plan)

  pub planned_shortest :
      {w : ℕ} (cheapest : CheapestPlan h ds w) (t : Toured h picks (laid cheapest.finished.plan)) → ShortestTour h picks t.tour w
  planned_shortest {w} cheapest t = record { shortest = record { least = λ q. omega (arith, same, no_shorter cheapest q) }; length = same }
    where
      same : length_of t.tour ≡ w
      same = toured_length h t ∙ finished_cost cheapest.finished sound by_aisle

-- the least end of the last row makes the cheapest plan
pub cheapest_end :
    {h : House} {ds : ℕ → List ℕ} {row : Class → Option ℕ} {c : Class} {w : ℕ} → HoldsLeast (Plan h ds (h.aisles - 1)) row → LeastEnd row c w →
    Plan h ds (h.aisles - 1) c w → CheapestPlan h ds w
cheapest_end {h} {ds} {w = w} holds end plan =
    record { finished = record { class = _; plan = plan; closes_tour = end.closes_tour }; least = beaten }
  where
    beaten : (v : ℕ) → Finished h ds v → w ≤ v
    beaten v other =
        let (x, in_row, cheap) = holds.least other.class v other.plan in
        omega (arith, end.least other.class x in_row other.closes_tour)

-- a tour that uses what a plan for the least end of the last row lays down is shortest
pub end_shortest :
    {h : House} {picks : List Spot} {ds : ℕ → List ℕ} {row : Class → Option ℕ} {c : Class} {w : ℕ} → Sound h picks → PicksByAisle h picks ds →
    HoldsLeast (Plan h ds (h.aisles - 1)) row → LeastEnd row c w → (plan : Plan h ds (h.aisles - 1) c w) (t : Tour h picks) →
    ((e : Edge) → In h e → counted h t.walk e ≡ laid plan e) → ShortestTour h picks t w
unfolding cheapest_end
end_shortest sound by_aisle holds end plan t uses = planned_shortest sound by_aisle (cheapest_end holds end plan) (record { tour = t; uses = uses })

-- and so for a table with linked rows
pub table_shortest :
    {h : House} {picks : List Spot} {ds : ℕ → List ℕ} (rows : ℕ → Class → Option ℕ) {c : Class} {w : ℕ} → Sound h picks → PicksByAisle h picks ds →
    Starts h ds (rows 0) → ((a : ℕ) → suc a < h.aisles → GoesOn h ds a (rows a) (rows (suc a))) → LeastEnd (rows (h.aisles - 1)) c w →
    (plan : Plan h ds (h.aisles - 1) c w) (t : Tour h picks) → ((e : Edge) → In h e → counted h t.walk e ≡ laid plan e) → ShortestTour h picks t w
table_shortest {h} {ds = ds} rows sound by_aisle starts goes end plan t uses =
    end_shortest sound by_aisle (rows_are_least h ds rows h.aisles starts goes (h.aisles - 1) (omega (arith, sound.some_aisle))) end plan t uses
