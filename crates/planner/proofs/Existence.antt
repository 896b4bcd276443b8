-- In every house, for every list of picks that fits it, there is a shortest tour. Assumes nothing.
use Rattle.std.proofs.Common.{ℕ, List, [], ◌∷◌, refl, arith}
use Rattle.house.specs.House.{House, Spot, Sound}
use Rattle.walk.specs.Walk.{Walk, Tour, long, Shortest}
use Rattle.uses.specs.Edges.{uses_of}
use Rattle.uses.proofs.Rings.{from_ring}
use Rattle.uses.proofs.Tours.{ring_toured}
use Rattle.planner.specs.Plans.{PicksByAisle, Finished}
use Rattle.planner.specs.Promise.{ShortestExists, ShortestIs}
use Rattle.planner.proofs.AllTwice.{all_twice, all_twice_ring}
use Rattle.planner.proofs.BestPlans.{best_finished}
use Rattle.planner.proofs.EnoughPlans.{plans_enough}
use Rattle.planner.proofs.Optima.{Optimum, never, least}
use Rattle.planner.proofs.PlannedTours.{CheapestPlan, planned_shortest}
use Rattle.planner.proofs.RoundPlans.{finished_ring}
use Rattle.planner.proofs.Sorted.{sorted_picks}

module _ {h : House} {picks : List Spot} {ds : ℕ → List ℕ} (sound : Sound h picks) (by_aisle : PicksByAisle h picks ds) where
  -- there is a finished plan
  pub some_plan : (w : ℕ) × Finished h ds w
  some_plan =
      let (w, plan, cheap) = plans_enough h picks ds (uses_of all_twice) sound by_aisle (from_ring all_twice (all_twice_ring h sound)) in (w, plan)

  pub cheapest_plan : (w : ℕ) × CheapestPlan h ds w
  cheapest_plan = by (best_finished h ds)
    where
      by : Optimum (Finished h ds) → (w : ℕ) × CheapestPlan h ds w
      by (never none) = absurd (none some_plan.0 some_plan.1)
      by (least w plan first) = (w, record { finished = plan; least = first })

  -- a shortest tour is as long as the cheapest plan costs
  pub shortest_is : {w : ℕ} → CheapestPlan h ds w → ShortestIs h picks w
  shortest_is cheapest =
      let toured = ring_toured h (finished_ring cheapest.finished sound by_aisle) in
      let best = planned_shortest sound by_aisle cheapest toured in
      (toured.tour, best.shortest, best.length)

  shortest_tour : (t : Tour h picks) × Shortest h picks t
  shortest_tour = let (t, shortest, length) = shortest_is cheapest_plan.1 in (t, shortest)

-- past no pick it is shortest to stay at the desk
pub stays : (h : House) → ShortestIs h [] 0
unfolding long
stays h = (record { walk = Walk.stay; all = λ i d l. absurd (omega arith) }, record { least = λ q. omega arith }, refl)

pub shortest_exists : ShortestExists
shortest_exists h [] sound = ((stays h).0, (stays h).1)
shortest_exists h (p ∷ picks) sound = shortest_tour sound (sorted_picks h (p ∷ picks) sound (omega arith))
