-- What a finished plan lays down is round, at the plan's cost. Assumes nothing.
use Rattle.std.proofs.Common.{◌≡◌, ℕ, suc, ◌+◌, ◌-◌, ◌*◌, ◌<◌, List, Some, sym, ap, ◌∙◌, arith}
use Rattle.house.specs.House.{House, Spot, Sound}
use Rattle.uses.specs.Uses.{cost}
use Rattle.uses.specs.Edges.{Edge, lane, front, back, uses_of}
use Rattle.uses.proofs.Rings.{Ring, from_ring}
use Rattle.aisle.specs.Costs.{Use, steps_of_use, Effect, best}
use Rattle.classes.specs.Classes.{Class, passage_front, passage_back, opening}
use Rattle.planner.specs.Plans.{PicksByAisle, Plan, start, next, laid, KeepsTo, Finished}
use Rattle.planner.specs.Promise.{PlansAreRound}
use Rattle.planner.proofs.Beginnings.{ServesAisle, StandsAt, going, opens_in, closes_whole, transition_stands}
use Rattle.planner.proofs.Cheapest.{best_serves}
use Rattle.planner.proofs.Costing.{cost_in, cost_of_aisle, cost_following, way_cost}
use Rattle.planner.proofs.Laid.{laid_keeps}
use Rattle.classes.proofs.Rule.{opening_told}
use Rattle.planner.proofs.WholeHouse.{cost_all, all_ring, ended_all}

-- uses of a class up to aisle a, at a cost
pub record Planned (h : House) (picks : List Spot) (f : Edge → ℕ) (a : ℕ) (c : Class) (w : ℕ) : Type 0 where
  pub stands : StandsAt h picks f a c
  pub costs : cost_in h f 0 (suc a) ≡ w

module _ {h : House} {picks : List Spot} {ds : ℕ → List ℕ} (by_aisle : PicksByAisle h picks ds) {f : Edge → ℕ} where
  -- the best use of an aisle serves
  best_served :
      {a : ℕ} {e : Effect} {u : Use} → a < h.aisles → best h.deep (ds a) e ≡ Some u → ((y : ℕ) → y < h.deep → f (lane a y) ≡ steps_of_use u y) →
      ServesAisle h ds f a e
  best_served {a} {u = u} i is steps = record { inside = i; way = u; serves = best_serves (by_aisle.depths a i) is; steps = steps }

  opened : {e : Effect} {c : Class} → opening e ≡ Some c → ServesAisle h ds f 0 e → StandsAt h picks f 0 c
  opened {e} opens s = going (opening_told e opens).going (opens_in by_aisle opens s)

  -- uses that keep to a plan are of its class, at its cost
  pub plan_stands : {a : ℕ} {c : Class} {w : ℕ} (plan : Plan h ds a c w) → a < h.aisles → KeepsTo plan f → Planned h picks f a c w
  unfolding best_served
  plan_stands (start e u opens is) i keeps =
      let s = best_served i is keeps in
      record { stands = opened opens s; costs = cost_of_aisle h f 0 i ∙ way_cost h f s }
  plan_stands (next {a = a} {w = w} plan p e u leads is) i (keeps, front_uses, back_uses, steps) =
      let before = plan_stands plan (omega arith) keeps in
      let s = best_served i is steps in
      record {
        stands = transition_stands by_aisle (record { front_uses = front_uses; back_uses = back_uses; aisle = s }) leads before.stands;
        costs =
            omega (
              arith,
              before.costs,
              cost_following h f a i,
              ap (λ k. k * h.apart) (passages front_uses back_uses),
              way_cost h f s,
            );
      }
    where
      passages : f (front a) ≡ passage_front p → f (back a) ≡ passage_back p → f (front a) + f (back a) ≡ passage_front p + passage_back p
      passages i k = omega arith

module _ {h : House} {picks : List Spot} {ds : ℕ → List ℕ} {w : ℕ} (f : Finished h ds w) (sound : Sound h picks) (by_aisle : PicksByAisle h picks ds) where
  last : suc (h.aisles - 1) ≡ h.aisles
  last = omega (arith, sound.some_aisle)

  planned : Planned h picks (laid f.plan) (h.aisles - 1) f.class w
  planned = plan_stands by_aisle f.plan (omega (arith, sound.some_aisle)) (laid_keeps f.plan)

  pub finished_ring : Ring h picks (laid f.plan)
  finished_ring = all_ring sound (laid f.plan) (ended_all sound (laid f.plan) last (closes_whole f.closes_tour planned.stands))

  pub finished_cost : cost h (uses_of (laid f.plan)) ≡ w
  finished_cost = sym (cost_all h (laid f.plan) last) ∙ planned.costs

pub plans_are_round : PlansAreRound
plans_are_round h picks ds w f sound by_aisle = (from_ring (laid f.plan) (finished_ring f sound by_aisle), finished_cost f sound by_aisle)
