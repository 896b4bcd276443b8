-- A table whose rows are linked by the least offers holds the least cost of a plan, up to each aisle and for each class. Assumes nothing.
use Rattle.std.proofs.Common.{◌≡◌, ℕ, zero, suc, ◌+◌, ◌≤◌, List, Some, Option, sym, refl, subst, arith}
use Rattle.house.specs.House.{House}
use Rattle.aisle.specs.Costs.{use_cost}
use Rattle.classes.specs.Classes.{Class}
use Rattle.planner.specs.Plans.{passage_cost, Plan, start, next}
use Rattle.planner.specs.Promise.{RowsAreLeast}
use Rattle.planner.specs.Tables.{HoldsLeast, FirstOffer, Offer, Starts, GoesOn}

module _ {h : House} {ds : ℕ → List ℕ} where
  -- a cost is a number, whichever way it is written
  at_cost : {a : ℕ} {c : Class} {v w : ℕ} → w ≡ v → Plan h ds a c v → Plan h ds a c w
  at_cost {a} {c} e plan = subst (Plan h ds a c) (sym e) plan

  first_offer : {c : Class} {w : ℕ} → Plan h ds 0 c w → FirstOffer h ds c w
  first_offer (start e u opens is) = record { effect = e; way = u; opens = opens; is_best = is; costs = refl }

  pub first_row : {row : Class → Option ℕ} → Starts h ds row → HoldsLeast (Plan h ds 0) row
  first_row starts =
      record {
        reached = λ d w is. let o = starts.reached d w is in at_cost o.costs (start o.effect o.way o.opens o.is_best);
        least = λ d w plan. starts.least d w (first_offer plan);
      }

  module _ {a : ℕ} {old new : Class → Option ℕ} (goes : GoesOn h ds a old new) (before : HoldsLeast (Plan h ds a) old) where
    -- the next row is no dearer than any plan
    beats : {d : Class} {w : ℕ} → Plan h ds (suc a) d w → (v : ℕ) × (new d ≡ Some v) × (v ≤ w)
    beats (next {c = c} {d = d} {w = w} plan p e u leads is) =
        let (v, in_row, cheap) = before.least c w plan in
        let offer : Offer h ds a old d (v + passage_cost h p + use_cost h.deep u) =
        record { class = c; before = v; in_row = in_row; passage = p; effect = e; way = u; leads = leads; is_best = is; costs = refl } in
        let (x, here, less) = goes.least d _ offer in
        (x, here, omega arith)

    pub next_row : HoldsLeast (Plan h ds (suc a)) new
    next_row =
        record {
          reached = λ d w is.
              let o = goes.reached d w is in
              at_cost o.costs (next (before.reached o.class o.before o.in_row) o.passage o.effect o.way o.leads o.is_best);
          least = λ d w plan. beats plan;
        }

pub rows_are_least : RowsAreLeast
rows_are_least h ds rows n starts goes zero l = first_row starts
rows_are_least h ds rows n starts goes (suc a) l = next_row (goes a l) (rows_are_least h ds rows n starts goes a (omega arith))
