-- An aisle of one of the three shapes serves by an effect. Assumes nothing.
use Rattle.std.proofs.Common.{ℕ, ◌<◌, List, subst₂}
use Rattle.house.specs.House.{House, Spot}
use Rattle.uses.specs.Edges.{Edge, lane}
use Rattle.aisle.specs.Promise.{Lists, PickAt}
use Rattle.aisle.specs.Costs.{Among, Effect}
use Rattle.aisle.specs.Kinds.{Stops, Shape}
use Rattle.aisle.proofs.Effects.{some_effect}
use Rattle.aisle.proofs.ShapeUse.{shape_use, between_alike}
use Rattle.aisle.proofs.StopsListed.{stop_listed, listed_stop}
use Rattle.planner.specs.Plans.{PicksByAisle}
use Rattle.planner.proofs.Beginnings.{ServesAisle}

-- every aisle of a shape serves by an effect
pub shape_serves :
    {h : House} {picks : List Spot} {ds : ℕ → List ℕ} → PicksByAisle h picks ds → (f : Edge → ℕ) (a : ℕ) → a < h.aisles →
    Shape h.deep (Stops h picks a) (λ y. f (lane a y)) → (e : Effect) × ServesAisle h ds f a e
shape_serves {h} {picks} {ds} by_aisle f a i shape =
    let used = shape_use shape in
    let effect = some_effect (by_aisle.depths a i) used.way (between_alike h.deep (stop_listed h lists) (listed_stop h lists) used.way used.between) in
    (effect.effect, record { inside = i; way = used.way; serves = effect.serves; steps = used.steps })
  where
    every : (y : ℕ) → PickAt picks a y → Among (ds a) y
    every y (k, d, l, same, e) = subst₂ (λ b z. Among (ds b) z) same e (by_aisle.every k d l)

    lists : Lists picks a (ds a)
    lists = record { every = λ y p. every y p; only = λ y m. by_aisle.only a y i m }
