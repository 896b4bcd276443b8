-- Walks of the house and trails of its multigraph: the same spots are passed, and the lengths agree. Assumes nothing.
use Rattle.std.proofs.Common.{◌≡◌, refl, ap, inl, inr, arith}
use Rattle.graph.specs.Graph.{Trail, one}
use Rattle.graph.specs.Trails.{walked, passes, total}
use Rattle.house.specs.House.{House, Spot}
use Rattle.walk.specs.Walk.{Walk, long, Passes}
use Rattle.uses.specs.Edges.{Edge, worth, house_graph}
use Rattle.uses.specs.Walked.{edge_of, to_trail, counted}
use Rattle.uses.proofs.Steps.{step_of}

module _ (h : House) where
  pub trail_length : {s t : Spot} (w : Walk h s t) → total (house_graph h) (worth h) (to_trail h w) ≡ long w
  unfolding to_trail total long
  trail_length Walk.stay = refl
  trail_length (Walk.on w g) = omega (arith, trail_length w, (edge_of h g).length)

  pub trail_passes : {s t : Spot} (w : Walk h s t) (p : Spot) → Passes w p → passes (house_graph h) (to_trail h w) p
  unfolding to_trail passes Passes
  trail_passes Walk.stay p e = e
  trail_passes (Walk.on w g) p (inl e) = inl e
  trail_passes (Walk.on w g) p (inr q) = inr (trail_passes w p q)

  unfoldable pub to_walk : {s t : Spot} → Trail (house_graph h) s t → Walk h s t
  to_walk Trail.stay = Walk.stay
  to_walk (Trail.on w e i ends) = Walk.on (to_walk w) (step_of h e i ends).goes

  pub walk_passes : {s t : Spot} (w : Trail (house_graph h) s t) (p : Spot) → passes (house_graph h) w p → Passes (to_walk w) p
  unfolding to_walk passes Passes
  walk_passes Trail.stay p e = e
  walk_passes (Trail.on w e i ends) p (inl q) = inl q
  walk_passes (Trail.on w e i ends) p (inr q) = inr (walk_passes w p q)

  -- the walk of a trail uses what the trail uses
  pub walk_counted : {s t : Spot} (w : Trail (house_graph h) s t) (x : Edge) → counted h (to_walk w) x ≡ walked (house_graph h) w x
  unfolding to_walk to_trail walked
  walk_counted Trail.stay x = refl
  walk_counted (Trail.on w e i ends) x = omega (arith, walk_counted w x, ap (λ y. one (house_graph h) y x) (step_of h e i ends).along)
