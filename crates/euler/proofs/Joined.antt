-- Two walks of the house, one after the other: their steps follow each other, and so do their trails. Assumes nothing.
use Rattle.std.proofs.Common.{◌≡◌, ℕ, ◌+◌, [], ◌∷◌, ◌++◌, sym, refl, ap, ◌∙◌, append_assoc, append-nil}
use Rattle.graph.specs.Graph.{Trail}
use Rattle.graph.specs.Trails.{walked}
use Rattle.graph.proofs.Splice as graph
use Rattle.house.specs.House.{House, Spot}
use Rattle.walk.specs.Walk.{Goes, Walk, byte_of, steps_of}
use Rattle.uses.specs.Edges.{Edge, house_graph}
use Rattle.uses.specs.Walked.{edge_of, to_trail, counted}

module _ {h : House} where
  unfoldable pub join : {s t u : Spot} → Walk h s t → Walk h t u → Walk h s u
  join a Walk.stay = a
  join a (Walk.on b g) = Walk.on (join a b) g

  pub steps_of_join : {s t u : Spot} (a : Walk h s t) (b : Walk h t u) → steps_of (join a b) ≡ steps_of a ++ steps_of b
  unfolding join steps_of
  steps_of_join a Walk.stay = sym (append-nil (steps_of a))
  steps_of_join a (Walk.on b g) = ap (λ bs. bs ++ (byte_of g ∷ [])) (steps_of_join a b) ∙ append_assoc (steps_of a) (steps_of b) (byte_of g ∷ [])

  pub trail_of_join : {s t u : Spot} (a : Walk h s t) (b : Walk h t u) → to_trail h (join a b) ≡ graph.join (house_graph h) (to_trail h a) (to_trail h b)
  unfolding join to_trail graph.join
  trail_of_join a Walk.stay = refl
  trail_of_join a (Walk.on b g) =
      ap (λ w. Trail.on w (edge_of h g).edge (edge_of h g).inside (edge_of h g).ends) (trail_of_join a b)

  pub counted_join : {s t u : Spot} (a : Walk h s t) (b : Walk h t u) (e : Edge) → counted h (join a b) e ≡ counted h a e + counted h b e
  counted_join a b e =
      ap (λ w. walked (house_graph h) w e) (trail_of_join a b) ∙ graph.walked_join (house_graph h) (to_trail h a) (to_trail h b) e

  -- one step before a walk
  pub steps_of_front : {s t u : Spot} {n : ℕ} (g : Goes h s t n) (b : Walk h t u) → steps_of (join (Walk.on Walk.stay g) b) ≡ byte_of g ∷ steps_of b
  unfolding steps_of
  steps_of_front g b = steps_of_join (Walk.on Walk.stay g) b

  pub trail_of_front :
      {s t u : Spot} {n : ℕ} (g : Goes h s t n) (b : Walk h t u) →
      to_trail h (join (Walk.on Walk.stay g) b)
      ≡ graph.join (house_graph h) (Trail.on Trail.stay (edge_of h g).edge (edge_of h g).inside (edge_of h g).ends) (to_trail h b)
  unfolding to_trail
  trail_of_front g b = trail_of_join (Walk.on Walk.stay g) b
