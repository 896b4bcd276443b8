-- The steps of a walk are the edges of the house, each in one of its two directions. Assumes nothing.
use Rattle.std.proofs.Common.{◌≡◌, refl, subst₂, inl, inr}
use Rattle.graph.specs.Graph.{Ends}
use Rattle.house.specs.House.{House, Spot}
use Rattle.walk.specs.Walk.{Goes}
use Rattle.uses.specs.Edges.{Edge, lane, front, back, In, src, dst, worth, house_graph}
use Rattle.uses.specs.Walked.{edge_of}

module _ (h : House) where
  -- a step that goes along an edge
  pub record Step (e : Edge) (s t : Spot) : Type 0 where
    pub goes : Goes h s t (worth h e)
    pub along : (edge_of h goes).edge ≡ e

  -- in the direction of the edge, and against it
  forth : (e : Edge) → In h e → Step e (src h e) (dst h e)
  unfolding edge_of
  forth (lane a y) (i, j) = record { goes = Goes.inward i j; along = refl }
  forth (front a) i = record { goes = Goes.front_on i; along = refl }
  forth (back a) i = record { goes = Goes.back_on i; along = refl }

  off : (e : Edge) → In h e → Step e (dst h e) (src h e)
  unfolding edge_of
  off (lane a y) (i, j) = record { goes = Goes.outward i j; along = refl }
  off (front a) i = record { goes = Goes.front_off i; along = refl }
  off (back a) i = record { goes = Goes.back_off i; along = refl }

  pub step_of : {s t : Spot} (e : Edge) → In h e → Ends (house_graph h) e s t → Step e s t
  step_of e i (inl (p, q)) = subst₂ (Step e) p q (forth e i)
  step_of e i (inr (p, q)) = subst₂ (Step e) q p (off e i)
