-- The walks of the house as trails of its multigraph, and how often a walk uses each edge.
-- Assumes nothing: these are definitions.
use Rattle.std.specs.Prelude.{◌≡◌, ℕ, refl}
use Rattle.std.proofs.Common.{inl, inr}
use Rattle.graph.specs.Graph.{Ends, Trail}
use Rattle.graph.specs.Trails.{walked}
use Rattle.house.specs.House.{House, Spot}
use Rattle.walk.specs.Walk.{Goes, Walk}
use Rattle.uses.specs.Edges.{Edge, lane, front, back, In, worth, house_graph}

module _ (h : House) where
  -- the edge that a step goes along
  pub record GoesAlong (s t : Spot) (n : ℕ) : Type 0 where
    pub edge : Edge
    pub inside : In h edge
    pub ends : Ends (house_graph h) edge s t
    pub length : n ≡ worth h edge

  unfoldable pub edge_of : {s t : Spot} {n : ℕ} → Goes h s t n → GoesAlong s t n
  edge_of (Goes.inward {a = a} {y = y} i j) = record { edge = lane a y; inside = (i, j); ends = inl (refl, refl); length = refl }
  edge_of (Goes.outward {a = a} {y = y} i j) = record { edge = lane a y; inside = (i, j); ends = inr (refl, refl); length = refl }
  edge_of (Goes.front_on {a = a} i) = record { edge = front a; inside = i; ends = inl (refl, refl); length = refl }
  edge_of (Goes.front_off {a = a} i) = record { edge = front a; inside = i; ends = inr (refl, refl); length = refl }
  edge_of (Goes.back_on {a = a} i) = record { edge = back a; inside = i; ends = inl (refl, refl); length = refl }
  edge_of (Goes.back_off {a = a} i) = record { edge = back a; inside = i; ends = inr (refl, refl); length = refl }

  unfoldable pub to_trail : {s t : Spot} → Walk h s t → Trail (house_graph h) s t
  to_trail Walk.stay = Trail.stay
  to_trail (Walk.on w g) = Trail.on (to_trail w) (edge_of g).edge (edge_of g).inside (edge_of g).ends

  -- how often a walk uses each edge
  abbrev pub counted : {s t : Spot} → Walk h s t → Edge → ℕ
  counted w = walked (house_graph h) (to_trail w)
