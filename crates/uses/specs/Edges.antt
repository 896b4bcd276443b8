-- The house as a multigraph: its edges, their ends, and uses counted by edge. Assumes nothing: these are definitions.
use Rattle.std.proofs.Common.{ap}
use Rattle.std.specs.Prelude.{ℕ, suc, ◌<◌, nat_le, nat_lt}
use Rattle.std.proofs.Math.Decide.{ℕ_discrete}
use Rattle.graph.specs.Graph.{Graph}
use Rattle.house.specs.House.{House, Spot, spot}
use Rattle.uses.specs.Uses.{Uses, pick, meet}

-- the step from depth y to y + 1 of aisle a, and the front and the back way from aisle a to the next
pub data Edge : Type 0 where
  lane : ℕ → ℕ → Edge
  front : ℕ → Edge
  back : ℕ → Edge
  deriving Discrete as same_edge

unfoldable pub edge_dec : Discrete Edge
edge_dec = same_edge ℕ_discrete

unfoldable pub spot_dec : Discrete Spot
spot_dec s t = elim (ℕ_discrete s.aisle t.aisle) [
  | no z ↦ no (λ e. z (ap (λ (p : Spot). p.aisle) e))
  | yes a ↦ elim (ℕ_discrete s.depth t.depth) [
    | no z ↦ no (λ e. z (ap (λ (p : Spot). p.depth) e))
    | yes y ↦ yes (λ i. spot (a i) (y i))
  ]
]

-- the edges that a house has
abbrev pub In : House → Edge → Type 0
In h (lane a y) = (a < h.aisles) × (y < h.deep)
In h (front a) = suc a < h.aisles
In h (back a) = suc a < h.aisles

-- the ends of an edge
abbrev pub src : House → Edge → Spot
src h (lane a y) = spot a y
src h (front a) = spot a 0
src h (back a) = spot a h.deep

abbrev pub dst : House → Edge → Spot
dst h (lane a y) = spot a (suc y)
dst h (front a) = spot (suc a) 0
dst h (back a) = spot (suc a) h.deep

-- the length of an edge
abbrev pub worth : House → Edge → ℕ
worth h (lane a y) = 1
worth h (front a) = h.apart
worth h (back a) = h.apart

-- uses by edge, and back
abbrev pub use_of : Uses → Edge → ℕ
use_of u (lane a y) = u.aisle a y
use_of u (front a) = u.front a
use_of u (back a) = u.back a

abbrev pub uses_of : (Edge → ℕ) → Uses
uses_of f = record { aisle = λ a y. f (lane a y); front = λ a. f (front a); back = λ a. f (back a) }

-- the uses that meet at a spot, none outside the house
unfoldable pub degree : House → (Edge → ℕ) → Spot → ℕ
degree h f s = pick (nat_lt s.aisle h.aisles) (pick (nat_le s.depth h.deep) (meet h (uses_of f) s.aisle s.depth) 0) 0

abbrev pub house_graph : House → Graph
house_graph h = record {
  Spot = Spot;
  Edge = Edge;
  spot_dec = spot_dec;
  edge_dec = edge_dec;
  In = In h;
  src = src h;
  dst = dst h;
  deg = degree h;
}

-- the same house with another length from one aisle to the next
abbrev pub priced : House → ℕ → House
priced h c = record { aisles = h.aisles; deep = h.deep; apart = c }
