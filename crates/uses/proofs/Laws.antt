-- The house is a multigraph: it keeps the laws that the theory of links and of Eulerian walks asks for. Assumes nothing.
use Rattle.std.proofs.Common.{◌≡◌, ℕ, refl, ◌∙◌}
use Rattle.graph.specs.Graph.{Adds, Laws}
use Rattle.house.specs.House.{House}
use Rattle.uses.specs.Uses.{cost}
use Rattle.uses.specs.Edges.{Edge, lane, front, back, worth, uses_of, house_graph, priced}
use Rattle.uses.proofs.CostAdds.{cost_adds, cost_used}
use Rattle.uses.proofs.DegreeSum.{degree_sum}
use Rattle.uses.proofs.DegreeSingle.{degree_single}
use Rattle.uses.proofs.DegreeUsed.{degree_used}

module _ (h : House) where
  -- the number of uses: what they cost with aisles one step apart
  abbrev pub size : (Edge → ℕ) → ℕ
  size f = cost (priced h 1) (uses_of f)

  worth_one : (e : Edge) → worth (priced h 1) e ≡ 1
  worth_one (lane a y) = refl
  worth_one (front a) = refl
  worth_one (back a) = refl

  pub house_laws : Laws (house_graph h) size
  house_laws = record {
    degree = λ s. record { add = λ u v w e. degree_sum h u v w e s; single = λ e i. degree_single h e i s };
    count = record { add = (cost_adds h 1).add; single = λ e i. (cost_adds h 1).single e i ∙ worth_one e };
    touched = λ u s p. let t = degree_used h u s p in (t.edge, t.inside, t.positive, t.ends);
    some_use = λ u p. let t = cost_used h 1 u p in (t.edge, t.inside, t.positive);
  }

  pub house_cost : Adds (house_graph h) (λ f. cost h (uses_of f)) (worth h)
  house_cost = cost_adds h h.apart
