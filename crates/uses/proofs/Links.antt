-- Spots linked in the house are those linked in its multigraph. Assumes nothing.
use Rattle.std.proofs.Common.{◌≡◌, ℕ, ◌<◌, refl, subst, inl, inr, arith}
use mathlib.Core.Path.{subst⁻¹}
use Rattle.graph.specs.Graph as graph
use Rattle.graph.proofs.Links.{linked_more}
use Rattle.house.specs.House.{House, Spot}
use Rattle.uses.specs.Uses.{Uses, Linked}
use Rattle.uses.specs.Edges.{Edge, lane, front, back, In, src, dst, use_of, uses_of, house_graph}

pub use_of_uses : (f : Edge → ℕ) (e : Edge) → use_of (uses_of f) e ≡ f e
use_of_uses f (lane a y) = refl
use_of_uses f (front a) = refl
use_of_uses f (back a) = refl

module _ (h : House) where
  pub to_link : {u : Uses} {s t : Spot} → Linked h u s t → graph.Linked (house_graph h) (use_of u) s t
  to_link Linked.here = graph.Linked.here
  to_link (Linked.along {a = a} {y = y} l i j p) = graph.Linked.along (to_link l) (lane a y) (i, j) p (inl (refl, refl))
  to_link (Linked.along_out {a = a} {y = y} l i j p) = graph.Linked.along (to_link l) (lane a y) (i, j) p (inr (refl, refl))
  to_link (Linked.over_front {a = a} l i p) = graph.Linked.along (to_link l) (front a) i p (inl (refl, refl))
  to_link (Linked.back_front {a = a} l i p) = graph.Linked.along (to_link l) (front a) i p (inr (refl, refl))
  to_link (Linked.over_back {a = a} l i p) = graph.Linked.along (to_link l) (back a) i p (inl (refl, refl))
  to_link (Linked.back_back {a = a} l i p) = graph.Linked.along (to_link l) (back a) i p (inr (refl, refl))

  -- the same over uses told by edges
  pub to_link_by : {s t : Spot} (f : Edge → ℕ) → Linked h (uses_of f) s t → graph.Linked (house_graph h) f s t
  to_link_by f l = linked_more (house_graph h) (λ e i p. omega (arith, use_of_uses f e)) (to_link l)

  -- an edge in use leads on from either end
  onward : (f : Edge → ℕ) {s : Spot} (e : Edge) → In h e → 0 < f e → Linked h (uses_of f) s (src h e) → Linked h (uses_of f) s (dst h e)
  onward f (lane a y) (i, j) p l = Linked.along l i j p
  onward f (front a) i p l = Linked.over_front l i p
  onward f (back a) i p l = Linked.over_back l i p

  backward : (f : Edge → ℕ) {s : Spot} (e : Edge) → In h e → 0 < f e → Linked h (uses_of f) s (dst h e) → Linked h (uses_of f) s (src h e)
  backward f (lane a y) (i, j) p l = Linked.along_out l i j p
  backward f (front a) i p l = Linked.back_front l i p
  backward f (back a) i p l = Linked.back_back l i p

  pub from_link : {f : Edge → ℕ} {s t : Spot} → graph.Linked (house_graph h) f s t → Linked h (uses_of f) s t
  from_link graph.Linked.here = Linked.here
  from_link {f} {s} (graph.Linked.along l e i p (inl (q, r))) =
      subst (λ t. Linked h (uses_of f) s t) r (onward f e i p (subst⁻¹ (λ t. Linked h (uses_of f) s t) q (from_link l)))
  from_link {f} {s} (graph.Linked.along l e i p (inr (q, r))) =
      subst (λ t. Linked h (uses_of f) s t) q (backward f e i p (subst⁻¹ (λ t. Linked h (uses_of f) s t) r (from_link l)))
