-- Twice is enough: with each edge used at most twice, as often as before up to a pair, the same spots are linked and Eulerian uses stay so. Assumes nothing.
use mathlib.Core.Path.{◌≡◌}
use Prim.Native.Nat.{ℕ}
use native.Mathlib.Omega.{arith}
use Rattle.graph.specs.Graph.{Graph, Laws, Linked}
use Rattle.graph.specs.Trails.{Eulerian}
use Rattle.graph.proofs.Class.{two, two_fewer, two_parity, two_positive}
use Rattle.graph.proofs.Links.{linked_more}
use Rattle.graph.proofs.Reduced.{Reduces, eulerian_reduced}

module _ (G : Graph) (u v : G.Edge → ℕ) (halved : (e : G.Edge) → G.In e → v e ≡ two (u e)) where
  pub halved_reduces : Reduces G v u
  halved_reduces = record { fewer = λ e i. omega (arith, halved e i, two_fewer (u e)); parity = λ e i. omega (arith, halved e i, two_parity (u e)) }

  pub halved_links : {s t : G.Spot} → Linked G u s t → Linked G v s t
  halved_links l = linked_more G (λ e i p. omega (arith, halved e i, two_positive (u e) p)) l

  pub halved_eulerian : {size : (G.Edge → ℕ) → ℕ} → Laws G size → {s t : G.Spot} → Eulerian G u s t → Eulerian G v s t
  halved_eulerian laws euler = eulerian_reduced G laws halved_reduces (λ x p l. halved_links l) euler
