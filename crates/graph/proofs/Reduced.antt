-- Uses from which pairs are left out: sums grow no larger and keep their parity, and what was Eulerian stays so where links are kept. Assumes nothing.
use mathlib.Core.Path.{◌≡◌}
use Prim.Native.Nat.{ℕ, ◌+◌, ◌-◌, ◌%◌, ◌/◌, ◌≤◌, ◌<◌}
use native.Mathlib.Omega.{arith}
use Rattle.graph.specs.Graph.{Graph, Adds, Laws, Linked}
use Rattle.graph.specs.Trails.{Balanced, Eulerian}
use Rattle.graph.proofs.Sums.{sum_monotone}

module _ (G : Graph) where
  -- v is u without some pairs of uses
  pub record Reduces (v u : G.Edge → ℕ) : Type 0 where
    pub fewer : (e : G.Edge) → G.In e → v e ≤ u e
    pub parity : (e : G.Edge) → G.In e → v e % 2 ≡ u e % 2

  pub sum_reduced : {F : (G.Edge → ℕ) → ℕ} {worth : G.Edge → ℕ} → Adds G F worth → {v u : G.Edge → ℕ} → Reduces v u → F v ≤ F u
  sum_reduced adds {v} {u} r = sum_monotone G adds v u r.fewer

  pub sum_parity : {F : (G.Edge → ℕ) → ℕ} {worth : G.Edge → ℕ} → Adds G F worth → {v u : G.Edge → ℕ} → Reduces v u → F v % 2 ≡ F u % 2
  sum_parity adds {v} {u} r =
      let half = λ (e : G.Edge). (u e - v e) / 2 in
      let pairs = λ (e : G.Edge). half e + half e in
      omega (arith, adds.add v pairs u (λ e i. omega (arith, r.fewer e i, r.parity e i)), adds.add half half pairs (λ e i. omega arith))

module _ (G : Graph) {size : (G.Edge → ℕ) → ℕ} (laws : Laws G size) {v u : G.Edge → ℕ} (r : Reduces G v u) where
  pub balanced_reduced : (s t : G.Spot) → Balanced G u s t → Balanced G v s t
  balanced_reduced s t even x = omega (arith, even x, sum_parity G (laws.degree x) r)

  pub eulerian_reduced :
      {s t : G.Spot} → ((x : G.Spot) → 0 < G.deg v x → Linked G u s x → Linked G v s x) → Eulerian G u s t → Eulerian G v s t
  eulerian_reduced {s} {t} keeps euler =
      record {
        even = balanced_reduced s t euler.even;
        held = λ x p. keeps x p (euler.held x (omega (arith, sum_reduced G (laws.degree x) r)));
      }
