-- The single use of an edge of the house: 1 at that edge and 0 at every other. Assumes nothing.
use Rattle.std.proofs.Common.{◌≡◌, ℕ, refl, arith}
use native.Mathlib.Decide.{ℕ_discrete}
use Rattle.graph.specs.Graph.{one}
use Rattle.graph.proofs.Indicator.{indicator_yes, indicator_no}
use Rattle.house.specs.House.{House}
use Rattle.uses.specs.Edges.{Edge, lane, front, back, edge_dec, house_graph}
use Rattle.uses.proofs.Same.{indicator_alike, same}

module _ (h : House) where
  abbrev pub single : Edge → Edge → ℕ
  single = one (house_graph h)

  pub single_same : (e : Edge) → single e e ≡ 1
  unfolding one
  single_same e = indicator_yes (edge_dec e e) refl

  pub single_other : (e x : Edge) → ¬ (e ≡ x) → single e x ≡ 0
  unfolding one
  single_other e x n = indicator_no (edge_dec e x) n

  -- at an edge of another kind, where the two cannot be equal
  pub single_unlike : (e x : Edge) → (e ≡ x → ◌≡◌ {A = ℕ} 0 1) → single e x ≡ 0
  single_unlike e x n = single_other e x (λ p. omega (arith, n p))

  -- at an edge of the same kind, by its place
  pub single_lane : (a b y z : ℕ) → a ≡ b → single (lane a y) (lane b z) ≡ same y z
  unfolding one
  single_lane a b y z e = indicator_alike (edge_dec (lane a y) (lane b z)) (ℕ_discrete y z) (λ p. cc) (λ p. cc)

  pub single_front : (a b : ℕ) → single (front a) (front b) ≡ same a b
  unfolding one
  single_front a b = indicator_alike (edge_dec (front a) (front b)) (ℕ_discrete a b) (λ p. cc) (λ p. cc)

  pub single_back : (a b : ℕ) → single (back a) (back b) ≡ same a b
  unfolding one
  single_back a b = indicator_alike (edge_dec (back a) (back b)) (ℕ_discrete a b) (λ p. cc) (λ p. cc)
