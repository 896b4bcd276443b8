-- One edge used several times, and what that is worth. Assumes nothing.
use mathlib.Core.Path.{◌≡◌, refl, ap}
use mathlib.Core.Logic.{◌≢◌, Ne-symm, ⊎_swap}
use Prim.Native.Nat.{ℕ, zero, suc, ◌*◌}
use native.Mathlib.Nat.{suc-mul}
use native.Mathlib.Omega.{arith}
use Rattle.graph.specs.Graph.{Graph, Adds, Laws, Ends, one, ends_at}
use Rattle.graph.proofs.Indicator.{indicator_yes, indicator_no}
use Rattle.graph.proofs.Weight.{weight, weight_none, weight_more}
use Rattle.graph.proofs.Sums.{sum_nothing, sum_one_more, ends_at_both}

module _ (G : Graph) where
  -- so many uses of one edge
  abbrev pub many : G.Edge → ℕ → G.Edge → ℕ
  many e m x = weight (G.edge_dec e x) m

  -- so many times the edge's worth
  pub sum_many :
      {F : (G.Edge → ℕ) → ℕ} {worth : G.Edge → ℕ} → Adds G F worth → (e : G.Edge) → G.In e → (m : ℕ) → F (many e m) ≡ m * worth e
  unfolding one
  sum_many adds e i zero = omega (arith, sum_nothing G adds (many e 0) (λ x j. weight_none (G.edge_dec e x)))
  sum_many {F} {worth} adds e i (suc m) =
      omega (arith, sum_one_more G adds (many e m) (many e (suc m)) e i (λ x j. weight_more (G.edge_dec e x) m), sum_many adds e i m, suc-mul m (worth e))

module _ (G : Graph) {size : (G.Edge → ℕ) → ℕ} (laws : Laws G size) where
  -- each use of an edge counts once at each end, where the ends differ
  pub degree_many_start : {s t : G.Spot} (e : G.Edge) → G.In e → Ends G e s t → s ≢ t → (m : ℕ) → G.deg (many G e m) s ≡ m
  degree_many_start {s} {t} e i ends apart m = omega (arith, sum_many G (laws.degree s) e i m, ap (λ k. m * k) once)
    where
      once : ends_at G s e ≡ 1
      once = omega (arith, ends_at_both G s e ends, indicator_yes (G.spot_dec s s) refl, indicator_no (G.spot_dec t s) (Ne-symm apart))

  pub degree_many_end : {s t : G.Spot} (e : G.Edge) → G.In e → Ends G e s t → s ≢ t → (m : ℕ) → G.deg (many G e m) t ≡ m
  degree_many_end e i ends apart m = degree_many_start e i (⊎_swap ends) (Ne-symm apart) m

  pub degree_many_else :
      {s t : G.Spot} (e : G.Edge) → G.In e → Ends G e s t → (x : G.Spot) → x ≢ s → x ≢ t → (m : ℕ) → G.deg (many G e m) x ≡ 0
  degree_many_else {s} {t} e i ends x a b m = omega (arith, sum_many G (laws.degree x) e i m, ap (λ k. m * k) never)
    where
      never : ends_at G x e ≡ 0
      never = omega (arith, ends_at_both G x e ends, indicator_no (G.spot_dec s x) (Ne-symm a), indicator_no (G.spot_dec t x) (Ne-symm b))
