-- A greedy trail: balanced uses hold a trail between their two spots, and a closed one at any spot where something is used. Assumes nothing.
use mathlib.Core.Path.{◌≡◌, refl, subst}
use mathlib.Core.Logic.{◌⊎◌, inl, inr}
use Prim.Native.Nat.{ℕ, zero, suc, ◌+◌, ◌-◌, ◌≤◌, ◌<◌}
use native.Mathlib.Omega.{arith}
use Rattle.graph.specs.Graph.{Graph, Laws, Ends, Trail, stay, on, one}
use Rattle.graph.specs.Trails.{walked, Balanced}
use Rattle.graph.proofs.Indicator.{indicator_yes, indicator_no}
use Rattle.graph.proofs.Sums.{sum_one_more, one_of_used, degree_one_more}

module _ (G : Graph) where
  -- an edge in use at a spot, and the uses without one use of it
  record Step (u : G.Edge → ℕ) (t : G.Spot) : Type 0 where
    from : G.Spot
    edge : G.Edge
    there : G.In edge
    ends : Ends G edge from t
    less : G.Edge → ℕ
    taken : (e : G.Edge) → u e ≡ less e + one G edge e

  -- a trail that takes some of the uses, and the rest of them
  pub record Partly (u : G.Edge → ℕ) (s t : G.Spot) : Type 0 where
    pub trail : Trail G s t
    pub rest : G.Edge → ℕ
    pub splits : (e : G.Edge) → G.In e → u e ≡ walked G trail e + rest e

  start : {s t : G.Spot} (u : G.Edge → ℕ) → s ≡ t → Partly u s t
  unfolding walked
  start {s} u same = subst (λ x. Partly u s x) same (record { trail = stay; rest = u; splits = λ e i. omega arith })

  longer : {u : G.Edge → ℕ} {s t : G.Spot} (k : Step u t) → Partly k.less s k.from → Partly u s t
  unfolding walked
  longer k p =
      record { trail = on p.trail k.edge k.there k.ends; rest = p.rest; splits = λ e i. omega (arith, p.splits e i, k.taken e) }

module _ (G : Graph) {size : (G.Edge → ℕ) → ℕ} (laws : Laws G size) where
  step : (u : G.Edge → ℕ) (t : G.Spot) → 0 < G.deg u t → Step G u t
  step u t p = found (laws.touched u t p)
    where
      taking : (e : G.Edge) → G.In e → 0 < u e → (v : G.Spot) → Ends G e v t → Step G u t
      taking e i q v ends =
          record {
            from = v;
            edge = e;
            there = i;
            ends = ends;
            less = λ x. u x - one G e x;
            taken = λ x. omega (arith, one_of_used G u e x q);
          }

      found : (e : G.Edge) × G.In e × (0 < u e) × ((G.src e ≡ t) ⊎ (G.dst e ≡ t)) → Step G u t
      found (e, i, q, inl a) = taking e i q (G.dst e) (inr (a, refl))
      found (e, i, q, inr b) = taking e i q (G.src e) (inl (refl, b))

  size_of_less : {u : G.Edge → ℕ} {t : G.Spot} (k : Step G u t) → size u ≡ size k.less + 1
  size_of_less {u} k = sum_one_more G laws.count k.less u k.edge k.there (λ e i. k.taken e)

  balanced_less : {u : G.Edge → ℕ} {t : G.Spot} (k : Step G u t) (s : G.Spot) → Balanced G u s t → Balanced G k.less s k.from
  balanced_less {u} k s even x =
      omega (arith, even x, degree_one_more G laws k.less u k.edge k.there k.ends (λ e i. k.taken e) x)

  size_of_rest : {u : G.Edge → ℕ} {s t : G.Spot} (p : Partly G u s t) → size p.rest ≤ size u
  size_of_rest {u} p = omega (arith, laws.count.add (walked G p.trail) p.rest u p.splits)

  -- the walk goes on, backwards from t, until it is at s; where it is not, something is left to go on with
  greedy : (n : ℕ) (u : G.Edge → ℕ) (s t : G.Spot) → size u < n → Balanced G u s t → Partly G u s t
  greedy zero u s t h even = absurd (omega arith)
  greedy (suc n) u s t h even =
      elim (G.spot_dec s t) [
        | yes same ↦ start G u same
        | no other ↦
            let k = step u t (omega (arith, even t, indicator_no (G.spot_dec s t) other, indicator_yes (G.spot_dec t t) refl)) in
            longer G k (greedy n k.less s k.from (omega (arith, size_of_less k)) (balanced_less k s even))
      ]

  -- balanced uses hold a trail between the two spots
  pub trail_within : (u : G.Edge → ℕ) (s t : G.Spot) → Balanced G u s t → Partly G u s t
  trail_within u s t even = greedy (suc (size u)) u s t (omega arith) even

  -- a closed trail at a spot that takes something away
  pub record Closed (u : G.Edge → ℕ) (y : G.Spot) : Type 0 where
    pub partly : Partly G u y y
    pub shorter : size partly.rest < size u

  pub closed_within : (u : G.Edge → ℕ) (y : G.Spot) → Balanced G u y y → 0 < G.deg u y → Closed u y
  unfolding longer
  closed_within u y even q = around (step u y q)
    where
      around : Step G u y → Closed u y
      around k = closing (trail_within k.less y k.from (balanced_less k y even))
        where
          closing : Partly G k.less y k.from → Closed u y
          closing p = record { partly = longer G k p; shorter = omega (arith, size_of_rest p, size_of_less k) }
