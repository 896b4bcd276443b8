-- The uses of a trail: they add up to what its steps are worth, are odd at its ends only, and link its start with every spot that it passes. Assumes nothing.
use mathlib.Core.Path.{◌≡◌, refl, subst}
use mathlib.Core.Logic.{inl, inr}
use Prim.Native.Nat.{ℕ, ◌+◌, ◌<◌}
use native.Mathlib.Omega.{arith}
use native.Mathlib.Decide.{dec_lt}
use Rattle.graph.specs.Graph.{Graph, Adds, Laws, Ends, Linked, here, along, Trail, stay, on, one}
use Rattle.graph.specs.Trails.{walked, passes, total, same_spot, Balanced, Eulerian, Walks}
use Rattle.graph.proofs.Indicator.{indicator_yes, indicator_no, indicator_holds}
use Rattle.graph.proofs.Sums.{sum_nothing, sum_alike, sum_one_more, degree_one_more}
use Rattle.graph.proofs.Links.{linked_more, linked_same, touched_end}

module _ (G : Graph) where
  pub sum_of_walked :
      {F : (G.Edge → ℕ) → ℕ} {worth : G.Edge → ℕ} → Adds G F worth → {s t : G.Spot} (w : Trail G s t) → F (walked G w) ≡ total G worth w
  unfolding walked total
  sum_of_walked adds stay = sum_nothing G adds (λ x. 0) (λ e i. refl)
  sum_of_walked adds (on w e i ends) =
      omega (arith, sum_one_more G adds (walked G w) (walked G (on w e i ends)) e i (λ x j. refl), sum_of_walked adds w)

  pub walks_worth :
      {F : (G.Edge → ℕ) → ℕ} {worth : G.Edge → ℕ} → Adds G F worth → {u : G.Edge → ℕ} {s t : G.Spot} (k : Walks G u s t) →
      total G worth k.trail ≡ F u
  walks_worth adds {u} k = omega (arith, sum_of_walked adds k.trail, sum_alike G adds (walked G k.trail) u k.uses)

  pub passes_start : {s t : G.Spot} (w : Trail G s t) → passes G w s
  unfolding passes
  passes_start stay = refl
  passes_start (on w e i ends) = inr (passes_start w)

  pub passes_end : {s t : G.Spot} (w : Trail G s t) → passes G w t
  unfolding passes
  passes_end stay = refl
  passes_end (on w e i ends) = inl refl

  -- one step more keeps links
  linked_on :
      {s t v x : G.Spot} (w : Trail G s t) (e : G.Edge) (i : G.In e) (ends : Ends G e t v) → Linked G (walked G w) s x →
      Linked G (walked G (on w e i ends)) s x
  unfolding walked
  linked_on w e i ends l = linked_more G (λ x j p. omega arith) l

  pub linked_end : {s t : G.Spot} (w : Trail G s t) → Linked G (walked G w) s t
  unfolding walked one
  linked_end stay = here
  linked_end (on w e i ends) = along (linked_on w e i ends (linked_end w)) e i (omega (arith, indicator_yes (G.edge_dec e e) refl)) ends

  -- a trail links its start with every spot that it passes
  pub passes_linked : {s t : G.Spot} (w : Trail G s t) (x : G.Spot) → passes G w x → Linked G (walked G w) s x
  unfolding passes
  passes_linked stay x same = linked_same G same
  passes_linked {s} (on w e i ends) x (inl same) = subst (λ y. Linked G (walked G (on w e i ends)) s y) same (linked_end (on w e i ends))
  passes_linked (on w e i ends) x (inr p) = linked_on w e i ends (passes_linked w x p)

module _ (G : Graph) {size : (G.Edge → ℕ) → ℕ} (laws : Laws G size) where
  degree_of_on :
      {s t v : G.Spot} (w : Trail G s t) (e : G.Edge) (i : G.In e) (ends : Ends G e t v) (x : G.Spot) →
      G.deg (walked G (on w e i ends)) x ≡ G.deg (walked G w) x + same_spot G t x + same_spot G v x
  unfolding walked
  degree_of_on w e i ends = degree_one_more G laws (walked G w) (walked G (on w e i ends)) e i ends (λ y j. refl)

  walked_balanced : {s t : G.Spot} (w : Trail G s t) → Balanced G (walked G w) s t
  unfolding walked
  walked_balanced stay x = omega (arith, sum_nothing G (laws.degree x) (λ e. 0) (λ e i. refl))
  walked_balanced (on w e i ends) x = omega (arith, walked_balanced w x, degree_of_on w e i ends x)

  -- a trail passes every spot that its uses touch
  pub touched_passed : {s t : G.Spot} (w : Trail G s t) (x : G.Spot) → 0 < G.deg (walked G w) x → passes G w x
  unfolding passes walked
  touched_passed stay x p = absurd (omega (arith, sum_nothing G (laws.degree x) (λ e. 0) (λ e i. refl)))
  touched_passed (on {t = t} {v = v} w e i ends) x p =
      elim (dec_lt 0 (G.deg (walked G w) x)) [
        | yes q ↦ inr (touched_passed w x q)
        | no q ↦
            elim (G.spot_dec t x) [
              | yes same ↦ inr (subst (λ y. passes G w y) same (passes_end G w))
              | no other ↦
                  inl (indicator_holds (G.spot_dec v x) (omega (arith, degree_of_on w e i ends x, indicator_no (G.spot_dec t x) other)))
            ]
      ]

  pub linked_passed : {s t : G.Spot} (w : Trail G s t) (x : G.Spot) → Linked G (walked G w) s x → passes G w x
  linked_passed w x l =
      elim (touched_end G laws l) [ inl same ↦ subst (λ y. passes G w y) same (passes_start G w) | inr p ↦ touched_passed w x p ]

  -- a trail with these uses passes every spot that they link with its start
  pub walks_past : {u : G.Edge → ℕ} {s t x : G.Spot} (k : Walks G u s t) → Linked G u s x → passes G k.trail x
  walks_past {x = x} k l = linked_passed k.trail x (linked_more G (λ e i p. omega (arith, k.uses e i)) l)

  -- the uses of a trail are Eulerian between its ends
  pub walked_is_eulerian : {s t : G.Spot} (w : Trail G s t) → Eulerian G (walked G w) s t
  walked_is_eulerian w = record { even = walked_balanced w; held = λ x p. passes_linked G w x (touched_passed w x p) }
