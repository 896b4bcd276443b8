-- The cost of uses adds up over the edges of the house, each counting its length; and what costs anything uses an edge.
-- Assumes nothing.
use Rattle.std.proofs.Common.{◌≡◌, ℕ, ◌+◌, ◌-◌, ◌*◌, ◌<◌, refl, ap, ◌∙◌, arith}
use native.Mathlib.Decide.{dec_lt}
use Rattle.graph.specs.Graph.{Adds}
use Rattle.house.specs.House.{House}
use Rattle.uses.specs.Uses.{span, cost}
use Rattle.uses.specs.Edges.{Edge, lane, front, back, In, worth, uses_of, house_graph, priced}
use Rattle.uses.proofs.Single.{single, single_same, single_other, single_unlike}
use Rattle.uses.proofs.Span.{span_sum, span_zero, span_single, span_some}

-- an edge is a step in an aisle, or a passage from one aisle to the next
abbrev step : Edge → ℕ
step (lane a y) = 1
step (front a) = 0
step (back a) = 0

abbrev passage : Edge → ℕ
passage (lane a y) = 0
passage (front a) = 1
passage (back a) = 1

module _ (h : House) where
  -- how many steps and how many passages are used
  unfoldable steps : (Edge → ℕ) → ℕ
  steps f = span (λ a. span (λ y. f (lane a y)) h.deep) h.aisles

  unfoldable crossings : (Edge → ℕ) → ℕ
  crossings f = span (λ a. f (front a) + f (back a)) (h.aisles - 1)

  steps_add : (u v w : Edge → ℕ) → ((e : Edge) → In h e → w e ≡ u e + v e) → steps w ≡ steps u + steps v
  unfolding steps
  steps_add u v w e = span_sum _ _ _ h.aisles (λ a i. span_sum _ _ _ h.deep (λ y j. e (lane a y) (i, j)))

  crossings_add : (u v w : Edge → ℕ) → ((e : Edge) → In h e → w e ≡ u e + v e) → crossings w ≡ crossings u + crossings v
  unfolding crossings
  crossings_add u v w e = span_sum _ _ _ (h.aisles - 1) (λ a i. omega (arith, e (front a) (omega arith), e (back a) (omega arith)))

  steps_zero : (f : Edge → ℕ) → ((a y : ℕ) → f (lane a y) ≡ 0) → steps f ≡ 0
  unfolding steps
  steps_zero f z = span_zero _ h.aisles (λ a i. span_zero _ h.deep (λ y j. z a y))

  steps_single : (e : Edge) → In h e → steps (single h e) ≡ step e
  unfolding steps
  steps_single (lane b z) (i, j) =
      span_single _ h.aisles b i (λ a l n. span_zero _ h.deep (λ y k. single_other h (lane b z) (lane a y) (λ e. n (cc))))
      ∙ span_single _ h.deep z j (λ y k n. single_other h (lane b z) (lane b y) (λ e. n (cc)))
      ∙ single_same h (lane b z)
  steps_single (front b) i = steps_zero (single h (front b)) (λ a y. single_unlike h (front b) (lane a y) (λ e. cc))
  steps_single (back b) i = steps_zero (single h (back b)) (λ a y. single_unlike h (back b) (lane a y) (λ e. cc))

  crossings_single : (e : Edge) → In h e → crossings (single h e) ≡ passage e
  unfolding crossings
  crossings_single (lane b z) i =
      span_zero _ (h.aisles - 1) (λ a l. omega (arith, single_unlike h (lane b z) (front a) (λ e. cc), single_unlike h (lane b z) (back a) (λ e. cc)))
  crossings_single (front b) i =
      span_single _ (h.aisles - 1) b (omega arith) (λ a l n. omega (arith, single_other h (front b) (front a) (λ e. n (cc)), single_unlike h (front b) (back a) (λ e. cc)))
      ∙ omega (arith, single_same h (front b), single_unlike h (front b) (back b) (λ e. cc))
  crossings_single (back b) i =
      span_single _ (h.aisles - 1) b (omega arith) (λ a l n. omega (arith, single_other h (back b) (back a) (λ e. n (cc)), single_unlike h (back b) (front a) (λ e. cc)))
      ∙ omega (arith, single_same h (back b), single_unlike h (back b) (front b) (λ e. cc))

  -- an edge of the house that is in use
  pub record Used (f : Edge → ℕ) : Type 0 where
    pub edge : Edge
    pub inside : In h edge
    pub positive : 0 < f edge

  step_used : (f : Edge → ℕ) → 0 < steps f → Used f
  unfolding steps
  step_used f p =
      let (a, i, q) = span_some _ h.aisles p in
      let (y, j, r) = span_some _ h.deep q in
      record { edge = lane a y; inside = (i, j); positive = r }

  crossing_used : (f : Edge → ℕ) → 0 < crossings f → Used f
  unfolding crossings
  crossing_used f p =
      let (a, i, q) = span_some _ (h.aisles - 1) p in
      elim (dec_lt 0 (f (front a))) [
        | yes r ↦ record { edge = front a; inside = omega arith; positive = r }
        | no r ↦ record { edge = back a; inside = omega arith; positive = omega arith }
      ]

-- the house at any length from one aisle to the next: at length 1 the cost is the number of uses
module _ (h : House) (c : ℕ) where
  abbrev pub price : (Edge → ℕ) → ℕ
  price f = cost (priced h c) (uses_of f)

  parts : (f : Edge → ℕ) → price f ≡ steps h f + c * crossings h f
  unfolding cost steps crossings
  parts f = refl

  worth_parts : (e : Edge) → worth (priced h c) e ≡ step e + c * passage e
  worth_parts (lane a y) = omega arith
  worth_parts (front a) = omega arith
  worth_parts (back a) = omega arith

  pub cost_adds : Adds (house_graph h) price (worth (priced h c))
  cost_adds = record {
    add = λ u v w e. omega (arith, parts u, parts v, parts w, steps_add h u v w e, ap (λ k. c * k) (crossings_add h u v w e));
    single = λ e i. omega (arith, parts (single h e), worth_parts e, steps_single h e i, ap (λ k. c * k) (crossings_single h e i));
  }

  pub cost_used : (f : Edge → ℕ) → 0 < price f → Used h f
  cost_used f p =
      elim (dec_lt 0 (steps h f)) [
        | yes q ↦ step_used h f q
        | no q ↦
            elim (dec_lt 0 (crossings h f)) [
              | yes r ↦ crossing_used h f r
              | no r ↦ let none : crossings h f ≡ 0 = omega arith in absurd (omega (arith, parts f, ap (λ k. c * k) none))
            ]
      ]
