-- What the uses up to an aisle cost: aisle by aisle, and passage by passage. Assumes nothing.
use Rattle.std.proofs.Common.{◌≡◌, ℕ, suc, ◌+◌, ◌-◌, ◌*◌, ◌<◌, List, sym, refl, ap, ◌∙◌, add-mul, arith}
use Rattle.graph.proofs.Many.{many, sum_many}
use Rattle.house.specs.House.{House}
use Rattle.uses.specs.Uses.{span, cost}
use Rattle.uses.specs.Edges.{Edge, lane, front, back, uses_of, house_graph}
use Rattle.uses.proofs.Laws.{house_cost}
use Rattle.uses.proofs.Span.{span_zero, span_single, span_alike}
use Rattle.aisle.specs.Costs.{use_cost, Effect}
use Rattle.aisle.proofs.ShapeUse.{used_cost}
use Rattle.planner.proofs.Beginnings.{ServesAisle}
use Rattle.planner.proofs.Following.{uses_follow}
use Rattle.planner.proofs.OneAisle.{its_step, no_front, no_back, no_other}
use Rattle.planner.proofs.Stretch.{uses_in}

module _ (h : House) (f : Edge → ℕ) where
  -- the cost of the uses in a stretch of aisles
  abbrev pub cost_in : ℕ → ℕ → ℕ
  cost_in lo hi = cost h (uses_of (uses_in h lo hi f))

  -- the cost of an aisle is the sum over its steps
  pub cost_of_aisle : (a : ℕ) → a < h.aisles → cost_in a (suc a) ≡ span (λ y. f (lane a y)) h.deep
  unfolding cost
  cost_of_aisle a i = omega (arith, steps, ap (λ k. h.apart * k) passages)
    where
      g : Edge → ℕ
      g = uses_in h a (suc a) f

      steps : span (λ b. span (λ y. g (lane b y)) h.deep) h.aisles ≡ span (λ y. f (lane a y)) h.deep
      steps =
          span_single (λ b. span (λ y. g (lane b y)) h.deep) h.aisles a i (λ b l n. span_zero _ h.deep (λ y j. no_other h a f b y (λ same. n (sym same))))
          ∙ span_alike (λ y. g (lane a y)) (λ y. f (lane a y)) h.deep (λ y l. its_step h a f y)

      passages : span (λ b. g (front b) + g (back b)) (h.aisles - 1) ≡ 0
      passages = span_zero _ (h.aisles - 1) (λ b l. omega (arith, no_front h a f b, no_back h a f b))

  -- and with one aisle more
  pub cost_following :
      (a : ℕ) → suc a < h.aisles →
      cost_in 0 (suc (suc a)) ≡ cost_in 0 (suc a) + (f (front a) + f (back a)) * h.apart + span (λ y. f (lane (suc a) y)) h.deep
  cost_following a i =
      omega (
        arith,
        (house_cost h).add with_both (uses_in h (suc a) (suc (suc a)) f) (uses_in h 0 (suc (suc a)) f) (λ e there. uses_follow h a (suc (suc a)) (omega arith) f e),
        (house_cost h).add with_front (many (house_graph h) (back a) (f (back a))) with_both (λ e there. refl),
        (house_cost h).add (uses_in h 0 (suc a) f) (many (house_graph h) (front a) (f (front a))) with_front (λ e there. refl),
        sum_many (house_graph h) (house_cost h) (front a) i (f (front a)),
        sum_many (house_graph h) (house_cost h) (back a) i (f (back a)),
        add-mul (f (front a)) (f (back a)) h.apart,
        cost_of_aisle (suc a) i,
      )
    where
      with_front : Edge → ℕ
      with_front e = uses_in h 0 (suc a) f e + many (house_graph h) (front a) (f (front a)) e

      with_both : Edge → ℕ
      with_both e = with_front e + many (house_graph h) (back a) (f (back a)) e

  -- an aisle that is used in a way costs what that way costs
  pub way_cost : {ds : ℕ → List ℕ} {a : ℕ} {e : Effect} (s : ServesAisle h ds f a e) → span (λ y. f (lane a y)) h.deep ≡ use_cost h.deep s.way
  way_cost s = used_cost (record { way = s.way; between = s.serves.between; steps = s.steps })
