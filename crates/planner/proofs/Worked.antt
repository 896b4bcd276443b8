-- The lengths of the shortest tours past three lists. No finished plan costs less, by a test of all choices that is computed. Assumes nothing.
use Rattle.std.proofs.Common.{◌≡◌, ℕ, zero, suc, ◌+◌, ◌<◌, ◌≤◌, Bool, true, ◌&&◌, leb, List, [], ◌∷◌, get_or, Some, None, Option, sym, refl, ap, ◌∙◌, inl, inr, arith, leb-true}
use Rattle.std.proofs.lemmas.Bool.{and_parts}
use Rattle.house.specs.House.{Spot, spot, Sound}
use Rattle.uses.specs.Uses.{pick, span}
use Rattle.aisle.specs.Costs.{once, leaving, hole, use_cost, last_of, widest, Effect, from_front, through_once}
use Rattle.classes.specs.Classes.{Class, even_front, even_one, Passage, one_each, closes, transition, opening}
use Rattle.partial.specs.Prices.{cost_or_never, price}
use Rattle.planner.specs.Plans.{passage_cost, start, next, Finished}
use Rattle.planner.specs.Promise.{ShortestIs, WorkedLengths}
use Rattle.planner.proofs.BestPlans.{all_passages, each_passage, all_effects, each_effect, from_start, from_next}
use Rattle.planner.proofs.Optima.{OneOf}
use Rattle.planner.proofs.Existence.{shortest_is, stays}
use Rattle.planner.proofs.Sorted.{insert, depths_in, sorted_picks}

-- a test of all that a list has
unfoldable all_of : {A : Type 0} → (A → Bool) → List A → Bool
all_of f [] = true
all_of f (x ∷ xs) = f x && all_of f xs

all_tells : {A : Type 0} (f : A → Bool) (xs : List A) → all_of f xs ≡ true → (x : A) → OneOf x xs → f x ≡ true
unfolding all_of
all_tells f [] t x i = absurd i
all_tells f (y ∷ ys) t x (inl same) = ap f same ∙ (and_parts (f y) (all_of f ys) t).0
all_tells f (y ∷ ys) t x (inr i) = all_tells f ys (and_parts (f y) (all_of f ys) t).1 x i

-- a class that closes no tour, or a cost of n at least
unfoldable dear : ℕ → Option Class → ℕ → Bool
dear n None w = true
dear n (Some c) w = pick (closes c) (leb n w) true

dear_tells : (n : ℕ) (c : Class) (w : ℕ) → closes c ≡ true → dear n (Some c) w ≡ true → n ≤ w
unfolding dear
dear_tells n c w whole t = leb-true n w (sym (ap (λ (b : Bool). pick b (leb n w) true) whole) ∙ t)

-- the same of what a class leads to
unfoldable dear_from : ℕ → Option Class → Passage → Effect → ℕ → Bool
dear_from n None p e w = true
dear_from n (Some c) p e w = dear n (transition c p e) w

module _ (deep apart : ℕ) (ds : ℕ → List ℕ) (n : ℕ) where
  unfoldable dear_alone : Effect → Bool
  dear_alone e = dear n (opening e) (price deep (ds 0) e)

  -- the choices for one aisle
  least_alone : all_of dear_alone all_effects ≡ true → (v : ℕ) → Finished (record { aisles = 1; deep = deep; apart = apart }) ds v → n ≤ v
  unfolding dear_alone
  least_alone test v f =
      let (e, (opens, (u, is, costs))) = from_start _ ds f.class v f.plan in
      let known = sym (ap (λ (o : Option Class). dear n o (price deep (ds 0) e)) opens) ∙ all_tells dear_alone all_effects test e (each_effect e) in
      omega (arith, dear_tells n f.class (price deep (ds 0) e) f.closes_tour known, costs, ap (cost_or_never deep) is)

  unfoldable dear_pair : Effect → Passage → Effect → Bool
  dear_pair e p x =
      dear_from n (opening e) p x (price deep (ds 0) e + (passage_cost (record { aisles = 2; deep = deep; apart = apart }) p + price deep (ds 1) x))

  unfoldable dear_over : Effect → Passage → Bool
  dear_over e p = all_of (dear_pair e p) all_effects

  unfoldable dear_after : Effect → Bool
  dear_after e = all_of (dear_over e) all_passages

  -- the choices for two aisles
  least_pair : all_of dear_after all_effects ≡ true → (v : ℕ) → Finished (record { aisles = 2; deep = deep; apart = apart }) ds v → n ≤ v
  unfolding dear_after dear_over dear_pair dear_from
  least_pair test v f =
      let (c, (p, (x, (leads, (u, is, (w, plan, costs)))))) = from_next _ ds 0 f.class v f.plan in
      let (e, (opens, (u₀, is₀, costs₀))) = from_start _ ds c w plan in
      let total = price deep (ds 0) e + (passage_cost (record { aisles = 2; deep = deep; apart = apart }) p + price deep (ds 1) x) in
      let over = all_tells (dear_over e) all_passages (all_tells dear_after all_effects test e (each_effect e)) p (each_passage p) in
      let known =
      sym (ap (λ (o : Option Class). dear n o total) leads) ∙ sym (ap (λ (o : Option Class). dear_from n o p x total) opens)
      ∙ all_tells (dear_pair e p) all_effects over x (each_effect x) in
      omega (arith, dear_tells n f.class total f.closes_tour known, costs, costs₀, ap (cost_or_never deep) is, ap (cost_or_never deep) is₀)

-- a pick at depth 4 of one aisle
one_pick : Sound (record { aisles = 1; deep = 10; apart = 3 }) (spot 0 4 ∷ [])
one_pick = record { some_aisle = omega arith; inside = within }
  where
    within : (i : ℕ) (d : Spot) → i < 1 → ((get_or (spot 0 4 ∷ []) i d).aisle < 1) × (0 < (get_or (spot 0 4 ∷ []) i d).depth) × ((get_or (spot 0 4 ∷ []) i d).depth < 10)
    within zero d l = omega arith
    within (suc i) d l = absurd (omega arith)

into_one : ShortestIs (record { aisles = 1; deep = 10; apart = 3 }) (spot 0 4 ∷ []) 8
unfolding all_of all_effects dear_alone dear use_cost span hole last_of widest depths_in insert
into_one =
    shortest_is one_pick (sorted_picks _ _ one_pick (omega arith))
    (record {
      finished = record { class = even_front; plan = start from_front (leaving 4 10) refl refl; closes_tour = refl };
      least = least_alone 10 3 (depths_in (spot 0 4 ∷ [])) 8 refl;
    })

-- picks at the far ends of two aisles
abbrev far : List Spot
far = spot 0 9 ∷ spot 1 9 ∷ []

far_picks : Sound (record { aisles = 2; deep = 10; apart = 3 }) far
far_picks = record { some_aisle = omega arith; inside = within }
  where
    within : (i : ℕ) (d : Spot) → i < 2 → ((get_or far i d).aisle < 2) × (0 < (get_or far i d).depth) × ((get_or far i d).depth < 10)
    within zero d l = omega arith
    within (suc zero) d l = omega arith
    within (suc (suc i)) d l = absurd (omega arith)

through_both : ShortestIs (record { aisles = 2; deep = 10; apart = 3 }) far 26
unfolding all_of all_effects all_passages dear_after dear_over dear_pair dear_from dear use_cost span hole last_of widest depths_in insert
through_both =
    shortest_is far_picks (sorted_picks _ _ far_picks (omega arith))
    (record {
      finished = record { class = even_one; plan = next (start through_once once refl refl) one_each through_once once refl refl; closes_tour = refl };
      least = least_pair 10 3 (depths_in far) 26 refl;
    })

pub worked_lengths : WorkedLengths
worked_lengths = (into_one, through_both, stays _)
