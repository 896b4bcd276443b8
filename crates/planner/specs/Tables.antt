-- The rows of the planner's table: for each class the least cost of the offers for it. Assumes nothing: these are definitions.
use Rattle.std.specs.Prelude.{◌≡◌, ℕ, suc, ◌+◌, ◌≤◌, true, List, Some, Option}
use Rattle.house.specs.House.{House}
use Rattle.aisle.specs.Costs.{Use, use_cost, Effect, best}
use Rattle.classes.specs.Classes.{Class, Passage, closes, transition, opening}
use Rattle.planner.specs.Plans.{passage_cost}

-- a row holds, for each class, the least of the costs that there are for it, and nothing where there are none
pub record HoldsLeast (costs : Class → ℕ → Type 0) (row : Class → Option ℕ) : Type 0 where
  pub reached : (d : Class) (w : ℕ) → row d ≡ Some w → costs d w
  pub least : (d : Class) (w : ℕ) → costs d w → (v : ℕ) × (row d ≡ Some v) × (v ≤ w)

-- a cost for class d at aisle 0: an effect that opens it, with its cheapest use
pub record FirstOffer (h : House) (ds : ℕ → List ℕ) (d : Class) (w : ℕ) : Type 0 where
  pub effect : Effect
  pub way : Use
  pub opens : opening effect ≡ Some d
  pub is_best : best h.deep (ds 0) effect ≡ Some way
  pub costs : w ≡ use_cost h.deep way

-- a cost for class d at the aisle after a: from a class in the row of aisle a, by passages and an effect that lead to it, with the effect's cheapest use
pub record Offer (h : House) (ds : ℕ → List ℕ) (a : ℕ) (row : Class → Option ℕ) (d : Class) (w : ℕ) : Type 0 where
  pub class : Class
  pub before : ℕ
  pub in_row : row class ≡ Some before
  pub passage : Passage
  pub effect : Effect
  pub way : Use
  pub leads : transition class passage effect ≡ Some d
  pub is_best : best h.deep (ds (suc a)) effect ≡ Some way
  pub costs : w ≡ before + passage_cost h passage + use_cost h.deep way

-- the row of aisle 0, and the row of the aisle after a
abbrev pub Starts : House → (ℕ → List ℕ) → (Class → Option ℕ) → Type 0
Starts h ds row = HoldsLeast (FirstOffer h ds) row

abbrev pub GoesOn : House → (ℕ → List ℕ) → ℕ → (Class → Option ℕ) → (Class → Option ℕ) → Type 0
GoesOn h ds a old new = HoldsLeast (Offer h ds a old) new

-- the least entry of a row among the classes that close a tour
pub record LeastEnd (row : Class → Option ℕ) (c : Class) (w : ℕ) : Type 0 where
  pub entry : row c ≡ Some w
  pub closes_tour : closes c ≡ true
  pub least : (d : Class) (v : ℕ) → row d ≡ Some v → closes d ≡ true → w ≤ v
