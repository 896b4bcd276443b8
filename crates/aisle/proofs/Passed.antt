-- The reach of picks, found in one pass over them; and that it tells the cheapest uses. Assumes nothing.
use Rattle.std.proofs.Common.{◌≡◌, ℕ, List, [], ◌∷◌, Option, fold, sym, refl, ap, ◌∙◌, subst}
use Rattle.house.specs.declared.layout.Spot.{Spot}
use Rattle.aisle.specs.declared.reach.Reach as code
use Rattle.aisle.specs.Costs.{Use, Depths, Effect, nothing, from_front, from_back, both_ends, through_once, through_twice, last_of, widest, best, LeastUse}
use Rattle.aisle.specs.Reach.{Reach, depths_of, on_to, along, reach_in, best_from}
use Rattle.aisle.specs.Values.{reach_of, spots_of}
use Rattle.aisle.proofs.Best.{best_is_least}

-- a reach of the code, and one pick more
abbrev pub reach_from : Reach → code.Reach
reach_from r = record { first = r.first; last = r.last; gap = record { lo = r.gap.0; hi = r.gap.1 } }

abbrev pub stepped : code.Reach → Spot → code.Reach
stepped r s = reach_from (on_to (reach_of r) s.depth)

pub stepped_is : (r q : code.Reach) (s : Spot) → reach_of q ≡ on_to (reach_of r) s.depth → q ≡ stepped r s
stepped_is r q s e = ap reach_from e

all_stepped : (r : code.Reach) (rest : List Spot) → reach_of (fold stepped r rest) ≡ along (reach_of r) (depths_of (spots_of rest))
unfolding along last_of widest
all_stepped r [] = refl
all_stepped r (s ∷ ss) = all_stepped (stepped r s) ss

pub passed : (r q : code.Reach) (rest : List Spot) → q ≡ fold stepped r rest → reach_of q ≡ along (reach_of r) (depths_of (spots_of rest))
passed r q rest e = ap {B = Reach} (λ (x : code.Reach). reach_of x) e ∙ all_stepped r rest

-- the reach is all that the cheapest uses need to know
pub best_from_reach : (deep : ℕ) (ds : List ℕ) (e : Effect) → best_from deep (reach_in ds) e ≡ best deep ds e
unfolding along
best_from_reach deep [] nothing = refl
best_from_reach deep (d ∷ ds) nothing = refl
best_from_reach deep [] from_front = refl
best_from_reach deep (d ∷ ds) from_front = refl
best_from_reach deep [] from_back = refl
best_from_reach deep (d ∷ ds) from_back = refl
best_from_reach deep [] both_ends = refl
best_from_reach deep (d ∷ ds) both_ends = refl
best_from_reach deep ds through_once = refl
best_from_reach deep ds through_twice = refl

-- the use that the reach of the picks tells is the best one, and so the cheapest
module _ (deep : ℕ) (ds : List ℕ) (e : Effect) (o : Option Use) {r : Option Reach} (found : o ≡ best_from deep r e) (same : r ≡ reach_in ds) where
  pub found_best : o ≡ best deep ds e
  found_best = found ∙ ap (λ (x : Option Reach). best_from deep x e) same ∙ best_from_reach deep ds e

  pub found_least : Depths deep ds → LeastUse deep ds e o
  found_least depths = subst (LeastUse deep ds e) (sym found_best) (best_is_least deep ds e depths)
