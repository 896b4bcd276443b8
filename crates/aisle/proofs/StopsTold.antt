-- Whether a depth of an aisle is a stop can be told. Assumes nothing.
use Rattle.std.proofs.Common.{◌≡◌, ℕ, zero, suc, ◌⊎◌, List, [], ◌∷◌, inl, inr, ⊎_elim, arith}
use mathlib.Core.Logic.Dec
use native.Mathlib.Decide.{ℕ_discrete, map_dec}
use Rattle.house.specs.House.{House, Spot}
use Rattle.aisle.specs.Kinds.{Stops}
use Rattle.aisle.specs.Promise.{PickAt}

decide_either : {A B : Type 0} → Dec A → Dec B → Dec (A ⊎ B)
decide_either (yes a) d = yes (inl a)
decide_either (no a) (yes b) = yes (inr b)
decide_either (no a) (no b) = no (⊎_elim a b)

module _ (p : Spot) (picks : List Spot) (a y : ℕ) where
  -- it is the first of the list, or one of the others
  abbrev pub FirstOrOther : Type 0
  FirstOrOther = ((p.aisle ≡ a) × (p.depth ≡ y)) ⊎ PickAt picks a y

  pub to_list : FirstOrOther → PickAt (p ∷ picks) a y
  to_list (inl (same, e)) = (0, p, omega arith, same, e)
  to_list (inr (i, d, l, same, e)) = (suc i, d, omega arith, same, e)

  pub from_list : PickAt (p ∷ picks) a y → FirstOrOther
  from_list (zero, d, l, same, e) = inl (same, e)
  from_list (suc i, d, l, same, e) = inr (i, d, omega arith, same, e)

pick_at? : (picks : List Spot) (a y : ℕ) → Dec (PickAt picks a y)
pick_at? [] a y = no (λ k. omega (arith, k.2))
pick_at? (p ∷ picks) a y =
    map_dec (to_list p picks a y) (from_list p picks a y)
    (decide_either (Dec.and (ℕ_discrete p.aisle a) (ℕ_discrete p.depth y)) (pick_at? picks a y))

pub stop? : (h : House) (picks : List Spot) (a y : ℕ) → Dec (Stops h picks a y)
unfolding Stops
stop? h picks a y = decide_either (ℕ_discrete y 0) (decide_either (ℕ_discrete y h.deep) (pick_at? picks a y))
