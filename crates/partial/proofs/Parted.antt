-- The part of an aisle among picks in lent memory, and the rows that its costs give. Assumes nothing.
use Rattle.std.proofs.Common.{◌≡◌, ℕ, zero, suc, ◌+◌, ◌-◌, ◌<◌, ◌≤◌, Bool, true, false, cond, eqb, List, [], ◌∷◌, length, take, drop, sym, refl, ap, ◌∙◌, arith, length-drop}
use Rattle.std.proofs.lemmas.List.{drop-drop}
use Rattle.house.specs.House.{House, Spot}
use Rattle.house.specs.Reading.{spot_of}
use Rattle.house.specs.declared.layout.Spot.{Spot as Entry}
use Rattle.aisle.specs.Costs.{Effect}
use Rattle.aisle.specs.Order.{run}
use Rattle.aisle.specs.Values.{spots_of}
use Rattle.partial.specs.Filling.{part_depths, after_part, row, filled}
use Rattle.partial.specs.Prices.{price}
use Rattle.partial.specs.Table.{Tables}

pub spots_length : (xs : List Entry) → length (spots_of xs) ≡ length xs
spots_length [] = refl
spots_length (x ∷ xs) = ap suc (spots_length xs)

pub spots_take : (n : ℕ) (xs : List Entry) → spots_of (take n xs) ≡ take n (spots_of xs)
spots_take zero xs = refl
spots_take (suc n) [] = refl
spots_take (suc n) (x ∷ xs) = ap (λ (r : List Spot). spot_of x ∷ r) (spots_take n xs)

pub spots_drop : (n : ℕ) (xs : List Entry) → spots_of (drop n xs) ≡ drop n (spots_of xs)
spots_drop zero xs = refl
spots_drop (suc n) [] = refl
spots_drop (suc n) (x ∷ xs) = spots_drop n xs

-- no more spots stand at the start of a list than it has
pub run_short : (a : ℕ) (ss : List Spot) → run a ss ≤ length ss
unfolding run
run_short a [] = omega arith
run_short a (s ∷ ss) = by (eqb s.aisle a) (run_short a ss)
  where
    by : (b : Bool) → run a ss ≤ length ss → cond b (suc (run a ss)) 0 ≤ suc (length ss)
    by true l = omega arith
    by false l = omega arith

module _ (a : ℕ) (picks : List Entry) (from to : ℕ) (end : to ≡ from + run a (spots_of (drop from picks))) where
  pub part_within : from ≤ length picks → to ≤ length picks
  part_within l = omega (arith, run_short a (spots_of (drop from picks)), spots_length (drop from picks), length-drop from picks)

  -- the entries of the part
  pub part_spots : spots_of (take (to - from) (drop from picks)) ≡ take (run a (spots_of (drop from picks))) (spots_of (drop from picks))
  part_spots = spots_take (to - from) (drop from picks) ∙ ap (λ (n : ℕ). take n (spots_of (drop from picks))) (omega arith)

  -- and those after it
  pub rest_spots : spots_of (drop to picks) ≡ after_part a (spots_of (drop from picks))
  rest_spots =
      ap (λ (n : ℕ). spots_of (drop n picks)) end ∙ ap spots_of (sym (drop-drop (run a (spots_of (drop from picks))) from picks))
      ∙ spots_drop (run a (spots_of (drop from picks))) (drop from picks)

module _ (h : House) where
  pub filled_none : (left a : ℕ) (ss : List Spot) (t : Tables) → left ≡ 0 → t ≡ filled h left a ss t
  unfolding filled
  filled_none zero a ss t e = refl
  filled_none (suc n) a ss t e = absurd (omega arith)

  -- one row more, by prices that are known effect by effect
  pub filled_more :
      (m a : ℕ) (ss rest : List Spot) (prices : Effect → ℕ) (t u v : Tables) → a < m → ((e : Effect) → prices e ≡ price h.deep (part_depths a ss) e) → rest ≡ after_part a ss →
      u ≡ row h a prices t → v ≡ filled h (m - (a + 1)) (a + 1) rest u → v ≡ filled h (m - a) a ss t
  unfolding filled
  filled_more m a ss rest prices t u v l costs next here there =
      there ∙ ap (filled h (m - (a + 1)) (a + 1) rest) (here ∙ ap (λ (p : Effect → ℕ). row h a p t) (λ i e. costs e i))
      ∙ ap (λ (r : List Spot). filled h (m - (a + 1)) (a + 1) r (row h a (price h.deep (part_depths a ss)) t)) next
      ∙ sym (ap (λ (n : ℕ). filled h n a ss t) fewer)
    where
      fewer : m - a ≡ suc (m - (a + 1))
      fewer = omega arith
