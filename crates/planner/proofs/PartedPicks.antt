-- In the sorted form of a list, the parts that are gone through one after the other are the picks of each aisle. Assumes nothing.
use Rattle.std.proofs.Common.{◌≡◌, ℕ, zero, suc, ◌<◌, List, get_or, sym, refl, subst}
use Rattle.house.specs.House.{House, Spot, Sound}
use Rattle.aisle.specs.Costs.{Depths, Among}
use Rattle.aisle.specs.Order.{sorted, InOrder, depths_in}
use Rattle.aisle.specs.Promise.{Lists}
use Rattle.aisle.proofs.PartByPart.{FromPlace, from_start, run_is_part, from_next}
use Rattle.aisle.proofs.SortedByAisle.{sorted_by_aisle, sorted_is_exact}
use Rattle.planner.specs.Laying.{picks_from, part_at}
use Rattle.planner.specs.Plans.{PicksByAisle}

-- the picks from an aisle on
from_place : (ss : List Spot) → InOrder ss → (a : ℕ) → FromPlace ss a (picks_from ss a)
unfolding picks_from
from_place ss o zero = from_start ss o
from_place ss o (suc a) = from_next ss a (picks_from ss a) (from_place ss o a)

part_is : (ss : List Spot) → InOrder ss → (a : ℕ) → part_at ss a ≡ depths_in ss a
part_is ss o a = run_is_part ss a (picks_from ss a) (from_place ss o a)

pub parted_picks : (h : House) (picks : List Spot) → 0 < h.deep → Sound h picks → PicksByAisle h picks (part_at (sorted picks))
parted_picks h picks deep sound =
    record {
      depths = λ a l. subst (Depths h.deep) (sym (same a)) (by a).0;
      every = λ i d l. subst (λ ds. Among ds (get_or picks i d).depth) (sym (same (get_or picks i d).aisle)) ((by (get_or picks i d).aisle).1.every _ (i, d, l, refl, refl));
      only = λ a y l m. (by a).1.only y (subst (λ ds. Among ds y) (same a) m);
    }
  where
    by : (a : ℕ) → Depths h.deep (depths_in (sorted picks) a) × Lists picks a (depths_in (sorted picks) a)
    by a = sorted_by_aisle h picks deep sound a

    same : (a : ℕ) → part_at (sorted picks) a ≡ depths_in (sorted picks) a
    same a = part_is (sorted picks) (sorted_is_exact picks).0 a
