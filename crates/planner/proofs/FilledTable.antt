-- The filled table: its rows are linked as plans are, every entry came from where it says, and its lengths are small. Assumes nothing.
use Rattle.std.proofs.Common.{◌≡◌, ℕ, zero, suc, ◌+◌, ◌*◌, ◌<◌, ◌≤◌, ◌⊎◌, List, length, get_or, subst, arith}
use Rattle.house.specs.House.{House, Spot}
use Rattle.planner.specs.Came.{row_of, CameFrom}
use Rattle.classes.specs.Classes.{Class}
use Rattle.partial.specs.Filling.{filled}
use Rattle.planner.specs.Laying.{picks_from, part_at}
use Rattle.partial.specs.Prices.{never}
use Rattle.partial.specs.Table.{cell, Tables}
use Rattle.planner.specs.Tables.{Starts, GoesOn}
use Rattle.partial.proofs.RowOffers.{entry}
use Rattle.planner.proofs.RowsFilled.{RowsFrom, rows_filled}
use Rattle.planner.proofs.RowsLinked.{Small, first_choice, first_small, first_linked, later_choice, later_small, later_linked}

-- the table of a house: its rows start and go on as plans do, and what lies beyond them is as it was
pub record FilledTable (h : House) (ds : ℕ → List ℕ) (was is : Tables) : Type 0 where
  pub starts : Starts h ds (row_of is.lengths 0)
  pub goes : (a : ℕ) → suc a < h.aisles → GoesOn h ds a (row_of is.lengths a) (row_of is.lengths (suc a))
  pub came_from : CameFrom h ds is.lengths is.came
  pub small : (a : ℕ) (c : Class) → a < h.aisles → (get_or is.lengths (cell a c) 0 ≡ never) ⊎ (get_or is.lengths (cell a c) 0 ≤ 1200 * (a + 1))
  pub lengths_beyond : (i : ℕ) → 7 * h.aisles ≤ i → get_or is.lengths i 0 ≡ get_or was.lengths i 0
  pub came_beyond : (i : ℕ) → 7 * h.aisles ≤ i → get_or is.came i 0 ≡ get_or was.came i 0

module _
    (h : House) (ss : List Spot) (some_aisle : 1 ≤ h.aisles) (few : h.aisles ≤ 64) (shallow : h.deep ≤ 200) (near : h.apart ≤ 200)
  where
    module _ (was is : Tables) (rows : RowsFrom h ss h.aisles 0 was is) where
      -- a row is longer than the row before by an aisle and the passages to it at most
      row_small : (a : ℕ) → a < h.aisles → Small (1200 * (a + 1)) (entry is.lengths a)
      row_small zero l = first_small h (part_at ss) shallow (rows.holds 0 (omega arith) (omega arith))
      row_small (suc a) l =
          subst (λ (n : ℕ). Small n (entry is.lengths (suc a))) (omega arith)
          (later_small h (part_at ss) shallow near a (1200 * (a + 1)) (omega arith) (row_small a (omega arith)) (rows.holds (suc a) (omega arith) (omega arith)))

      rows_linked : FilledTable h (part_at ss) was is
      rows_linked =
          record {
            starts = first_linked h (part_at ss) shallow (rows.holds 0 (omega arith) (omega arith));
            goes = λ a l.
                later_linked h (part_at ss) shallow near a (1200 * (a + 1)) (omega arith) (row_small a (omega arith)) (rows.holds (suc a) (omega arith) (omega arith));
            came_from = record {
              first = first_choice h (part_at ss) shallow (rows.holds 0 (omega arith) (omega arith));
              later = λ a c w l.
                  later_choice h (part_at ss) shallow near a (1200 * (a + 1)) (omega arith) (row_small a (omega arith)) (rows.holds (suc a) (omega arith) (omega arith)) c w;
            };
            small = λ a c l. row_small a l c;
            lengths_beyond = λ i l. rows.lengths_else.beyond i (omega arith);
            came_beyond = λ i l. rows.came_else.beyond i (omega arith);
          }

    -- the table that is filled for a list of picks
    pub filled_table :
        (t : Tables) → 448 ≤ length t.lengths → 448 ≤ length t.came → FilledTable h (part_at ss) t (filled h h.aisles 0 ss t)
    unfolding picks_from
    filled_table t long long_came = rows_linked t (filled h h.aisles 0 ss t) (rows_filled h ss h.aisles 0 t (omega arith) (omega arith))
