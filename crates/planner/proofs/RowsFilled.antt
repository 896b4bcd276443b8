-- The table that is filled row after row: every row holds the least length of the ways to each class, and what lies beyond is untouched. Assumes nothing.
use Rattle.std.proofs.Common.{◌≡◌, ℕ, zero, suc, ◌+◌, ◌*◌, ◌<◌, ◌≤◌, List, length, get_or, sym, refl, ap, ◌∙◌, subst, inl, inr, add-one, arith}
use native.Mathlib.Decide.{ℕ_discrete}
use Rattle.house.specs.House.{House, Spot}
use Rattle.aisle.specs.Costs.{Effect}
use Rattle.classes.specs.Classes.{Class}
use Rattle.partial.specs.Filling.{row, filled}
use Rattle.planner.specs.Laying.{picks_from, part_at}
use Rattle.partial.specs.Prices.{price}
use Rattle.partial.specs.Table.{cell, Tables, plus, toll, next_row}
use Rattle.partial.proofs.ChoiceParts.{class_place_small}
use Rattle.partial.proofs.RowOffers.{entry, HasRow}
use Rattle.planner.proofs.RowsLinked.{RowHolds}
use Rattle.partial.proofs.RowsMade.{FirstWay, NextWay, RowMade, first_row_made, next_row_made}

-- the ways to a class of an aisle, by the lengths of the row before
abbrev pub WayTo : House → (Effect → ℕ) → List ℕ → ℕ → Class → ℕ → ℕ → Type 0
WayTo h prices lengths zero = FirstWay prices
WayTo h prices lengths (suc a) = NextWay h.apart prices (entry lengths a)

module _ (h : House) (prices : Effect → ℕ) where
  -- the row of any aisle, the first or a later one
  row_made : (a : ℕ) (was : Tables) → HasRow a was → RowMade a (WayTo h prices was.lengths a) was (row h a prices was)
  row_made zero was room = first_row_made prices was room
  row_made (suc a) was room =
      subst (λ (n : ℕ). RowMade n (NextWay h.apart prices (entry was.lengths a)) was (next_row h.apart prices a was)) (add-one a)
      (next_row_made h.apart prices a was (record { in_lengths = omega (arith, room.in_lengths); in_came = omega (arith, room.in_came) }))

  -- a way depends on the rows before only
  way_kept :
      (a : ℕ) (xs ys : List ℕ) → ((i : ℕ) → i < 7 * a → get_or ys i 0 ≡ get_or xs i 0) → (d : Class) (w k : ℕ) → WayTo h prices xs a d w k → WayTo h prices ys a d w k
  way_kept zero xs ys same d w k way = way
  way_kept (suc a) xs ys same d w k way =
      record {
        class = way.class;
        passage = way.passage;
        effect = way.effect;
        leads = way.leads;
        total =
            ap (λ (n : ℕ). plus (plus n (toll h.apart way.passage)) (prices way.effect))
            (same (cell a way.class) (omega (arith, class_place_small way.class)))
            ∙ way.total;
        number = way.number;
      }

  -- later rows change nothing in the row that was made
  made_holds :
      (a : ℕ) (was is end : Tables) → ((i : ℕ) → i < 7 * a + 7 → get_or end.lengths i 0 ≡ get_or is.lengths i 0) →
      ((i : ℕ) → i < 7 * a + 7 → get_or end.came i 0 ≡ get_or is.came i 0) → RowMade a (WayTo h prices was.lengths a) was is →
      RowHolds (WayTo h prices end.lengths a) (entry end.lengths a) (entry end.came a)
  made_holds a was is end same_lengths same_came made =
      record {
        at_most_never = λ d. omega (arith, here d, made.so_far.at_most_never d);
        reached = λ d less.
            rw (here d, came_here d)
            (way_kept a was.lengths end.lengths before d _ _ (made.so_far.reached d (omega (arith, here d))));
        least = λ d w k way. omega (arith, here d, made.least d w k (way_kept a end.lengths was.lengths (λ i l. sym (before i l)) d w k way));
      }
    where
      here : (d : Class) → entry end.lengths a d ≡ entry is.lengths a d
      here d = same_lengths (cell a d) (omega (arith, class_place_small d))

      came_here : (d : Class) → entry end.came a d ≡ entry is.came a d
      came_here d = same_came (cell a d) (omega (arith, class_place_small d))

      before : (i : ℕ) → i < 7 * a → get_or end.lengths i 0 ≡ get_or was.lengths i 0
      before i l = same_lengths i (omega arith) ∙ made.so_far.lengths_kept.same i (inl l)

-- entries outside the rows from aisle a to aisle b are as they were
pub record Untouched (a b : ℕ) (was is : List ℕ) : Type 0 where
  pub below : (i : ℕ) → i < 7 * a → get_or is i 0 ≡ get_or was i 0
  pub beyond : (i : ℕ) → 7 * b ≤ i → get_or is i 0 ≡ get_or was i 0

-- so many rows from aisle a on are made
pub record RowsFrom (h : House) (ss : List Spot) (left a : ℕ) (was is : Tables) : Type 0 where
  pub lengths_else : Untouched a (a + left) was.lengths is.lengths
  pub came_else : Untouched a (a + left) was.came is.came
  pub holds :
      (b : ℕ) → a ≤ b → b < a + left →
      RowHolds (WayTo h (price h.deep (part_at ss b)) is.lengths b) (entry is.lengths b) (entry is.came b)

module _ (h : House) (ss : List Spot) where
  -- one row, and then the others
  one_more :
      (left a : ℕ) (was mid end : Tables) → RowMade a (WayTo h (price h.deep (part_at ss a)) was.lengths a) was mid → RowsFrom h ss left (suc a) mid end →
      RowsFrom h ss (suc left) a was end
  one_more left a was mid end made rest =
      record {
        lengths_else = record {
          below = λ i l. rest.lengths_else.below i (omega arith) ∙ made.so_far.lengths_kept.same i (inl l);
          beyond = λ i l. rest.lengths_else.beyond i (omega arith) ∙ made.so_far.lengths_kept.same i (inr (omega arith));
        };
        came_else = record {
          below = λ i l. rest.came_else.below i (omega arith) ∙ made.so_far.came_kept.same i (inl l);
          beyond = λ i l. rest.came_else.beyond i (omega arith) ∙ made.so_far.came_kept.same i (inr (omega arith));
        };
        holds = λ b l m.
            elim (ℕ_discrete a b) [
              | yes e ↦
                  subst (λ (n : ℕ). RowHolds (WayTo h (price h.deep (part_at ss n)) end.lengths n) (entry end.lengths n) (entry end.came n)) e
                  (made_holds h (price h.deep (part_at ss a)) a was mid end (λ i l. rest.lengths_else.below i (omega arith)) (λ i l. rest.came_else.below i (omega arith)) made)
              | no n ↦ rest.holds b (omega arith) (omega arith)
            ];
      }

  -- so many aisles more
  pub rows_filled :
      (left a : ℕ) (t : Tables) → 7 * (a + left) ≤ length t.lengths → 7 * (a + left) ≤ length t.came →
      RowsFrom h ss left a t (filled h left a (picks_from ss a) t)
  unfolding filled picks_from
  rows_filled zero a t long long_came =
      record {
        lengths_else = record { below = λ i l. refl; beyond = λ i l. refl };
        came_else = record { below = λ i l. refl; beyond = λ i l. refl };
        holds = λ b l m. absurd (omega arith);
      }
  rows_filled (suc left) a t long long_came =
      let mid : Tables = row h a (price h.deep (part_at ss a)) t in
      let made = row_made h (price h.deep (part_at ss a)) a t (record { in_lengths = omega arith; in_came = omega arith }) in
      one_more left a t mid _ made
      (subst (λ (n : ℕ). RowsFrom h ss left (suc a) mid (filled h left n (picks_from ss (suc a)) mid)) (sym (add-one a))
      (rows_filled left (suc a) mid (omega (arith, made.so_far.lengths_kept.long)) (omega (arith, made.so_far.came_kept.long))))
