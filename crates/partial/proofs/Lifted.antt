-- What is chosen by tables of 448 cells is chosen by longer ones that begin with them. Assumes nothing.
use Rattle.std.proofs.Common.{◌≡◌, ℕ, zero, suc, ◌-◌, ◌<◌, ◌≤◌, cond, List, ◌++◌, length, get_or, drop, nat_lt, Some, None, sym, refl, ap, ◌∙◌, subst, arith, le-leb}
use Rattle.std.proofs.lemmas.Bool.{lt-leb}
use Rattle.std.specs.Array.{IsFirstChunk}
use Rattle.std.proofs.lemmas.List.{get_or_append_left, length-take-le, take-append-drop}
use Rattle.house.specs.House.{House, Spot}
use Rattle.classes.specs.Classes.{Class, even_front, even_one, even_back, nothing_yet, closed}
use Rattle.house.specs.declared.refusal.Memory.TheVariants.{Tables as TableMemory}
use Rattle.house.specs.declared.refusal.Refusal.TheVariants.{Short}
use Rattle.partial.specs.Choosing.{table_rule, Chosen}
use Rattle.partial.specs.Ending.{shorter, ending}
use Rattle.partial.specs.Filling.{filled}
use Rattle.partial.specs.Table.{cell, Tables, tables}
use Rattle.partial.specs.Tracing.{choice_class, class_back, chosen}
use Rattle.partial.proofs.ChoiceParts.{class_place_small}
use Rattle.partial.proofs.Endings.{ending_ends}
use Rattle.partial.proofs.Within.{Full, Within, with_more, filled_within}

-- an entry of an aisle
entry_alone : (xs more : List ℕ) (a : ℕ) (c : Class) → length xs ≡ 448 → a < 64 → get_or (xs ++ more) (cell a c) 0 ≡ get_or xs (cell a c) 0
entry_alone xs more a c full l = get_or_append_left xs more 0 (cell a c) (omega (arith, class_place_small c))

module _ (lengths more : List ℕ) (a : ℕ) (full : length lengths ≡ 448) (l : a < 64) where
  shorter_alone : (c d : Class) → shorter (lengths ++ more) a c d ≡ shorter lengths a c d
  shorter_alone c d = λ i. cond (nat_lt (entry_alone lengths more a d full l i) (entry_alone lengths more a c full l i)) d c

  ending_alone : ending (lengths ++ more) a ≡ ending lengths a
  unfolding ending
  ending_alone = next nothing_yet (next even_back (next even_one (shorter_alone closed even_front)))
    where
      next : {c c' : Class} (d : Class) → c ≡ c' → shorter (lengths ++ more) a c d ≡ shorter lengths a c' d
      next {c} {c'} d e = shorter_alone c d ∙ ap (λ (x : Class). shorter lengths a x d) e

module _ (aisles : ℕ) (came more : List ℕ) (end : Class) (full : length came ≡ 448) (few : aisles ≤ 64) where
  class_back_alone : (k : ℕ) → class_back aisles (came ++ more) end k ≡ class_back aisles came end k
  unfolding class_back
  class_back_alone zero = refl
  class_back_alone (suc k) =
      ap choice_class
      (entry_alone came more (aisles - 1 - k) (class_back aisles (came ++ more) end k) full (omega arith)
      ∙ ap (λ (c : Class). get_or came (cell (aisles - 1 - k) c) 0) (class_back_alone k))

  chosen_alone : (a : ℕ) → a < aisles → chosen aisles (came ++ more) end a ≡ chosen aisles came end a
  chosen_alone a l =
      entry_alone came more a (class_back aisles (came ++ more) end (aisles - 1 - a)) full (omega arith)
      ∙ ap (λ (c : Class). get_or came (cell a c) 0) (class_back_alone (aisles - 1 - a))

lifted :
    (h : House) (ss : List Spot) (more was is : Tables) (choices : List ℕ) → h.aisles ≤ 64 → Full was → Chosen h ss was is choices →
    Chosen h ss (with_more more was) (with_more more is) choices
lifted h ss more was is choices few full chosen_here =
    record {
      table = ap (with_more more) chosen_here.table ∙ sym (within.alone more was full);
      ends = ending_ends (is.lengths ++ more.lengths) (h.aisles - 1);
      each = λ a l.
          chosen_here.each a l ∙ sym (chosen_alone h.aisles is.came more.came (ending is.lengths (h.aisles - 1)) is_full.came few a l)
          ∙ ap (λ (c : Class). chosen h.aisles (is.came ++ more.came) c a) (sym (ending_alone is.lengths more.lengths (h.aisles - 1) is_full.lengths (omega arith)));
      others = chosen_here.others;
    }
  where
    within : Within (filled h h.aisles 0 ss)
    within = filled_within h h.aisles 0 ss (omega arith)

    is_full : Full is
    is_full = rw chosen_here.table (within.full was full)

pub whole_chunk : (xs ys : List ℕ) → IsFirstChunk xs ys 448 → ys ++ drop 448 xs ≡ xs
whole_chunk xs ys first = ap (λ (zs : List ℕ). zs ++ drop 448 xs) first.same ∙ take-append-drop 448 xs

chunk_full : (xs ys : List ℕ) → IsFirstChunk xs ys 448 → length ys ≡ 448
chunk_full xs ys first = ap (length {A = ℕ}) first.same ∙ length-take-le 448 xs first.enough

pub chosen_by_chunks :
    (h : House) (ss : List Spot) (lengths came ls cs ls' cs' choices : List ℕ) → h.aisles ≤ 64 → IsFirstChunk lengths ls 448 → IsFirstChunk came cs 448 →
    Chosen h ss (tables ls cs) (tables ls' cs') choices → Chosen h ss (tables lengths came) (tables (ls' ++ drop 448 lengths) (cs' ++ drop 448 came)) choices
chosen_by_chunks h ss lengths came ls cs ls' cs' choices few first second chosen_here =
    subst (λ (t : Tables). Chosen h ss t (tables (ls' ++ drop 448 lengths) (cs' ++ drop 448 came)) choices)
    (λ i. tables (whole_chunk lengths ls first i) (whole_chunk came cs second i))
    (lifted h ss (tables (drop 448 lengths) (drop 448 came)) (tables ls cs) (tables ls' cs') choices few
    (record { lengths = chunk_full lengths ls first; came = chunk_full came cs second }) chosen_here)

pub room_for_tables : (m n : ℕ) → 448 ≤ m → 448 ≤ n → table_rule m n ≡ None
room_for_tables m n k l = rw (le-leb 448 m k, le-leb 448 n l) refl

pub second_short : (m n : ℕ) → 448 ≤ m → n < 448 → table_rule m n ≡ Some (Short TableMemory)
second_short m n k l = rw (le-leb 448 m k, lt-leb 448 n l) refl
