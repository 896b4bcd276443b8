-- Which of the classes that are whole tours has the shortest. Assumes nothing: these are definitions.
use Rattle.std.specs.Prelude.{◌≡◌, ◌⊎◌, ℕ, ◌≤◌, true, cond, List, nat_lt, slice_index}
use Rattle.classes.specs.Classes.{Class, even_back, even_front, even_one, nothing_yet, closed, closes}
use Rattle.partial.specs.Table.{cell}

abbrev pub length_at : List ℕ → ℕ → Class → ℕ
length_at lengths a c = slice_index lengths (cell a c)

-- the one of two classes with the shorter partial tour, the first if they are as long
abbrev pub shorter : List ℕ → ℕ → Class → Class → Class
shorter lengths a c d = cond (nat_lt (length_at lengths a d) (length_at lengths a c)) d c

-- one of two classes, and no longer than either
pub record Shorter (lengths : List ℕ) (a : ℕ) (c d r : Class) : Type 0 where
  pub one : (r ≡ c) ⊎ (r ≡ d)
  pub first : length_at lengths a r ≤ length_at lengths a c
  pub second : length_at lengths a r ≤ length_at lengths a d

-- the classes that are whole tours, one after the other
unfoldable pub ending : List ℕ → ℕ → Class
ending lengths a =
    shorter lengths a (shorter lengths a (shorter lengths a (shorter lengths a closed even_front) even_one) even_back) nothing_yet

-- a class of whole tours, and no longer than any other such class
pub record Ends (lengths : List ℕ) (a : ℕ) (r : Class) : Type 0 where
  pub whole : closes r ≡ true
  pub least : (d : Class) → closes d ≡ true → length_at lengths a r ≤ length_at lengths a d
