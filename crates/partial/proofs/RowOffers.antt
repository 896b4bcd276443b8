-- A row of the table while offers are made to it: what each offer keeps, and that the row meets it. Assumes nothing.
use Rattle.std.proofs.Common.{◌≡◌, ℕ, ◌+◌, ◌*◌, ◌<◌, ◌≤◌, ◌≢◌, ◌⊎◌, List, length, get_or, set, sym, ◌∙◌, subst, inl, inr, arith, length-set, get_or-set_other, get_or-set_same}
use native.Mathlib.Decide.{dec_lt, ℕ_discrete}
use Rattle.aisle.specs.Costs.{Effect, nothing, from_front, from_back, both_ends, through_once, through_twice}
use Rattle.classes.specs.Classes.{Class}
use Rattle.partial.specs.Prices.{never}
use Rattle.partial.specs.Table.{class_place, cell, Tables, tables, offer}
use Rattle.partial.proofs.ChoiceParts.{class_place_small, class_of_place}
use Rattle.partial.proofs.Offers.{offer_taken, offer_left}

-- the entry of a class in the row of an aisle
abbrev pub entry : List ℕ → ℕ → Class → ℕ
entry xs a c = get_or xs (cell a c) 0

-- a place outside the row of an aisle
abbrev pub Outside : ℕ → ℕ → Type 0
Outside a i = (i < 7 * a) ⊎ (7 * a + 7 ≤ i)

-- both tables have the row of an aisle
pub record HasRow (a : ℕ) (t : Tables) : Type 0 where
  pub in_lengths : 7 * a + 7 ≤ length t.lengths
  pub in_came : 7 * a + 7 ≤ length t.came

-- one table as long as another, with the same entries outside the row of aisle a
pub record Kept (a : ℕ) (was is : List ℕ) : Type 0 where
  pub long : length is ≡ length was
  pub same : (i : ℕ) → Outside a i → get_or is i 0 ≡ get_or was i 0

-- only the row of aisle a is written, and every length in it came by a way to its class, which the table of where it came from names
pub record SoFar (a : ℕ) (Way : Class → ℕ → ℕ → Type 0) (was is : Tables) : Type 0 where
  pub lengths_kept : Kept a was.lengths is.lengths
  pub came_kept : Kept a was.came is.came
  pub at_most_never : (d : Class) → entry is.lengths a d ≤ never
  pub reached : (d : Class) → entry is.lengths a d < never → Way d (entry is.lengths a d) (entry is.came a d)

-- from one state of a row to another: no entry is longer than it was, and the offers `Met` are met
pub record Onward (a : ℕ) (Way : Class → ℕ → ℕ → Type 0) (was : Tables) (Met : Class → ℕ → Type 0) (t u : Tables) : Type 0 where
  pub now : SoFar a Way was u
  pub lowers : (d : Class) → entry u.lengths a d ≤ entry t.lengths a d
  pub meets : (d : Class) (w : ℕ) → Met d w → entry u.lengths a d ≤ w

-- a change to the tables that leads onward from every state
abbrev pub Makes : (a : ℕ) → (Class → ℕ → ℕ → Type 0) → Tables → (Class → ℕ → Type 0) → (Tables → Tables) → Type 0
Makes a Way was Met f = (t : Tables) → SoFar a Way was t → Onward a Way was Met t (f t)

-- one offer: to this class, of this length
abbrev pub Only : Class → ℕ → Class → ℕ → Type 0
Only c v d w = (c ≡ d) × (v ≡ w)

outside_cell : (a i : ℕ) (d : Class) → Outside a i → i ≢ cell a d
outside_cell a i d (inl l) e = omega (arith, class_place_small d)
outside_cell a i d (inr l) e = omega (arith, class_place_small d)

-- an entry of the row of aisle a is written
kept_set : (a : ℕ) (d : Class) (w : ℕ) {was is : List ℕ} → Kept a was is → Kept a was (set is (cell a d) w)
kept_set a d w {was} {is} k =
    record {
      long = length-set is (cell a d) w ∙ k.long;
      same = λ i out. get_or-set_other is (cell a d) i w 0 (outside_cell a i d out) ∙ k.same i out;
    }

module _ (a : ℕ) (c : Class) (w : ℕ) (xs : List ℕ) where
  -- the entries of a row after one was written
  set_here : 7 * a + 7 ≤ length xs → entry (set xs (cell a c) w) a c ≡ w
  set_here room = get_or-set_same xs (cell a c) w 0 (omega (arith, class_place_small c))

  set_there : (d : Class) → class_place d ≢ class_place c → entry (set xs (cell a c) w) a d ≡ entry xs a d
  set_there d n = get_or-set_other xs (cell a c) (cell a d) w 0 (λ e. n (omega arith))

module _ {a : ℕ} {Way : Class → ℕ → ℕ → Type 0} {was : Tables} where
  -- where offers are met, so are some of them
  pub met_less : {G H : Class → ℕ → Type 0} {t u : Tables} → ((d : Class) (w : ℕ) → H d w → G d w) → Onward a Way was G t u → Onward a Way was H t u
  met_less less on = record { now = on.now; lowers = on.lowers; meets = λ d w h. on.meets d w (less d w h) }

  -- no change meets no offer
  pub nothing_met : {t : Tables} → SoFar a Way was t → Onward a Way was (λ d w. ⊥) t t
  nothing_met s = record { now = s; lowers = λ d. omega arith; meets = λ d w h. absurd h }

  -- one change after another
  pub both_met :
      {G H : Class → ℕ → Type 0} {t u v : Tables} → Onward a Way was G t u → Onward a Way was H u v → Onward a Way was (λ d w. G d w ⊎ H d w) t v
  both_met {G} {H} {t} {u} {v} f g =
      record { now = g.now; lowers = λ d. omega (arith, f.lowers d, g.lowers d); meets = meets_either }
    where
      meets_either : (d : Class) (w : ℕ) → G d w ⊎ H d w → entry v.lengths a d ≤ w
      meets_either d w (inl m) = omega (arith, f.meets d w m, g.lowers d)
      meets_either d w (inr m) = g.meets d w m

module _
    {a : ℕ} {Way : Class → ℕ → ℕ → Type 0} {was : Tables} (room : HasRow a was) (c : Class) (w k : ℕ) (way : Way c w k) (t : Tables)
    (s : SoFar a Way was t)
  where
    -- the tables with the offer
    abbrev taken : Tables
    taken = tables (set t.lengths (cell a c) w) (set t.came (cell a c) k)

    length_here : entry taken.lengths a c ≡ w
    length_here = set_here a c w t.lengths (omega (arith, room.in_lengths, s.lengths_kept.long))

    came_here : entry taken.came a c ≡ k
    came_here = set_here a c k t.came (omega (arith, room.in_came, s.came_kept.long))

    -- what holds of the offered entry, and held of all entries, holds of all entries
    entries_taken :
        (P : Class → ℕ → ℕ → Type 0) → P c w k → ((d : Class) → P d (entry t.lengths a d) (entry t.came a d)) →
        (d : Class) → P d (entry taken.lengths a d) (entry taken.came a d)
    entries_taken P here there d =
        elim (ℕ_discrete (class_place d) (class_place c)) [
          | yes e ↦
              subst (λ (x : Class). P x (entry taken.lengths a x) (entry taken.came a x)) (sym (class_of_place d c e))
              (rw (length_here, came_here) here)
          | no n ↦ rw (set_there a c w t.lengths d n, set_there a c k t.came d n) (there d)
        ]

    onward_taken : w < entry t.lengths a c → Onward a Way was (Only c w) t taken
    onward_taken l =
        record {
          now = record {
            lengths_kept = kept_set a c w s.lengths_kept;
            came_kept = kept_set a c k s.came_kept;
            at_most_never = entries_taken (λ d v n. v ≤ never) (omega (arith, s.at_most_never c)) s.at_most_never;
            reached = entries_taken (λ d v n. v < never → Way d v n) (λ less. way) s.reached;
          };
          lowers = entries_taken (λ d v n. v ≤ entry t.lengths a d) (omega arith) (λ d. omega arith);
          meets = λ d v (same, total). subst (λ (x : Class). entry taken.lengths a x ≤ v) same (omega (arith, length_here, total));
        }

    -- an offer by a way is met, taken or not
    pub offer_met : Onward a Way was (Only c w) t (offer (cell a c) w k t)
    offer_met =
        elim (dec_lt w (entry t.lengths a c)) [
          | yes l ↦ rw (offer_taken (cell a c) w k t l) (onward_taken l)
          | no l ↦ rw (offer_left (cell a c) w k t (omega arith)) (record { now = s; lowers = λ d. omega arith; meets = stays l })
        ]
      where
        stays : ¬ (w < entry t.lengths a c) → (d : Class) (v : ℕ) → Only c w d v → entry t.lengths a d ≤ v
        stays l d v (same, total) = subst (λ (x : Class). entry t.lengths a x ≤ v) same (omega arith)

-- met by the change for one of the effects
abbrev MetByOne : (Effect → Class → ℕ → Type 0) → Class → ℕ → Type 0
MetByOne Met d w = ((((Met nothing d w ⊎ Met from_front d w) ⊎ Met from_back d w) ⊎ Met both_ends d w) ⊎ Met through_once d w) ⊎ Met through_twice d w

-- one change for each effect, one after the other, in the order of their places
pub each_effect :
    {a : ℕ} {Way : Class → ℕ → ℕ → Type 0} {was : Tables} {Met : Effect → Class → ℕ → Type 0} (f : Effect → Tables → Tables) →
    ((e : Effect) → Makes a Way was (Met e) (f e)) →
    Makes a Way was (λ d w. (e : Effect) × Met e d w) (λ t. f through_twice (f through_once (f both_ends (f from_back (f from_front (f nothing t))))))
each_effect {a} {Way} {was} {Met} f makes t s = met_less some_effect all
  where
    next : {G : Class → ℕ → Type 0} {u : Tables} (e : Effect) → Onward a Way was G t u → Onward a Way was (λ d w. G d w ⊎ Met e d w) t (f e u)
    next e on = both_met on (makes e _ on.now)

    all : Onward a Way was (MetByOne Met) t (f through_twice (f through_once (f both_ends (f from_back (f from_front (f nothing t))))))
    all = next through_twice (next through_once (next both_ends (next from_back (next from_front (makes nothing t s)))))

    some_effect : (d : Class) (w : ℕ) → (e : Effect) × Met e d w → MetByOne Met d w
    some_effect d w (nothing, m) = inl (inl (inl (inl (inl m))))
    some_effect d w (from_front, m) = inl (inl (inl (inl (inr m))))
    some_effect d w (from_back, m) = inl (inl (inl (inr m)))
    some_effect d w (both_ends, m) = inl (inl (inr m))
    some_effect d w (through_once, m) = inl (inr m)
    some_effect d w (through_twice, m) = inr m
