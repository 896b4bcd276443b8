-- What the planner answers, and what the memory that it was lent holds then. Assumes nothing: these are definitions.
use Rattle.std.specs.Prelude.{◌≡◌, ℕ, ◌-◌, ◌<◌, ◌≤◌, ◌&&◌, List, length, take, Some, None, Ok, Err, Option, Result, nat_le, slice_index}
use Rattle.house.specs.House.{House, Spot}
use Rattle.house.specs.Bounds.{picks_of}
use Rattle.house.specs.Reading.{house_in, list_in, refusal_of}
use Rattle.house.specs.Rules.{or_else, unless}
use Rattle.house.specs.declared.layout.Spot.{Spot as Entry}
use Rattle.house.specs.declared.refusal.Memory.TheVariants.{Picks, Tables as TableMemory, Steps, Uses}
use Rattle.house.specs.declared.refusal.Refusal.{Refusal}
use Rattle.house.specs.declared.refusal.Refusal.TheVariants.{Short}
use Rattle.walk.specs.Walk.{Tour, steps_of, length_of, Shortest}
use Rattle.uses.specs.Edges.{Edge, In}
use Rattle.uses.specs.Layout.{places, held_in}
use Rattle.aisle.specs.Order.{sorted}
use Rattle.aisle.specs.Sorting.{Holds}
use Rattle.euler.specs.declared.answer.Walked.{Walked}
use Rattle.classes.specs.Classes.{Class}
use Rattle.partial.specs.Ending.{Ends}
use Rattle.partial.specs.Filling.{filled}
use Rattle.planner.specs.Laying.{laid_by, part_at}
use Rattle.planner.specs.declared.memory.Lent as code
use Rattle.partial.specs.Table.{tables}
use Rattle.partial.specs.Tracing.{chosen}

-- the memory that is lent: for picks, for the two tables, for steps and for uses
pub record Lent : Type 0 where
  pub picks : List Entry
  pub lengths : List ℕ
  pub came : List ℕ
  pub steps : List ℕ
  pub uses : List ℕ

abbrev pub lent : List Entry → List ℕ → List ℕ → List ℕ → List ℕ → Lent
lent picks lengths came steps uses = record { picks = picks; lengths = lengths; came = came; steps = steps; uses = uses }

-- what lent memory holds
abbrev pub held : code.Lent → Lent
held m = lent m.picks.now m.lengths.now m.came.now m.steps.now m.uses.now

-- how many entries each memory has
pub record Room : Type 0 where
  pub picks : ℕ
  pub lengths : ℕ
  pub came : ℕ
  pub steps : ℕ
  pub uses : ℕ

abbrev pub room_of : Lent → Room
room_of l = record { picks = length l.picks; lengths = length l.lengths; came = length l.came; steps = length l.steps; uses = length l.uses }

-- the same slices are lent, with as many entries
pub record SameSlices (was is : code.Lent) : Type 0 where
  pub room : room_of (held is) ≡ room_of (held was)
  pub picks : is.picks.ghost_name ≡ was.picks.ghost_name
  pub lengths : is.lengths.ghost_name ≡ was.lengths.ghost_name
  pub came : is.came.ghost_name ≡ was.came.ghost_name
  pub steps : is.steps.ghost_name ≡ was.steps.ghost_name
  pub uses : is.uses.ghost_name ≡ was.uses.ghost_name

-- room for 512 picks, for 64 aisles of seven classes in both tables, for 25,852 steps and for 12,926 uses; of several the first is told
abbrev pub room_for : ℕ → ℕ → ℕ → ℕ → ℕ → Option Refusal
room_for picks lengths came steps uses =
    or_else (unless (nat_le 512 picks) (Short Picks))
    (or_else (unless (nat_le 448 lengths && nat_le 448 came) (Short TableMemory)) (or_else (unless (nat_le 25852 steps) (Short Steps)) (unless (nat_le 12926 uses) (Short Uses))))

abbrev pub memory_rule : Lent → Option Refusal
memory_rule l = room_for (length l.picks) (length l.lengths) (length l.came) (length l.steps) (length l.uses)

-- the uses of a shortest plan are laid down: the table is filled, a class of whole tours in its last row is shortest, and the choices read back from it give the uses
pub record BestLaid (h : House) (ss : List Spot) (lengths came lengths' came' us us' : List ℕ) : Type 0 where
  pub table : tables lengths' came' ≡ filled h h.aisles 0 ss (tables lengths came)
  pub end : Class
  pub ends : Ends lengths' (h.aisles - 1) end
  pub lays : (e : Edge) → In h e → held_in h us' e ≡ laid_by h (chosen h.aisles came' end) (part_at ss) e
  pub beyond : (k : ℕ) → places h ≤ k → slice_index us' k ≡ slice_index us k

-- a shortest tour of the house past the picks, its steps written first; and what all memory holds then
pub record Routed (h : House) (picks : List Spot) (was is : Lent) (w : Walked) : Type 0 where
  pub tour : Tour h picks
  pub shortest : Shortest h picks tour
  pub long : w.length ≡ length_of tour
  pub written : take w.steps is.steps ≡ steps_of tour.walk
  pub kept : (k : ℕ) → w.steps ≤ k → slice_index is.steps k ≡ slice_index was.steps k
  pub used_up : (k : ℕ) → k < places h → slice_index is.uses k ≡ 0
  pub beyond : (k : ℕ) → places h ≤ k → slice_index is.uses k ≡ slice_index was.uses k
  pub in_order : Holds (length picks) (sorted picks) was.picks is.picks
  pub table : tables is.lengths is.came ≡ filled h h.aisles 0 (sorted picks) (tables was.lengths was.came)

-- of the steps that are told each was written: there is room for as many
abbrev pub Written : List ℕ → Result Walked Refusal → Type 0
Written steps (Ok w) = w.steps ≤ length steps
Written steps (Err e) = Unit

-- the memory is held to its sizes before any byte is looked at; a refusal changes nothing
abbrev pub Plans : List ℕ → Lent → Lent → Result Walked Refusal → Type 0
Plans file was is (Ok w) = (memory_rule was ≡ None) × (refusal_of file ≡ None) × Routed (house_in file) (picks_of (list_in file)) was is w
Plans file was is (Err e) = (or_else (memory_rule was) (refusal_of file) ≡ Some e) × (is ≡ was)
