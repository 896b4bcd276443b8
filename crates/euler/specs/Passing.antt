-- One pass over the uses, turn by turn: a stack of steps that grows and a tail of steps that is finished. Assumes nothing: these are definitions.
use Rattle.std.specs.Prelude.{◌≡◌, ℕ, zero, suc, ◌+◌, ◌-◌, ◌<◌, ◌≤◌, Bool, true, false, cond, ◌||◌, List, [], length, take, Ok, Err, Result, ◌==◌, slice_index, slice_set}
use Rattle.house.specs.House.{House, Spot, spot, desk}
use Rattle.house.specs.Reading.{spot_of}
use Rattle.house.specs.declared.layout.Spot as code
use Rattle.walk.specs.Walk.{Walk, steps_of}
use Rattle.uses.specs.Edges.{Edge, In}
use Rattle.uses.specs.Layout.{places, held_in, uses_in}
use Rattle.uses.specs.Looking.{Sees}
use Rattle.uses.specs.Uses.{Round}
use Rattle.uses.specs.Walked.{counted}
use Rattle.euler.specs.declared.answer.Unwalked.{Unwalked}
use Rattle.euler.specs.declared.answer.Unwalked.TheVariants.{NotRound}
use Rattle.euler.specs.declared.pass.Pass.{Pass}
use Rattle.euler.specs.declared.stretch.Stretch.{Stretch}

abbrev pub begun : ℕ → Pass
begun n = record { top = 0; tail = n; at = record { aisle = 0; depth = 0 }; end = record { aisle = 0; depth = 0 } }

-- so many steps on, to a spot
abbrev pub advanced_by : Pass → ℕ → code.Spot → Pass
advanced_by p long to = record { top = p.top + long; tail = p.tail; at = to; end = p.end }

abbrev pub retreated : Pass → code.Spot → Pass
retreated p from = record { top = p.top - 1; tail = p.tail - 1; at = from; end = from }

-- one byte, so many times from a place on
unfoldable pub filled : List ℕ → ℕ → ℕ → ℕ → List ℕ
filled steps start b zero = steps
filled steps start b (suc n) = slice_set (filled steps start b n) (start + n) b

-- one use less at each of so many places, and nowhere else
pub record Worn (left left' : List ℕ) (entry : ℕ → ℕ) (long : ℕ) : Type 0 where
  pub same_length : length left' ≡ length left
  pub taken : (i : ℕ) → i < long → slice_index left' (entry i) ≡ slice_index left (entry i) - 1
  pub others : (k : ℕ) → ((i : ℕ) → i < long → ¬ (k ≡ entry i)) → slice_index left' k ≡ slice_index left k

-- steps with one byte from spot to spot, each onto a use of its own that is left over
pub record Leads (h : House) (left : List ℕ) (byte long : ℕ) (spots : ℕ → Spot) (entry : ℕ → ℕ) : Type 0 where
  pub sees : (i : ℕ) → i < long → Sees h (spots i) byte (entry i) (spots (suc i))
  pub left_over : (i : ℕ) → i < long → 0 < slice_index left (entry i)
  pub apart : (i j : ℕ) → i < j → j < long → ¬ (entry i ≡ entry j)

-- one such step at least from a spot, and no more than there is room for; their uses are those at places that follow each other
pub record Straight (h : House) (left : List ℕ) (at : code.Spot) (room byte : ℕ) (s : Stretch) : Type 0 where
  pub spots : ℕ → Spot
  pub entry : ℕ → ℕ
  pub some : 0 < s.long
  pub short : s.long ≤ room
  pub leads : Leads h left byte s.long spots entry
  pub from : spots 0 ≡ spot_of at
  pub to : spots s.long ≡ spot_of s.to
  pub fits : s.start + s.long ≤ places h
  pub inside : (i : ℕ) → i < s.long → (s.start ≤ entry i) × (entry i < s.start + s.long)
  pub covers : (k : ℕ) → s.start ≤ k → k < s.start + s.long → (i : ℕ) × (i < s.long) × (k ≡ entry i)

-- a run: one such step at least, between stack and tail; they go onto the stack, and their uses are written down
pub record Ran (h : House) (left left' steps steps' : List ℕ) (p q : Pass) : Type 0 where
  pub byte : ℕ
  pub long : ℕ
  pub spots : ℕ → Spot
  pub entry : ℕ → ℕ
  pub some : 0 < long
  pub room : p.top + long ≤ p.tail
  pub leads : Leads h left byte long spots entry
  pub from : spots 0 ≡ spot_of p.at
  pub to : spots long ≡ spot_of q.at
  pub worn : Worn left left' entry long
  pub written : steps' ≡ filled steps p.top byte long
  pub top : q.top ≡ p.top + long
  pub tail : q.tail ≡ p.tail
  pub end : q.end ≡ p.end

-- where a step with this byte that led to a spot began
abbrev pub origin : Spot → ℕ → Spot
origin t b =
    cond (b == 0) (spot t.aisle (t.depth - 1))
    (cond (b == 1) (spot t.aisle (t.depth + 1))
    (cond (b == 2 || b == 4) (spot (t.aisle - 1) t.depth) (spot (t.aisle + 1) t.depth)))

-- a walk from the desk back to it by the first n steps, with exactly these uses
pub record Closes (h : House) (us steps : List ℕ) (n : ℕ) : Type 0 where
  pub walk : Walk h desk desk
  pub written : steps_of walk ≡ take n steps
  pub uses : (e : Edge) → In h e → counted h walk e ≡ held_in h us e

-- a pass tells of uses whether they are round
abbrev pub Decides : House → List ℕ → List ℕ → ℕ → Bool → Type 0
Decides h us steps n true = Closes h us steps n
Decides h us steps n false = Round h [] (uses_in h us) → ⊥

-- a closed walk whose steps are written first, and whose uses are used up
pub record Settled (h : House) (us us' steps steps' : List ℕ) (n : ℕ) : Type 0 where
  pub closes : Closes h us steps' n
  pub kept : (k : ℕ) → n ≤ k → slice_index steps' k ≡ slice_index steps k
  pub used_up : (k : ℕ) → k < places h → slice_index us' k ≡ 0
  pub beyond : (k : ℕ) → places h ≤ k → slice_index us' k ≡ slice_index us k

abbrev pub Settles : House → List ℕ → List ℕ → List ℕ → List ℕ → ℕ → Result Unit Unwalked → Type 0
Settles h us us' steps steps' n (Ok _) = Settled h us us' steps steps' n
Settles h us us' steps steps' n (Err e) = (e ≡ NotRound) × (Round h [] (uses_in h us) → ⊥) × (us' ≡ us) × (steps' ≡ steps)
