-- What is answered where uses are made into the steps of a tour. Assumes nothing: these are definitions.
use Rattle.std.specs.Prelude.{◌≡◌, ℕ, ◌<◌, ◌≤◌, Bool, true, false, List, [], length, take, Some, None, Ok, Err, Option, Result, nat_le, slice_index}
use Rattle.house.specs.House.{House, Spot}
use Rattle.house.specs.Rules.{or_else, unless}
use Rattle.house.specs.declared.refusal.Memory.TheVariants.{Steps}
use Rattle.house.specs.declared.refusal.Refusal.{Refusal}
use Rattle.house.specs.declared.refusal.Refusal.TheVariants.{Short}
use Rattle.walk.specs.Walk.{Tour, steps_of, length_of}
use Rattle.uses.specs.Edges.{Edge, In}
use Rattle.uses.specs.Held.{held}
use Rattle.uses.specs.Layout.{places, held_in, uses_in}
use Rattle.uses.specs.Room.{room_rule}
use Rattle.uses.specs.Uses.{cost, Round}
use Rattle.uses.specs.Walked.{counted}
use Rattle.euler.specs.declared.answer.Unwalked.{Unwalked}
use Rattle.euler.specs.declared.answer.Unwalked.TheVariants.{Refused, NotRound}
use Rattle.euler.specs.declared.answer.Walked.{Walked}

-- how many uses a house has in a slice
abbrev pub count_of : House → List ℕ → ℕ
count_of h us = held us 0 (places h)

-- room for 25,852 steps, for the uses of the largest house, and for a step for each use
abbrev pub walk_rule : House → List ℕ → ℕ → Option Refusal
walk_rule h us len =
    or_else (unless (nat_le 25852 len) (Short Steps)) (or_else (room_rule (length us)) (unless (nat_le (count_of h us) 25852) (Short Steps)))

-- the number of steps of a walk over the uses, and its length
pub record Measured (h : House) (us : List ℕ) (w : Walked) : Type 0 where
  pub number : w.steps ≡ count_of h us
  pub costs : w.length ≡ cost h (uses_in h us)
  pub room : 12926 ≤ length us
  pub fits : w.steps ≤ 25852

-- they are told, or memory is refused
abbrev pub Measures : House → List ℕ → ℕ → Result Walked Refusal → Type 0
Measures h us len (Ok w) = Measured h us w × (walk_rule h us len ≡ None) × (25852 ≤ len)
Measures h us len (Err e) = walk_rule h us len ≡ Some e

-- a tour with exactly the uses in `us`, a step for each of them, its steps written first; the uses of the house are used up
pub record Tours (h : House) (picks : List Spot) (us us' steps steps' : List ℕ) (w : Walked) : Type 0 where
  pub tour : Tour h picks
  pub uses : (e : Edge) → In h e → counted h tour.walk e ≡ held_in h us e
  pub number : w.steps ≡ count_of h us
  pub long : w.length ≡ length_of tour
  pub costs : w.length ≡ cost h (uses_in h us)
  pub written : take w.steps steps' ≡ steps_of tour.walk
  pub kept : (k : ℕ) → w.steps ≤ k → slice_index steps' k ≡ slice_index steps k
  pub used_up : (k : ℕ) → k < places h → slice_index us' k ≡ 0
  pub beyond : (k : ℕ) → places h ≤ k → slice_index us' k ≡ slice_index us k

-- a refusal leaves all memory as it was
abbrev pub Kept : List ℕ → List ℕ → List ℕ → List ℕ → Type 0
Kept us us' steps steps' = (us' ≡ us) × (steps' ≡ steps)

-- uses that are round are made into a tour past the picks of every list that they are round for; others are told
abbrev pub WalksOver : House → List ℕ → List ℕ → List ℕ → List ℕ → Walked → Bool → Type 0
WalksOver h us us' steps steps' w true =
    Round h [] (uses_in h us) × ((picks : List Spot) → Round h picks (uses_in h us) → Tours h picks us us' steps steps' w)
WalksOver h us us' steps steps' w false = (Round h [] (uses_in h us) → ⊥) × Kept us us' steps steps'

-- the same for one pick list
abbrev pub WalksPast : House → List Spot → List ℕ → List ℕ → List ℕ → List ℕ → Walked → Bool → Type 0
WalksPast h picks us us' steps steps' w true = Round h picks (uses_in h us) × Tours h picks us us' steps steps' w
WalksPast h picks us us' steps steps' w false = (Round h picks (uses_in h us) → ⊥) × Kept us us' steps steps'

-- memory that is too short is refused first
abbrev pub WalksUses : House → List ℕ → List ℕ → List ℕ → List ℕ → Result Walked Unwalked → Type 0
WalksUses h us us' steps steps' (Ok w) = (walk_rule h us (length steps) ≡ None) × WalksOver h us us' steps steps' w true
WalksUses h us us' steps steps' (Err (Refused e)) = (walk_rule h us (length steps) ≡ Some e) × Kept us us' steps steps'
WalksUses h us us' steps steps' (Err NotRound) = (walk_rule h us (length steps) ≡ None) × (Round h [] (uses_in h us) → ⊥) × Kept us us' steps steps'

abbrev pub WalksRound : House → List Spot → List ℕ → List ℕ → List ℕ → List ℕ → Result Walked Unwalked → Type 0
WalksRound h picks us us' steps steps' (Ok w) = (walk_rule h us (length steps) ≡ None) × WalksPast h picks us us' steps steps' w true
WalksRound h picks us us' steps steps' (Err (Refused e)) = (walk_rule h us (length steps) ≡ Some e) × Kept us us' steps steps'
WalksRound h picks us us' steps steps' (Err NotRound) =
    (walk_rule h us (length steps) ≡ None) × (Round h picks (uses_in h us) → ⊥) × Kept us us' steps steps'
