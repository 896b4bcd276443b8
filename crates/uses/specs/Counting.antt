-- How often a row of steps uses each edge, and what is answered where that is counted into a slice.
-- Assumes nothing: these are definitions.
use Rattle.std.specs.Prelude.{◌≡◌, ℕ, ◌+◌, ◌≤◌, List, [], ◌∷◌, length, take, Some, None, Ok, Err, Option, Result, slice_index, slice_set}
use Rattle.graph.specs.Graph.{one}
use Rattle.house.specs.House.{House, Spot, desk}
use Rattle.house.specs.Rules.{or_else}
use Rattle.house.specs.declared.refusal.Refusal.{Refusal}
use Rattle.walk.specs.Steps.{landing}
use Rattle.walk.specs.Checking.{step_rule, exit_rule}
use Rattle.uses.specs.Edges.{Edge, In, house_graph}
use Rattle.uses.specs.Layout.{places, held_in}
use Rattle.uses.specs.Looking.{edge_by}
use Rattle.uses.specs.Room.{room_rule}
use Rattle.uses.specs.declared.miscount.Miscount.{Miscount}
use Rattle.uses.specs.declared.miscount.Miscount.TheVariants.{Refused, Overfull}

-- how often a row of steps from a spot uses an edge, up to the first step that leads out
unfoldable pub used_by : House → Spot → List ℕ → Edge → ℕ
used_by h s [] e = 0
used_by h s (b ∷ bs) e = elim (landing h s b) [ Some t ↦ one (house_graph h) (edge_by h s b) e + used_by h t bs e | None ↦ 0 ]

-- for every edge of the house a slice holds how often the way uses it
abbrev pub Exact : House → List ℕ → List ℕ → Type 0
Exact h way us = (e : Edge) → In h e → held_in h us e ≡ used_by h desk way e

-- with this step of the way an edge is used more often than an entry holds, and none was before
pub record Overfills (h : House) (way : List ℕ) (i : ℕ) : Type 0 where
  pub edge : Edge
  pub inside : In h edge
  pub over : used_by h desk (take (i + 1) way) edge ≡ 256
  pub before : (e : Edge) → In h e → used_by h desk (take i way) e ≤ 255

-- a slice after counting: exact for the house, and beyond its places as it was
pub record Counted (h : House) (way before after : List ℕ) : Type 0 where
  pub exact : Exact h way after
  pub beyond : (k : ℕ) → places h ≤ k → slice_index after k ≡ slice_index before k

-- the room comes before all else; all steps are held to the six before any is held to the house
abbrev pub count_rule : House → List ℕ → ℕ → Option Refusal
count_rule h way len = or_else (room_rule len) (or_else (step_rule way) (exit_rule h way))

-- one use more at a place, or an entry that is full
abbrev pub Adds : List ℕ → ℕ → List ℕ → Option Unit → Type 0
Adds before entry after (Some _) = after ≡ slice_set before entry (slice_index before entry + 1)
Adds before entry after None = (slice_index before entry ≡ 255) × (after ≡ before)

-- counting from nothing, held to the steps that lead out alone
abbrev pub Tallies : House → List ℕ → List ℕ → Result Unit Miscount → Type 0
Tallies h way after (Ok _) = Exact h way after
Tallies h way after (Err (Refused e)) = exit_rule h way ≡ Some e
Tallies h way after (Err (Overfull i)) = Overfills h way i

-- a refusal changes nothing
abbrev pub Counts : House → List ℕ → List ℕ → List ℕ → Result Unit Miscount → Type 0
Counts h way before after (Ok _) = (count_rule h way (length before) ≡ None) × Counted h way before after
Counts h way before after (Err (Refused e)) = (count_rule h way (length before) ≡ Some e) × (after ≡ before)
Counts h way before after (Err (Overfull i)) = (count_rule h way (length before) ≡ None) × Overfills h way i × (after ≡ before)
