-- A flood over what is used: the spots that it has seen, and those among them that wait to be left.
-- Assumes nothing: these are definitions.
use Rattle.std.specs.Prelude.{◌≡◌, ℕ, suc, ◌+◌, Bool, true, false, cond, not, ◌&&◌, List, [], ◌∷◌, ◌++◌, length, replicate, Some, None, Decides, Option, nat_lt}
use Rattle.house.specs.House.{House, Spot, desk}
use Rattle.house.specs.Reading.{spot_of}
use Rattle.house.specs.declared.layout.Spot as code
use Rattle.walk.specs.Steps.{Within, landing}
use Rattle.walk.specs.Marking.{marked, has}
use Rattle.uses.specs.Layout.{held_in, uses_in}
use Rattle.uses.specs.Looking.{edge_by}
use Rattle.uses.specs.Uses.{Linked}

-- how many flags are not set
unfoldable pub unseen : List Bool → ℕ
unseen [] = 0
unseen (true ∷ flags) = unseen flags
unseen (false ∷ flags) = suc (unseen flags)

-- what a flood has seen, and the spots that wait, in the order in which they were reached
pub record Flooding : Type 0 where
  pub seen : List Bool
  pub waiting : List code.Spot

-- the spots that wait or are not seen yet
abbrev pub left : Flooding → ℕ
left f = length f.waiting + unseen f.seen

-- a spot as the code has it
abbrev pub code_of : Spot → code.Spot
code_of s = record { aisle = s.aisle; depth = s.depth }

-- one spot more waits
abbrev pub waits_too : Flooding → code.Spot → Flooding
waits_too f t = record { seen = f.seen; waiting = f.waiting ++ t ∷ [] }

-- a spot that is reached along something in use is marked and waits, unless it was seen before
abbrev pub offered : ℕ → code.Spot → Flooding → Flooding
offered n t f =
    cond (nat_lt 0 n && not (has f.seen (spot_of t))) (record { seen = marked f.seen (spot_of t); waiting = f.waiting ++ t ∷ [] }) f

-- a look in the direction of one step
unfoldable pub tried : House → List ℕ → Spot → ℕ → Flooding → Flooding
tried h us s b f = elim (landing h s b) [ Some t ↦ offered (held_in h us (edge_by h s b)) (code_of t) f | None ↦ f ]

-- a look in all six directions
abbrev pub spread : House → List ℕ → Spot → Flooding → Flooding
spread h us s f = tried h us s 5 (tried h us s 4 (tried h us s 3 (tried h us s 2 (tried h us s 1 (tried h us s 0 f)))))

-- the spot that waits last, taken off, if one waits
abbrev pub Pops : Flooding → Flooding → Option code.Spot → Type 0
Pops f g None = (f.waiting ≡ []) × (g ≡ f)
Pops f g (Some s) = f ≡ waits_too g s

-- no spot seen yet
abbrev pub dry : Flooding
dry = record { seen = replicate 12864 false; waiting = [] }

-- the flags tell which spots of the house are linked with the desk
abbrev pub TellsLinked : House → List ℕ → List Bool → Type 0
TellsLinked h us seen = (s : Spot) → Within h s → Decides (has seen s) (Linked h (uses_in h us) desk s)
