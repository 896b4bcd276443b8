-- Rows of step bytes as decisions on numbers: where a step leads from a spot, what it is long, and what a row of steps passes.
-- Assumes nothing: these are definitions, over houses of any size.
use Rattle.std.specs.Prelude.{◌≡◌, ℕ, ◌+◌, ◌-◌, ◌<◌, ◌≤◌, cond, ◌&&◌, ◌⊎◌, List, [], ◌∷◌, Some, None, Option, ◌==◌, nat_lt}
use Rattle.house.specs.House.{House, Spot, spot}

-- a spot of the house
pub record Within (h : House) (s : Spot) : Type 0 where
  pub aisle_in : s.aisle < h.aisles
  pub depth_in : s.depth ≤ h.deep

-- one step deeper in the aisle, or one towards the front way
abbrev pub deeper : House → Spot → Option Spot
deeper h s = cond (nat_lt s.depth h.deep) (Some (spot s.aisle (s.depth + 1))) None

abbrev pub shallower : Spot → Option Spot
shallower s = cond (nat_lt 0 s.depth) (Some (spot s.aisle (s.depth - 1))) None

-- along the way at depth y to the next aisle, or to the one before
abbrev pub to_next : House → Spot → ℕ → Option Spot
to_next h s y = cond (s.depth == y && nat_lt (s.aisle + 1) h.aisles) (Some (spot (s.aisle + 1) y)) None

abbrev pub to_former : Spot → ℕ → Option Spot
to_former s y = cond (s.depth == y && nat_lt 0 s.aisle) (Some (spot (s.aisle - 1) y)) None

-- the spot to which the step with this byte leads from a spot of the house, or None where it leads out
abbrev pub landing : House → Spot → ℕ → Option Spot
landing h s b =
    cond (b == 0) (deeper h s)
    (cond (b == 1) (shallower s)
    (cond (b == 2) (to_next h s 0)
    (cond (b == 3) (to_former s 0)
    (cond (b == 4) (to_next h s h.deep)
    (cond (b == 5) (to_former s h.deep) None)))))

-- the length of the step with this byte
abbrev pub worth : House → ℕ → ℕ
worth h b = cond (nat_lt b 2) 1 (cond (nat_lt b 6) h.apart 0)

-- where a row of steps leads from a spot, or None where one of them leads out
unfoldable pub follow : House → Spot → List ℕ → Option Spot
follow h s [] = Some s
follow h s (b ∷ bs) = elim (landing h s b) [ Some t ↦ follow h t bs | None ↦ None ]

-- the lengths of the steps of a row together
unfoldable pub measure : House → List ℕ → ℕ
measure h [] = 0
measure h (b ∷ bs) = worth h b + measure h bs

-- the spots that a row of steps reaches from a spot, one after each step, up to the first step that leads out
unfoldable pub reached : House → Spot → List ℕ → List Spot
reached h s [] = []
reached h s (b ∷ bs) = elim (landing h s b) [ Some t ↦ t ∷ reached h t bs | None ↦ [] ]

-- the spots that it passes: where it begins, and those that it reaches
abbrev pub trace : House → Spot → List ℕ → List Spot
trace h s bs = s ∷ reached h s bs

-- a spot is one of a list
abbrev pub Among : Spot → List Spot → Type 0
Among p [] = ⊥
Among p (q ∷ qs) = (q ≡ p) ⊎ Among p qs
