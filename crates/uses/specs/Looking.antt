-- The edge that a step goes along, by the byte of the step; and what is seen from a spot in its direction.
-- Assumes nothing: these are definitions.
use Rattle.std.specs.Prelude.{◌≡◌, ℕ, ◌-◌, ◌<◌, cond, Some, None, Ok, Err, Option, Result, ◌==◌}
use Rattle.house.specs.House.{House, Spot}
use Rattle.house.specs.Reading.{spot_of}
use Rattle.house.specs.declared.layout.Spot as code
use Rattle.house.specs.declared.refusal.Refusal.{Refusal}
use Rattle.house.specs.declared.refusal.Refusal.TheVariants.{LeadsOut}
use Rattle.walk.specs.Steps.{Within, landing}
use Rattle.uses.specs.Edges.{Edge, lane, front, back}
use Rattle.uses.specs.Layout.{place, places}

-- a byte above 5 leads nowhere
abbrev pub edge_by : House → Spot → ℕ → Edge
edge_by h s b =
    cond (b == 0) (lane s.aisle s.depth)
    (cond (b == 1) (lane s.aisle (s.depth - 1))
    (cond (b == 2) (front s.aisle)
    (cond (b == 3) (front (s.aisle - 1))
    (cond (b == 4) (back s.aisle) (back (s.aisle - 1))))))

-- a step from s leads to t, along the edge that has this place
pub record Sees (h : House) (s : Spot) (b entry : ℕ) (t : Spot) : Type 0 where
  pub leads : landing h s b ≡ Some t
  pub entry_is : entry ≡ place h (edge_by h s b)
  pub stays : Within h s → (entry < places h) × Within h t

-- what is seen from a spot in the direction of a step
abbrev pub Looks : House → Spot → ℕ → Option (ℕ × code.Spot) → Type 0
Looks h s b None = landing h s b ≡ None
Looks h s b (Some p) = Sees h s b p.0 (spot_of p.1)

-- the i-th step of a way, or its refusal where it leads out
abbrev pub TakesStep : House → Spot → ℕ → ℕ → Result (ℕ × code.Spot) Refusal → Type 0
TakesStep h s b i (Ok p) = Sees h s b p.0 (spot_of p.1)
TakesStep h s b i (Err e) = (landing h s b ≡ None) × (LeadsOut i ≡ e)
