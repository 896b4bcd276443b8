-- What the code's values stand for. Assumes nothing: these are definitions.
use Rattle.std.specs.Prelude.{ℕ, ◌-◌, ◌*◌, min, List, map}
use Rattle.house.specs.House as house
use Rattle.house.specs.Reading.{spot_of}
use Rattle.house.specs.declared.layout.Spot.{Spot}
use Rattle.aisle.specs.Costs as ideal
use Rattle.aisle.specs.Reach as reach
use Rattle.aisle.specs.declared.kinds.Gap.{Gap}
use Rattle.aisle.specs.declared.kinds.AisleUse.{AisleUse}
use Rattle.aisle.specs.declared.kinds.AisleUse.TheVariants.{Once, Twice, Leaving}
use Rattle.aisle.specs.declared.kinds.Effect.{Effect}
use Rattle.aisle.specs.declared.kinds.Effect.TheVariants.{Nothing, FromFront, FromBack, BothEnds, ThroughOnce, ThroughTwice}
use Rattle.aisle.specs.declared.reach.Reach.{Reach}

abbrev pub spots_of : List Spot → List house.Spot
spots_of ss = map spot_of ss

abbrev pub gap_of : Gap → ℕ × ℕ
gap_of g = (g.lo, g.hi)

abbrev pub use_of : AisleUse → ideal.Use
use_of Once = ideal.once
use_of Twice = ideal.twice
use_of (Leaving gap) = ideal.leaving gap.lo gap.hi

abbrev pub effect_of : Effect → ideal.Effect
effect_of Nothing = ideal.nothing
effect_of FromFront = ideal.from_front
effect_of FromBack = ideal.from_back
effect_of BothEnds = ideal.both_ends
effect_of ThroughOnce = ideal.through_once
effect_of ThroughTwice = ideal.through_twice

abbrev pub reach_of : Reach → reach.Reach
reach_of r = record { first = r.first; last = r.last; gap = gap_of r.gap }

-- the cost of a use by the steps that it leaves out
abbrev pub total_of : ℕ → ideal.Use → ℕ
total_of deep ideal.once = deep
total_of deep ideal.twice = 2 * deep
total_of deep (ideal.leaving lo hi) = 2 * (deep - (min deep hi - min deep lo))
