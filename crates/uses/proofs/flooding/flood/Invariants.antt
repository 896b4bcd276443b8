use Rattle.house.specs.Reading.{house_of}
use Rattle.uses.specs.Flood.{left}
use Rattle.uses.proofs.FloodEnd.{Flooded}
use Rattle.uses.proofs.flooding.flood.Given as goal

abbrev pub invariant-loop-at : goal.invariant-loop-at
invariant-loop-at l = Flooded (house_of l.uses.house) l.uses.entries.now l.flood

abbrev pub decreases-loop-at : goal.decreases-loop-at
decreases-loop-at l = left l.flood
