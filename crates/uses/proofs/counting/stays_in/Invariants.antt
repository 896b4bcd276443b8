use Rattle.house.specs.Reading.{house_of, spot_of}
use Rattle.uses.proofs.Tally.{Reach}
use Rattle.uses.proofs.counting.stays_in.Given as goal

abbrev pub invariant-loop-i : goal.invariant-loop-i
invariant-loop-i l = Reach (house_of l.house) l.way l.i (spot_of l.at)
