use Rattle.house.specs.Reading.{house_of, spot_of}
use Rattle.uses.proofs.Tally.{Tally}
use Rattle.uses.proofs.counting.tally.Given as goal

abbrev pub invariant-loop-i : goal.invariant-loop-i
invariant-loop-i l = Tally (house_of l.house) l.way l.counts l.i (spot_of l.at)
