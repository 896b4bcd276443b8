use Rattle.house.specs.Reading.{house_of, spot_of}
use Rattle.walk.proofs.Trail.{Trail}
use Rattle.walk.proofs.checker.walk_over.Given as goal

abbrev pub invariant-loop-i : goal.invariant-loop-i
invariant-loop-i l = Trail (house_of l.house) l.way l.initial.marks.flags l.marks.flags l.i (spot_of l.at)
