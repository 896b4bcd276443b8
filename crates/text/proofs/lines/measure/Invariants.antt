use Rattle.std.proofs.Common.{◌≡◌, ◌+◌, length}
use Rattle.house.specs.Reading.{house_of}
use Rattle.walk.specs.Steps.{measure}
use Rattle.text.specs.Pieces.{pieces}
use Rattle.text.proofs.lines.measure.Given as goal

-- the length so far, and that of what is left
abbrev pub invariant-loop-piece : goal.invariant-loop-piece
invariant-loop-piece l = l.length + measure (house_of l.house) l.pieces.rest.now ≡ measure (house_of l.house) l.way

abbrev pub decreases-loop-piece : goal.decreases-loop-piece
decreases-loop-piece l = length (pieces l.pieces.rest.now)
