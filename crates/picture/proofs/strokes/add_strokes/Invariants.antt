use Rattle.std.proofs.Common.{◌≡◌, ◌++◌, drop, None, string_bytes}
use Rattle.house.specs.House.{desk}
use Rattle.house.specs.Reading.{house_of, spot_of}
use Rattle.picture.specs.Strokes.{last_of, strokes}
use Rattle.picture.proofs.strokes.add_strokes.Given as goal

-- the lines so far, and those of the way that is left
abbrev pub invariant-loop-byte : goal.invariant-loop-byte
invariant-loop-byte l =
    string_bytes l.text ++ strokes (house_of l.house) (spot_of l.pen.at) (last_of l.pen.last) (drop l.byte-index l.way)
    ≡ string_bytes l.initial.text ++ strokes (house_of l.house) desk None l.way
