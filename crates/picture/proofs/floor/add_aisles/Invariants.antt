use Rattle.std.proofs.Common.{◌≡◌, ◌++◌, string_bytes}
use Rattle.house.specs.Reading.{house_of}
use Rattle.picture.specs.Floor.{aisle_lines}
use Rattle.picture.proofs.floor.add_aisles.Given as goal

abbrev pub invariant-loop-aisle : goal.invariant-loop-aisle
invariant-loop-aisle l = string_bytes l.text ≡ string_bytes l.initial.text ++ aisle_lines (house_of l.house) l.aisle
