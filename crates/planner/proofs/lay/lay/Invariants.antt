use Rattle.std.proofs.Common.{◌≡◌, ◌≤◌, length, drop}
use Rattle.house.specs.Reading.{house_of}
use Rattle.aisle.specs.Values.{spots_of}
use Rattle.planner.specs.Laying.{Laid, at, part_at, picks_from}
use Rattle.planner.proofs.lay.lay.Given as goal

-- the aisles before are laid down, and the picks that are left are those of the others
abbrev pub invariant-loop-aisle : goal.invariant-loop-aisle
invariant-loop-aisle l =
    (l.from ≤ length l.picks) × (spots_of (drop l.from l.picks) ≡ picks_from (spots_of l.picks) l.aisle)
    × Laid (house_of l.house) (at l.numbers) (part_at (spots_of l.picks)) l.aisle l.initial.uses l.uses
