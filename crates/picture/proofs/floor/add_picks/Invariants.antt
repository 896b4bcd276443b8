use Rattle.std.proofs.Common.{◌≡◌, ◌++◌, string_bytes}
use Rattle.picture.specs.Floor.{pick_lines}
use Rattle.picture.proofs.floor.add_picks.Given as goal

-- the lines so far, and those of the picks that are left
abbrev pub invariant-loop-pick : goal.invariant-loop-pick
invariant-loop-pick l = string_bytes l.text ++ pick_lines l.pick-iterator.bytes.now ≡ string_bytes l.initial.text ++ pick_lines l.list
