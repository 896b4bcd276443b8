use Rattle.std.proofs.Common.{◌≡◌, ℕ, ◌-◌, ◌<◌, ◌≤◌, get_or}
use Rattle.euler.proofs.run.wear.Given as goal

abbrev pub invariant-loop-uses : goal.invariant-loop-uses
invariant-loop-uses l =
    ((k : ℕ) → k < l.uses-index → get_or l.left k 0 ≡ get_or l.initial.left k 0 - 1)
    × ((k : ℕ) → l.uses-index ≤ k → get_or l.left k 0 ≡ get_or l.initial.left k 0)
