use Rattle.std.proofs.Common.{ℕ, ◌-◌, ◌<◌, ◌≤◌, length, get_or}
use Rattle.euler.proofs.stretch.blocks_first.Given as goal

abbrev pub invariant-loop-long : goal.invariant-loop-long
invariant-loop-long l = (l.long ≤ length l.left) × ((k : ℕ) → k < l.long → 0 < get_or l.left k 0)

abbrev pub decreases-loop-long : goal.decreases-loop-long
decreases-loop-long l = length l.left - l.long
