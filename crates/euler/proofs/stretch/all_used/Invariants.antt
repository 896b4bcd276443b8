use Rattle.std.proofs.Common.{◌≡◌, ℕ, ◌<◌, true, get_or}
use Rattle.euler.proofs.stretch.all_used.Given as goal

abbrev pub invariant-loop-uses : goal.invariant-loop-uses
invariant-loop-uses l = l.all ≡ true → (k : ℕ) → k < l.uses-index → 0 < get_or l.block k 0
