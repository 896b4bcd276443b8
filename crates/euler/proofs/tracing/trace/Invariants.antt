use Rattle.std.proofs.Common.{◌+◌, ◌-◌, ◌*◌}
use Rattle.house.specs.Reading.{house_of}
use Rattle.euler.proofs.Turns.{Passing}
use Rattle.euler.proofs.tracing.trace.Given as goal

abbrev pub invariant-loop-pass : goal.invariant-loop-pass
invariant-loop-pass l = Passing (house_of l.house) l.initial.left l.n l.left l.steps l.pass

-- a step on takes one place from between stack and tail, and a step back one from the stack
abbrev pub decreases-loop-pass : goal.decreases-loop-pass
decreases-loop-pass l = 2 * (l.pass.tail - l.pass.top) + l.pass.top
