use Rattle.std.proofs.Common.{sym, ◌∙◌, inl, inr, arith}
use Rattle.euler.proofs.Turns.{passing_none, passing_ran, passing_off, passing_fails, passing_empties, passing_ends}
use Rattle.euler.proofs.tracing.trace.Goals as goal
use Rattle.euler.proofs.tracing.trace.Goals.{else-pass-gt0-via-then-pass-gt0+else-eq, else-pass-gt0-via-else-pass-gt0}

pub loop-pass-init : goal.loop-pass-init
loop-pass-init c = passing_none _ _ _ _ (omega arith) c.requires.total c.begin-pass.ensures

pub loop-pass-preserved-in-Some : goal.loop-pass-preserved-in-Some
loop-pass-preserved-in-Some c = passing_ran _ _ _ c.loop-pass.invariant c.run.ensures (omega arith) (omega arith)

pub loop-pass-preserved : goal.loop-pass-preserved
loop-pass-preserved c =
    passing_off _ _ _ c.loop-pass.invariant c.in_default.ensures (omega arith) (sym c.eq.ensures ∙ c.if-eq.true) (omega arith)
    c.retreat.ensures.written c.retreat.ensures.is c.retreat.ensures.from

pub returns-else-pass-gt0-clause-decides : goal.returns-else-pass-gt0-clause-decides
returns-else-pass-gt0-clause-decides c =
    passing_fails _ _ _ c.loop-pass.invariant c.in_default.ensures c.loop-pass-test.true
    (elim c.else-pass-gt0.branch [
      | else-pass-gt0-via-then-pass-gt0+else-eq w ↦ inr (sym w.eq.ensures ∙ w.if-eq.false)
      | else-pass-gt0-via-else-pass-gt0 w ↦ inl (omega arith)
    ])

pub returns-clause-decides : goal.returns-clause-decides
returns-clause-decides c = passing_ends _ _ _ c.loop-pass.invariant (omega arith) c.eq-2.ensures

pub returns-clause-used_up : goal.returns-clause-used_up
returns-clause-used_up c = λ yes. passing_empties _ _ _ c.loop-pass.invariant (omega arith)
