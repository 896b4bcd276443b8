use Rattle.std.proofs.Common.{arith}
use Rattle.planner.proofs.Paint.{painted_gap}
use Rattle.planner.proofs.lay.paint_gap.Goals as goal

pub returns : goal.returns
returns c =
    painted_gap c.args.gap.lo c.args.gap.hi c.min-lo.result c.saturating_sub.result (omega arith) (omega arith)
    (record { inside = c.fill_run.ensures.inside; outside = c.fill_run.ensures.outside })
    (record { inside = c.fill_run-2.ensures.inside; outside = c.fill_run-2.ensures.outside })
