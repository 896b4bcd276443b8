use Rattle.std.proofs.Common.{◌-◌, arith}
use native.Mathlib.Decide.{dec_lt}
use Rattle.euler.proofs.Lanes.{first_used, length_part}
use Rattle.euler.proofs.stretch.blocks_last.Goals as goal

pub loop-end-preserved : goal.loop-end-preserved
loop-end-preserved c =
    let left = c.args.left.now in
    let end = c.loop-end.end in
    let length = length_part left (end - 8) end 8 (omega arith) in (
      omega arith,
      λ k i l.
          elim (dec_lt k end) [
            | yes m ↦
                first_used left (end - 8) end 8 (omega arith) (omega (arith, length)) (λ j m. c.all_used.ensures c.if-all_used.true j (omega (arith, length))) k i (omega arith)
            | no m ↦ c.loop-end.invariant.1 k (omega arith) l
          ],
    )
