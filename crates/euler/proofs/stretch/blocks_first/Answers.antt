use Rattle.std.proofs.Common.{◌+◌, arith}
use native.Mathlib.Decide.{dec_lt}
use Rattle.euler.proofs.Lanes.{first_used, length_part}
use Rattle.euler.proofs.stretch.blocks_first.Goals as goal

pub loop-long-preserved : goal.loop-long-preserved
loop-long-preserved c =
    let left = c.args.left.now in
    let long = c.loop-long.long in
    let length = length_part left long (long + 8) 8 (omega arith) in (
      omega arith,
      λ k l.
          elim (dec_lt k long) [
            | yes m ↦ c.loop-long.invariant.1 k m
            | no m ↦
                first_used left long (long + 8) 8 (omega arith) (omega (arith, length)) (λ j i. c.all_used.ensures c.if-all_used.true j (omega (arith, length))) k (omega arith) l
          ],
    )
