use Rattle.std.proofs.Common.{length, arith}
use native.Mathlib.Decide.{dec_lt}
use Rattle.euler.proofs.Lanes.{first_used}
use Rattle.euler.proofs.stretch.used_first.Goals as goal

pub returns-clause-used : goal.returns-clause-used
returns-clause-used c =
    let left = c.args.left.now in
    let blocks = c.blocks_first-blocks.result in
    λ k l.
    elim (dec_lt k blocks) [
      | yes m ↦ c.blocks_first-blocks.ensures.used k m
      | no m ↦ first_used left blocks (length left) c.each_first.result (omega arith) c.each_first.ensures.within c.each_first.ensures.used k (omega arith) l
    ]
