use Rattle.std.proofs.Common.{arith}
use Rattle.std.proofs.lemmas.List.{ext_get_or}
use Rattle.euler.proofs.copies.copy.Goals as goal

pub returns : goal.returns
returns c = ext_get_or 0 _ _ c.loop-i.invariant.0 (λ k l. c.loop-i.invariant.1 k (omega (arith, c.loop-i.invariant.0)))
