use Rattle.std.proofs.Common.{drop, refl, arith}
use Rattle.euler.proofs.Settling.{closes_copied, kept_behind, copied_back}
use Rattle.euler.proofs.copies.settle.Goals as goal

pub returns-then-not-trace : goal.returns-then-not-trace
returns-then-not-trace c =
    let n = c.places-places.result in (
      refl,
      c.if-not-trace.ensures.decides,
      copied_back c.args.uses.now c.trace.new.left n (drop n c.args.left.now) (omega arith) (omega arith)
          (λ k l. c.if-not-trace.ensures.beyond k (omega arith)) c.copy.ensures c.copy-then-not-trace.ensures,
      refl,
    )

pub returns : goal.returns
returns c =
    record {
      closes = closes_copied c.args.n c.trace.new.steps c.args.steps.now c.copy-2.ensures (omega arith) c.if-not-trace.ensures.decides;
      kept = kept_behind c.args.n c.trace.new.steps c.args.steps.now c.copy-2.ensures (omega arith);
      used_up = c.if-not-trace.ensures.used_up refl;
      beyond = c.if-not-trace.ensures.beyond;
    }
