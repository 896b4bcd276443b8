use Rattle.std.proofs.Common.{arith}
use Rattle.house.specs.Reading.{house_of, spot_of}
use Rattle.euler.proofs.Finding.{all_shut, closed_more}
use Rattle.euler.proofs.choice.one_of.Goals as goal

pub loop-step-preserved : goal.loop-step-preserved
loop-step-preserved c =
    closed_more (house_of c.args.from.house) c.args.from.entries.now (spot_of c.args.from.at) c.args.steps.now c.loop-step.step-index _ c.loop-step-test.true
    c.loop-step.invariant c.in_default.ensures

pub returns : goal.returns
returns c =
    all_shut (house_of c.args.from.house) c.args.from.entries.now (spot_of c.args.from.at) c.args.steps.now (λ k d l. c.loop-step.invariant k d (omega arith))
