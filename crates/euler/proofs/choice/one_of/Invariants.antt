use Rattle.std.proofs.Common.{ℕ, ◌<◌, get_or}
use Rattle.house.specs.Reading.{house_of, spot_of}
use Rattle.walk.specs.declared.step.Step.{Step}
use Rattle.euler.proofs.Finding.{Closed}
use Rattle.euler.proofs.choice.one_of.Given as goal

abbrev pub invariant-loop-step : goal.invariant-loop-step
invariant-loop-step l =
    (k : ℕ) (d : Step) → k < l.step-index → Closed (house_of l.from.house) l.from.entries.now (spot_of l.from.at) (get_or l.steps k d)
