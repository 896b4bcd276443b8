use Rattle.std.proofs.Common.{◌≡◌, ◌*◌, ◌≤◌, take}
use Rattle.std.specs.List.{sum_by}
use Rattle.house.specs.Reading.{house_of, spot_of}
use Rattle.walk.specs.Codes.{byte_of}
use Rattle.walk.specs.declared.step.Step.{Step}
use Rattle.uses.specs.Rounding.{used_at}
use Rattle.uses.proofs.crossing.Crossing.meeting.Given as goal

abbrev pub invariant-loop-step : goal.invariant-loop-step
invariant-loop-step l =
    (l.uses ≡ sum_by (λ (s : Step). used_at (house_of l.self.house) l.self.entries.now (spot_of l.self.at) (byte_of s)) (take l.step-index l.step-items))
    × (l.uses ≤ 255 * l.step-index)
