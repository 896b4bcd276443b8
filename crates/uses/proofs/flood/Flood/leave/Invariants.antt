use Rattle.std.proofs.Common.{◌≡◌, take}
use Rattle.std.specs.List.{fold}
use Rattle.house.specs.Reading.{house_of, spot_of}
use Rattle.walk.specs.Codes.{byte_of}
use Rattle.walk.specs.declared.step.Step.{Step}
use Rattle.uses.specs.Flood.{Flooding, tried}
use Rattle.uses.proofs.flood.Flood.leave.Given as goal

abbrev pub invariant-loop-step : goal.invariant-loop-step
invariant-loop-step l =
    l.self ≡ fold (λ (f : Flooding) (s : Step). tried (house_of l.from.house) l.from.entries.now (spot_of l.from.at) (byte_of s) f) l.initial.self (take l.step-index l.step-items)
