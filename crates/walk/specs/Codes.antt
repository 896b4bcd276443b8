-- The byte of each step. Assumes nothing: these are definitions.
use Rattle.std.specs.Prelude.{◌≡◌, ℕ, ◌<◌, Result, MatchResult}
use Rattle.walk.specs.declared.step.Step.{Step}
use Rattle.walk.specs.declared.step.Step.TheVariants.{Deeper, Back, NextFront, BeforeFront, NextBack, BeforeBack}
use Rattle.walk.specs.declared.step.UnknownStep.{UnknownStep}

abbrev pub byte_of : Step → ℕ
byte_of Deeper = 0
byte_of Back = 1
byte_of NextFront = 2
byte_of BeforeFront = 3
byte_of NextBack = 4
byte_of BeforeBack = 5

-- the step whose byte it is, or an error with a byte that no step has
abbrev pub StepOf : ℕ → Result Step UnknownStep → Type 0
StepOf byte r = MatchResult r (λ step. byte_of step ≡ byte) (λ e. (e.0 ≡ byte) × (5 < byte))
