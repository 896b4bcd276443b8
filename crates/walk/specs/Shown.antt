-- The lines that tell of a verdict and of a byte that is no step. Assumes nothing: these are definitions.
use Rattle.std.specs.Prelude.{ℕ, List, ◌++◌, codes, decimal}
use Rattle.walk.specs.declared.step.UnknownStep.{UnknownStep}
use Rattle.walk.specs.declared.verdict.Verdict.{Verdict}
use Rattle.walk.specs.declared.verdict.Verdict.TheVariants.{Way, EndsElsewhere, Misses}

abbrev pub verdict_line : Verdict → List ℕ
verdict_line (Way n) = codes "way of length " ++ decimal n
verdict_line EndsElsewhere = codes "ends elsewhere"
verdict_line (Misses p) = codes "misses " ++ decimal p

abbrev pub unknown_line : UnknownStep → List ℕ
unknown_line unknown = codes "no step has byte " ++ decimal unknown.0
