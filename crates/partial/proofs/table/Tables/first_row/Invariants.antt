use Rattle.aisle.specs.Values.{effect_of}
use Rattle.partial.specs.Prices.{priced}
use Rattle.partial.specs.Table.{opened}
use Rattle.partial.proofs.Changes.{SoFar}
use Rattle.partial.proofs.Values.{all_effects}
use Rattle.partial.proofs.table.Tables.first_row.Given as goal

-- the effects so far are offered
abbrev pub invariant-loop-effect : goal.invariant-loop-effect
invariant-loop-effect l = SoFar (λ t e. opened (priced l.prices) (effect_of e) t) all_effects l.initial.self l.effect-index l.self
