use Rattle.aisle.specs.Values.{effect_of}
use Rattle.classes.specs.Values.{class_of, passage_of}
use Rattle.partial.specs.Prices.{priced}
use Rattle.partial.specs.Table.{go}
use Rattle.partial.proofs.Changes.{SoFar}
use Rattle.partial.proofs.Values.{all_effects}
use Rattle.partial.proofs.table.Tables.extend.Given as goal

-- the effects so far are offered
abbrev pub invariant-loop-effect : goal.invariant-loop-effect
invariant-loop-effect l =
    SoFar (λ t e. go l.stage.apart (priced l.stage.prices) l.stage.aisle (class_of l.class) (passage_of l.passage) (effect_of e) t) all_effects l.initial.self l.effect-index l.self
