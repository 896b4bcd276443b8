use Rattle.classes.specs.Values.{class_of, passage_of}
use Rattle.partial.specs.Prices.{priced}
use Rattle.partial.specs.Table.{extend}
use Rattle.partial.proofs.Changes.{SoFar}
use Rattle.partial.proofs.Values.{all_moves}
use Rattle.partial.proofs.table.Tables.next_row.Given as goal

-- the moves so far are offered
abbrev pub invariant-loop-class : goal.invariant-loop-class
invariant-loop-class l =
    SoFar (λ t m. extend l.stage.apart (priced l.stage.prices) l.stage.aisle (class_of m.0) (passage_of m.1) t) all_moves l.initial.self l.class-index l.self
