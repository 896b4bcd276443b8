use Rattle.classes.specs.Values.{class_of}
use Rattle.partial.specs.Table.{blanked, cell}
use Rattle.partial.proofs.Changes.{SoFar}
use Rattle.partial.proofs.Values.{all_classes}
use Rattle.partial.proofs.table.Tables.clear_row.Given as goal

-- the cells so far are blank
abbrev pub invariant-loop-class : goal.invariant-loop-class
invariant-loop-class l = SoFar (λ t d. blanked (cell l.aisle (class_of d)) t) all_classes l.initial.self l.class-index l.self
