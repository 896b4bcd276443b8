use Rattle.std.proofs.Common.{false, List, length, replicate, ap, arith}
use Rattle.std.proofs.lemmas.List.{length-replicate}
use Rattle.house.specs.declared.layout.Spot as code
use Rattle.uses.specs.Flood.{Flooding}
use Rattle.uses.proofs.Unseen.{unseen_most}
use Rattle.uses.proofs.flood.Flood.new.Goals as goal

pub invariant_of-result : goal.invariant_of-result
invariant_of-result c = omega (arith, unseen_most (replicate 12864 false), length-replicate 12864 false, ap length c.new.ensures)

pub returns : goal.returns
returns c = ap (λ (w : List code.Spot). let f : Flooding = record { seen = replicate 12864 false; waiting = w } in f) c.new.ensures
