use Rattle.std.proofs.Common.{sym, subst, refl, rules, tests}
use Rattle.std.proofs.lemmas.Fn.{fold_over, fronts}
use Rattle.std.proofs.lemmas.Iterator.{YieldsList-from_slice}
use Rattle.classes.specs.Values.{class_of}
use Rattle.partial.specs.Ending.{Ends}
use Rattle.partial.proofs.Endings.{whole_tours, Best, shortest_more, shortest_of_all, ending_ends}
use Rattle.partial.proofs.ending.ending.Goals as goal

pub returns : goal.returns
returns c =
    let taken =
    shortest_of_all c.args.lengths.now c.args.aisle _
    (fold_over fronts (λ y. y.now) _ (Best c.args.lengths.now c.args.aisle) _
    (λ ds d x r f j k. (shortest_more c.args.lengths.now c.args.aisle ds x.now (class_of d) (class_of r) j (search (rules, tests)), search (rules, tests))) c.iter.result whole_tours _ _
    (YieldsList-from_slice {s = c.iter.result} whole_tours cc).runs refl c.fold.ensures.ran) in
    record { ends = subst (Ends c.args.lengths.now c.args.aisle) (sym taken) (ending_ends c.args.lengths.now c.args.aisle); chosen = taken }
