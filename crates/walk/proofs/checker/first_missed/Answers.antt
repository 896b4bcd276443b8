use Rattle.std.proofs.Common.{rules, tests, sym, ap}
use Rattle.house.specs.Bounds.{picks_of}
use Rattle.house.proofs.Searching.{first_found}
use Rattle.walk.specs.Marking.{unmarked}
use Rattle.walk.proofs.checker.first_missed.Goals as goal

pub returns : goal.returns
returns c =
    sym (first_found (unmarked c.args.marks.now.flags) c.iter.result c.position.new.self _ (picks_of c.args.picks.bytes.now) (ap picks_of c.iter.ensures) c.position.ensures.ran (λ x b q k. search (rules, tests)))
