use Rattle.std.proofs.Common.{sym, ap, rules, tests}
use Rattle.house.specs.Bounds.{picks_of}
use Rattle.house.specs.Rules.{absent}
use Rattle.house.proofs.Searching.{first_found}
use Rattle.house.proofs.first.first_absent.Goals as goal

pub returns : goal.returns
returns c =
    sym
    (first_found (absent c.args.aisles) c.picks_in.result c.position.new.self _ (picks_of c.args.list.now) (ap picks_of c.picks_in.ensures.bytes) c.position.ensures.ran
    (λ x b q k. search (rules, tests)))
