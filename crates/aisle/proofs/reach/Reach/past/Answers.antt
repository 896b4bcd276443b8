use Rattle.std.proofs.Common.{rules, tests}
use Rattle.std.proofs.lemmas.Iterator.{YieldsList-from_slice}
use Rattle.std.proofs.lemmas.Iterator.Consumers.{fold_from_yields_List}
use Rattle.aisle.proofs.Passed.{stepped, stepped_is, passed}
use Rattle.aisle.proofs.reach.Reach.past.Goals as goal

pub returns : goal.returns
returns c =
    passed c.args.self c.fold.result c.args.rest.now
    (fold_from_yields_List _ stepped _ _ c.fold.ensures.ran (YieldsList-from_slice c.args.rest.now cc) (λ r s q f k. (search (rules, tests), stepped_is r q s.now (search (rules, tests)))))
