use Rattle.std.proofs.Common.{rules}
use Rattle.aisle.specs.Reach.{depths_of}
use Rattle.aisle.specs.Values.{effect_of, spots_of}
use Rattle.aisle.proofs.Passed.{found_best, found_least}
use Rattle.aisle.proofs.least.cheapest_past.Goals as goal

pub returns : goal.returns
returns c =
    let ds = depths_of (spots_of c.args.part.now) in
    let e = effect_of c.args.effect in
    record { best = search (rules, found_best c.args.deep ds e); least = search (rules, found_least c.args.deep ds e) }
