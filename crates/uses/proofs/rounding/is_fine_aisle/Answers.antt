use Rattle.std.proofs.Common.{ℕ, ◌+◌, refl, arith, rules}
use Rattle.std.proofs.lemmas.Iterator.{YieldsList-from_range}
use Rattle.std.proofs.lemmas.Iterator.Search.{all_from_yields_List}
use Rattle.house.specs.House.{spot}
use Rattle.house.specs.Reading.{house_of}
use Rattle.uses.specs.Rounding.{fine}
use Rattle.uses.proofs.rounding.is_fine_aisle.Goals as goal

pub returns : goal.returns
returns c =
    let uses = c.args.uses in
    let n = uses.house.deep + 1 in
    all_from_yields_List (λ (y : ℕ). fine (house_of uses.house) uses.entries.now c.args.flood.now.seen (spot c.args.aisle y)) _ _ _ c.all.ensures.ran
    (YieldsList-from_range 0 n n refl (omega arith)) (λ y b q k. search rules)
