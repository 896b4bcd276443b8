use Rattle.std.proofs.Common.{refl, arith, rules}
use Rattle.std.proofs.lemmas.Iterator.{YieldsList-from_range}
use Rattle.std.proofs.lemmas.Iterator.Search.{all_from_yields_List}
use Rattle.house.specs.Reading.{house_of}
use Rattle.uses.specs.Rounding.{fine_aisle}
use Rattle.uses.proofs.rounding.is_fine_house.Goals as goal

pub returns : goal.returns
returns c =
    let uses = c.args.uses in
    all_from_yields_List (fine_aisle (house_of uses.house) uses.entries.now c.args.flood.now.seen) _ _ _ c.all.ensures.ran
    (YieldsList-from_range 0 uses.house.aisles uses.house.aisles refl (omega arith)) (λ a b q k. search rules)
