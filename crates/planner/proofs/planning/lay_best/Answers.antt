use Rattle.house.specs.Bounds.{picks_of}
use Rattle.house.specs.Reading.{house_of}
use Rattle.partial.specs.Table.{tables}
use Rattle.planner.proofs.Routes.{is_chosen, facts}
use Rattle.planner.proofs.planning.lay_best.Goals as goal

pub unwrap-numbers-requires : goal.unwrap-numbers-requires
unwrap-numbers-requires c = is_chosen _ _ (tables c.args.lengths.now c.args.came.now) _ _ c.requires.tables.0 c.requires.tables.1 c.best_numbers.ensures

pub returns : goal.returns
returns c =
    let f = facts (house_of c.args.list.house) (picks_of c.args.list.bytes.now) _ _ _ _ _ _ _ _ c.unwrap-numbers.result c.unwrap-n.result _ _ c.sort_picks.ensures
    c.unwrap-n.ensures c.best_numbers.ensures c.unwrap-numbers.ensures c.lay.ensures in
    record { sorted = f.holds; laid = f.laid }
