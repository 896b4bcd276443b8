use Rattle.uses.proofs.Rounded.{house_decides, picks_inside, picks_decide, spots_decide}
use Rattle.uses.proofs.rounding.are_fine.Goals as goal

pub returns-then-is_fine_house : goal.returns-then-is_fine_house
returns-then-is_fine_house c =
    let picks = c.args.picks in
    picks_decide _ _ _ _ c.requires.linked (picks_inside _ _ picks.bytes.now c.requires.same picks.in_aisles picks.on_shelves)
    ((house_decides _ _ _ c.is_fine_house.ensures).0 c.if-is_fine_house.true) c.are_seen.ensures

pub returns-else-is_fine_house : goal.returns-else-is_fine_house
returns-else-is_fine_house c =
    let picks = c.args.picks in
    spots_decide _ _ _ _ c.requires.linked (picks_inside _ _ picks.bytes.now c.requires.same picks.in_aisles picks.on_shelves)
    c.if-is_fine_house.false (house_decides _ _ _ c.is_fine_house.ensures)
