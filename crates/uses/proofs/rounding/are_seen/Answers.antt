use Rattle.std.proofs.Common.{rules}
use Rattle.std.proofs.lemmas.Iterator.Search.{all_from_yields_List}
use Rattle.house.specs.Bounds.{picks_of}
use Rattle.house.proofs.Searching.{picks_given}
use Rattle.walk.specs.Marking.{has}
use Rattle.uses.proofs.Rounded.{seen_decides}
use Rattle.uses.proofs.rounding.are_seen.Goals as goal

pub returns : goal.returns
returns c =
    let picks = picks_of c.args.picks.bytes.now in
    let seen = c.args.flood.now.seen in
    seen_decides picks seen
    (all_from_yields_List (has seen) c.all.new.self _ _ c.all.ensures.ran (picks_given _ picks (search rules)) (λ x b q k. search rules))
