use Rattle.std.proofs.Common.{◌≡◌, true, false, ltb, sym, ◌∙◌, subst, rules}
use Rattle.std.proofs.lemmas.Iterator.{cases_from_all}
use Rattle.std.proofs.lemmas.Iterator.Adapters.{serves_from_places}
use Rattle.std.proofs.lemmas.List.{get_or_default}
use Rattle.house.specs.Bounds.{picks_of}
use Rattle.house.specs.House.{Spot, desk}
use Rattle.house.specs.Reading.{house_of, spot_of}
use Rattle.walk.specs.Steps.{Within}
use Rattle.uses.specs.Edges.{degree}
use Rattle.uses.specs.Layout.{held_in}
use Rattle.uses.proofs.Rounded.{picks_inside}
use Rattle.euler.proofs.Touched.{road, touches_tells}
use Rattle.euler.proofs.touching.touches_all.Goals as goal

pub all-requires-clause-callable : goal.all-requires-clause-callable
all-requires-clause-callable c =
    let uses = c.args.uses in
    let picks = c.args.picks in
    let inside = picks_inside uses.house picks.house picks.bytes.now c.requires picks.in_aisles picks.on_shelves in
    serves_from_places (road c.iter.result c.iter.ensures) (λ x q k. search rules)
    (λ x k l is.
    let there : Within (house_of uses.house) (spot_of x) =
    subst (Within (house_of uses.house)) (get_or_default (picks_of picks.bytes.now) k desk (spot_of x) l ∙ sym is) (inside k l) in
    search rules)

pub returns : goal.returns
returns c =
    let uses = c.args.uses in
    let h = house_of uses.house in
    touches_tells h uses.entries.now (picks_of c.args.picks.bytes.now) c.all.result
    (cases_from_all c.all.new.self _ c.all.result (λ (s : Spot). true ≡ ltb 0 (degree h (held_in h uses.entries.now) s)) (λ (s : Spot). false ≡ ltb 0 (degree h (held_in h uses.entries.now) s))
    c.all.ensures.ran (road c.iter.result c.iter.ensures) (λ x q k. search rules) (λ x q k. search rules))
