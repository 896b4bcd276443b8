use Rattle.std.proofs.Common.{◌≤◌, length, arith, rules}
use Rattle.house.specs.Reading.{house_of}
use Rattle.uses.specs.Layout.{places}
use Rattle.uses.proofs.Places.{places_few}
use Rattle.planner.proofs.LayTurn.{lay_none, lay_turn}
use Rattle.partial.proofs.Parted.{part_within}
use Rattle.planner.proofs.lay.lay.Goals as goal

pub loop-aisle-init : goal.loop-aisle-init
loop-aisle-init c = lay_none (house_of c.args.house) c.args.numbers c.args.picks.now c.args.uses.now (omega arith)

pub slice_bounds-lay_aisle-end : goal.slice_bounds-lay_aisle-end
slice_bounds-lay_aisle-end c =
    let within : c.part_end-to.result ≤ length c.args.picks.now
    = part_within c.loop-aisle.aisle c.args.picks.now c.loop-aisle.from c.part_end-to.result c.part_end-to.ensures c.loop-aisle.invariant.0 in
    search rules

pub loop-aisle-preserved : goal.loop-aisle-preserved
loop-aisle-preserved c =
    let room : places (house_of c.args.house) ≤ length c.loop-aisle.uses
    = omega (arith, places_few (house_of c.args.house) c.args.house.few_aisles c.args.house.little_depth) in
    lay_turn (house_of c.args.house) c.args.numbers c.args.picks.now c.args.uses.now c.loop-aisle.from c.part_end-to.result c.loop-aisle.aisle
    c.loop-aisle.uses c.lay_aisle.new.uses c.from-choice.result (omega arith) room c.part_end-to.ensures c.from-choice.ensures c.lay_aisle.ensures c.loop-aisle.invariant
