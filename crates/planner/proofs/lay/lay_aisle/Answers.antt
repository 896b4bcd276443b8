use Rattle.std.proofs.Common.{◌≡◌, ℕ, ◌*◌, subst, arith}
use Rattle.std.specs.Option.{option_map}
use Rattle.house.specs.Reading.{house_of}
use Rattle.aisle.specs.Values.{use_of}
use Rattle.uses.proofs.Places.{lanes_few}
use Rattle.planner.specs.Laying.{Painted}
use Rattle.planner.proofs.LaidOut.{aisle_end}
use Rattle.planner.proofs.LayTurn.{adds_choice}
use Rattle.planner.proofs.lay.lay_aisle.Goals as goal

pub paint-requires : goal.paint-requires
paint-requires c =
    omega (
      arith,
      aisle_end (house_of c.args.house) c.args.aisle c.args.house.aisles c.requires.1,
      lanes_few (house_of c.args.house) c.args.house.few_aisles c.args.house.little_depth,
    )

pub returns : goal.returns
returns c =
    let begins : c.lane.result ≡ c.args.aisle * c.args.house.deep = omega (arith, c.lane.ensures) in
    adds_choice (house_of c.args.house) c.args.aisle c.args.choice _ _ c.args.uses.now c.paint.new.uses c.cross.new.uses c.paint.auto.uses
    (subst (λ (n : ℕ). Painted n c.args.house.deep (option_map use_of c.cheapest_past-way.result) c.args.uses.now c.paint.new.uses) begins
    (record { inside = c.paint.ensures.inside; outside = c.paint.ensures.outside }))
    c.cheapest_past-way.ensures.best c.cross.ensures
