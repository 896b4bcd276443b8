use Rattle.std.proofs.Common.{arith}
use Rattle.house.specs.Reading.{house_of}
use Rattle.euler.proofs.Total.{counted_both, walk_refused, walk_allowed, room_kept}
use Rattle.euler.proofs.room.measure.Goals as goal

pub returns-in_default-steps : goal.returns-in_default-steps
returns-in_default-steps c =
    let made = c.in_ok-uses.ensures in
    let count = (counted_both c.in_ok-uses.uses made.0 made.1 c.in_aisles-in_aisles.ensures.is c.in_passages-in_passages.ensures.is).0 in
    walk_refused (house_of c.args.house) c.args.uses.now c.args.room (omega arith) made.2 (omega (arith, count))

pub returns : goal.returns
returns c =
    let made = c.in_ok-uses.ensures in
    let both = counted_both c.in_ok-uses.uses made.0 made.1 c.in_aisles-in_aisles.ensures.is c.in_passages-in_passages.ensures.is in (
      record {
        number = both.0;
        costs = both.1;
        room = room_kept (house_of c.args.house) c.args.uses.now c.args.room (omega arith) made.2;
        fits = omega arith;
      },
      walk_allowed (house_of c.args.house) c.args.uses.now c.args.room (omega arith) made.2 (omega (arith, both.0)),
      omega arith,
    )
