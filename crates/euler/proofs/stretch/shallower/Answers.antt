use Rattle.std.proofs.Common.{◌≡◌, ℕ, ◌-◌, ◌<◌, get_or, refl, ap, arith}
use Rattle.house.specs.House.{spot}
use Rattle.house.specs.Reading.{house_of}
use Rattle.euler.proofs.Lanes.{lane_fits, leads_shallower, last_used, last_some}
use Rattle.euler.proofs.stretch.shallower.Goals as goal

pub returns : goal.returns
returns c =
    let h = house_of c.args.from.house in
    let left = c.args.from.entries.now in
    let a = c.args.from.at.aisle in
    let y = c.args.from.at.depth in
    let end = c.lane-end.result in
    let start = end - c.min-most.result in
    let long = c.used_last-long.result in
    let last = lane_fits h a y c.args.from.inside.aisle_in c.args.from.inside.depth_in (omega arith) in
    let there : 0 < get_or left (end - 1) 0 = omega (arith, ap (λ (k : ℕ). get_or left (k - 1) 0) c.lane-end.ensures, c.requires.used) in
    let zero : y - 0 ≡ y = omega arith in
    record {
      spots = λ i. spot a (y - i);
      entry = λ i. end - 1 - i;
      some = last_some left start end long (omega (arith, last)) (omega arith) there c.used_last-long.ensures.stops;
      short = omega arith;
      leads =
          leads_shallower h a y end long c.lane-end.ensures (omega arith) (omega arith) (omega arith)
          (last_used left start end long (omega (arith, last)) c.used_last-long.ensures.within c.used_last-long.ensures.used);
      from = λ i. spot a (zero i);
      to = refl;
      fits = omega (arith, last);
      inside = λ i l. (omega arith, omega arith);
      covers = λ k i l. (end - 1 - k, omega arith, omega arith);
    }
