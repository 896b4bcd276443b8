use Rattle.std.proofs.Common.{◌≡◌, ℕ, ◌+◌, ◌-◌, ◌<◌, get_or, refl, ap, arith}
use Rattle.house.specs.House.{spot}
use Rattle.house.specs.Reading.{house_of}
use Rattle.euler.proofs.Lanes.{lane_fits, leads_deeper, first_used, first_some}
use Rattle.euler.proofs.stretch.deeper.Goals as goal

pub returns : goal.returns
returns c =
    let h = house_of c.args.from.house in
    let left = c.args.from.entries.now in
    let a = c.args.from.at.aisle in
    let y = c.args.from.at.depth in
    let start = c.lane-start.result in
    let end = start + c.min-most.result in
    let long = c.used_first-long.result in
    let last = lane_fits h a h.deep c.args.from.inside.aisle_in (omega arith) (omega arith) in
    let there : 0 < get_or left start 0 = omega (arith, ap (λ (k : ℕ). get_or left k 0) c.lane-start.ensures, c.requires.used) in
    let zero : y + 0 ≡ y = omega arith in
    record {
      spots = λ i. spot a (y + i);
      entry = λ i. start + i;
      some = first_some left start end long (omega (arith, last)) (omega arith) there c.used_first-long.ensures.stops;
      short = omega arith;
      leads =
          leads_deeper h a y start long c.lane-start.ensures (omega arith) (omega arith)
          (first_used left start end long (omega (arith, last)) c.used_first-long.ensures.within c.used_first-long.ensures.used);
      from = λ i. spot a (zero i);
      to = refl;
      fits = omega (arith, last);
      inside = λ i l. (omega arith, omega arith);
      covers = λ k i l. (k - start, omega arith, omega arith);
    }
