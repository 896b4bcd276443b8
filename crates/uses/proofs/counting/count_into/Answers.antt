use Rattle.std.proofs.Common.{refl, arith}
use Rattle.house.specs.Reading.{house_of}
use Rattle.uses.proofs.Copied.{counted_over}
use Rattle.uses.proofs.Places.{places_few}
use Rattle.uses.proofs.counting.count_into.Goals as goal

pub returns : goal.returns
returns c = (c.requires, counted_over _ c.tally.new.counts _ c.places-n.ensures.is refl c.in_ok-tally.ensures (omega (arith, places_few (house_of c.args.house) (omega arith) (omega arith))) c.copy_from_slice.ensures.after)
