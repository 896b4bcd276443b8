use Rattle.std.proofs.Common.{rules}
use Rattle.house.specs.Reading.{house_of}
use Rattle.aisle.specs.Values.{spots_of}
use Rattle.partial.specs.Table.{tables}
use Rattle.partial.proofs.ReadBack.{chosen_read}
use Rattle.partial.proofs.choosing.best_choices.Goals as goal

pub returns : goal.returns
returns c = (
  c.in_ok-numbers.ensures.0,
  chosen_read (house_of c.args.house) (spots_of c.args.picks.now) (tables c.args.lengths.now c.args.came.now) (tables c.best_numbers.new.lengths c.best_numbers.new.came)
      c.in_ok-numbers.numbers c.in_ok-numbers.ensures.1 c.map.result (search rules) c.map.ensures.items.long
      (λ a d l. let call = c.map.ensures.items.at a 0 d l in search rules),
)
