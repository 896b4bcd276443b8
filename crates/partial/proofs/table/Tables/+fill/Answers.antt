use Rattle.std.proofs.Common.{refl, ◌∙◌, arith}
use Rattle.house.specs.Reading.{house_of}
use Rattle.partial.proofs.Parted.{filled_none, filled_more, rest_spots}
use Rattle.partial.proofs.table.Tables.+fill.Goals as goal

pub returns-then-aisle-house : goal.returns-then-aisle-house
returns-then-aisle-house t c = record { holds = filled_none _ _ _ _ _ (omega arith); same_lengths = refl; same_came = refl }

pub returns : goal.returns
returns t c =
    record {
      holds =
          filled_more (house_of c.args.house) c.args.house.aisles c.args.aisle _ _ _ _ _ _ (omega arith) c.part-next.ensures.costs
          (rest_spots c.args.aisle c.args.picks.now c.args.from _ c.part-next.ensures.end) c.fill_row.ensures.holds c.fill.ensures.holds;
      same_lengths = c.fill.ensures.same_lengths ∙ c.fill_row.ensures.same_lengths;
      same_came = c.fill.ensures.same_came ∙ c.fill_row.ensures.same_came;
    }
