use Rattle.std.proofs.Common.{slice_set, sym, refl, ◌∙◌}
use Rattle.partial.specs.Choice.{number_of}
use Rattle.partial.specs.Lent.{held}
use Rattle.partial.specs.Table.{tables}
use Rattle.partial.proofs.Offers.{offer_taken, offer_left}
use Rattle.partial.proofs.table.Tables.offer.Goals as goal

pub returns-then-total-self : goal.returns-then-total-self
returns-then-total-self c =
    record {
      holds =
          (λ i. tables (slice_set c.args.self.now.lengths.now c.args.at c.args.total) (slice_set c.args.self.now.came.now c.args.at (c.into.ensures i)))
          ∙ sym (offer_taken c.args.at c.args.total (number_of c.args.choice) (held c.args.self.now) c.if-total-self.true);
      same_lengths = refl;
      same_came = refl;
    }

pub returns-else-total-self : goal.returns-else-total-self
returns-else-total-self c =
    record {
      holds = sym (offer_left c.args.at c.args.total (number_of c.args.choice) (held c.args.self.now) c.if-total-self.false);
      same_lengths = refl;
      same_came = refl;
    }
