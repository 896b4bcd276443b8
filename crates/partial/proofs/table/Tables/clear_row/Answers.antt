use Rattle.std.proofs.Common.{ℕ, refl, ap, add-zero, arith}
use Rattle.partial.specs.Lent.{held}
use Rattle.partial.specs.Table.{blanked, cleared}
use Rattle.partial.proofs.Changes.{one_more, all_done, same_change}
use Rattle.partial.proofs.table.Tables.clear_row.Goals as goal

pub loop-class-preserved : goal.loop-class-preserved
unfolding blanked
loop-class-preserved c =
    one_more _ _ c.args.self.now c.loop-class.class-index _ (omega arith) c.loop-class.invariant
    (record { holds = ap (λ (i : ℕ). blanked i (held c.loop-class.self)) c.cell-at.ensures.place; same_lengths = refl; same_came = refl })

pub returns : goal.returns
unfolding cleared
returns c =
    same_change (rw add-zero refl) (all_done _ _ c.args.self.now c.loop-class.class-index (omega arith) c.loop-class.invariant)
