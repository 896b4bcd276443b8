use Rattle.std.proofs.Common.{refl}
use Rattle.partial.proofs.Changes.{same_change}
use Rattle.partial.proofs.Offers.{go_to, go_nowhere, total_of}
use Rattle.partial.proofs.table.Tables.go.Goals as goal

pub returns : goal.returns
returns c =
    same_change
    (go_to _ _ _ _ _ _ _ _ _ _ _ c.in-Some.ensures c.cell-2.ensures.place
    (total_of _ _ _ _ _ _ _ _ _ c.saturating_add-total.ensures c.saturating_add.ensures c.cell.ensures.place c.toll.ensures c.of.ensures) refl)
    c.offer.ensures

pub returns-in_default : goal.returns-in_default
returns-in_default c = record { holds = go_nowhere _ _ _ _ _ _ _ c.in_default.ensures; same_lengths = refl; same_came = refl }
