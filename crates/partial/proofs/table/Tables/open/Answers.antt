use Rattle.std.proofs.Common.{refl}
use Rattle.partial.proofs.Changes.{same_change}
use Rattle.partial.proofs.Offers.{opened_to}
use Rattle.partial.proofs.table.Tables.open.Goals as goal

pub returns : goal.returns
returns c = same_change (opened_to _ _ _ _ _ _ _ c.opening.ensures c.cell.ensures.place c.of.ensures refl) c.offer.ensures
