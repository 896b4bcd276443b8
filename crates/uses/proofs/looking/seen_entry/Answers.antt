use Rattle.std.proofs.Common.{sym}
use Rattle.uses.proofs.Taken.{sees}
use Rattle.uses.proofs.looking.seen_entry.Goals as goal

pub returns : goal.returns
returns c = λ t l. sees _ _ _ (sym l) c.entry.ensures
