use Rattle.std.proofs.Common.{sym}
use Rattle.aisle.proofs.CodeCosts.{hole_tested}
use Rattle.aisle.proofs.kinds.Gap.uses_around.Goals as goal

pub returns-then-holds : goal.returns-then-holds
returns-then-holds c = sym (hole_tested _ _ _ _ c.if-holds.ensures)

pub returns-else-holds : goal.returns-else-holds
returns-else-holds c = sym (hole_tested _ _ _ _ c.if-holds.ensures)
