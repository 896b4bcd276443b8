use Rattle.aisle.proofs.Best.{best_is_least}
use Rattle.aisle.proofs.laws.best_is_least.Goals as goal

pub returns : goal.returns
returns c = best_is_least
