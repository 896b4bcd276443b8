use Rattle.uses.proofs.Tours.{counted_is_round}
use Rattle.uses.proofs.theorems.counted_is_round.Goals as goal

pub returns : goal.returns
returns c = counted_is_round
