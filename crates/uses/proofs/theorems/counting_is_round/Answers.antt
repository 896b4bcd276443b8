use Rattle.uses.proofs.CountedRound.{counting_is_round}
use Rattle.uses.proofs.theorems.counting_is_round.Goals as goal

pub returns : goal.returns
returns c = counting_is_round
