use Rattle.uses.proofs.Tours.{tour_is_round}
use Rattle.uses.proofs.theorems.tour_is_round.Goals as goal

pub returns : goal.returns
returns c = tour_is_round
