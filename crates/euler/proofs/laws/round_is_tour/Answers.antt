use Rattle.uses.proofs.Tours.{round_is_tour}
use Rattle.euler.proofs.laws.round_is_tour.Goals as goal

pub returns : goal.returns
returns c = round_is_tour
