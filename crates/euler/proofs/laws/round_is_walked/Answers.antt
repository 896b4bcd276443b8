use Rattle.euler.proofs.Walkable.{round_is_walked}
use Rattle.euler.proofs.laws.round_is_walked.Goals as goal

pub returns : goal.returns
returns c = round_is_walked
