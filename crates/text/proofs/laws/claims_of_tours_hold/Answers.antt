use Rattle.text.proofs.Claimed.{claims_of_tours_hold}
use Rattle.text.proofs.laws.claims_of_tours_hold.Goals as goal

pub returns : goal.returns
returns c = claims_of_tours_hold
