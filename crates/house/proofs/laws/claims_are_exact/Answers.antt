use Rattle.house.proofs.Accept.{claims_are_exact}
use Rattle.house.proofs.laws.claims_are_exact.Goals as goal

pub returns : goal.returns
returns c = claims_are_exact
