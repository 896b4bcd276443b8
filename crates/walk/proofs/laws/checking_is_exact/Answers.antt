use Rattle.walk.proofs.Says.{checking_is_exact}
use Rattle.walk.proofs.laws.checking_is_exact.Goals as goal

pub returns : goal.returns
returns c = checking_is_exact
