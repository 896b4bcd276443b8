use Rattle.house.proofs.Accept.{reading_is_exact}
use Rattle.house.proofs.laws.reading_is_exact.Goals as goal

pub returns : goal.returns
returns c = reading_is_exact
