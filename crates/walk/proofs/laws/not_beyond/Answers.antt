use Rattle.walk.proofs.Clamp.{not_beyond}
use Rattle.walk.proofs.laws.not_beyond.Goals as goal

pub returns : goal.returns
returns c = not_beyond
