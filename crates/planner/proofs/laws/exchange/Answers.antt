use Rattle.planner.proofs.Exchanged.{exchange}
use Rattle.planner.proofs.laws.exchange.Goals as goal

pub returns : goal.returns
returns c = exchange
