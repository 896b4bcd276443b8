use Rattle.planner.proofs.Existence.{shortest_exists}
use Rattle.planner.proofs.laws.shortest_exists.Goals as goal

pub returns : goal.returns
returns c = shortest_exists
