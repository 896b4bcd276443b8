use Rattle.house.proofs.Pairs.{picks_count}
use Rattle.house.proofs.entries.picks_in.Goals as goal

pub returns-clause-count : goal.returns-clause-count
returns-clause-count c = picks_count _
