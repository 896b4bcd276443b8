use Rattle.aisle.proofs.SortedByAisle.{sorted_is_exact}
use Rattle.aisle.proofs.laws.sorted_is_exact.Goals as goal

pub returns : goal.returns
returns c = sorted_is_exact
