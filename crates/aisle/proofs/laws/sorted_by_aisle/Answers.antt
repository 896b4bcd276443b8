use Rattle.aisle.proofs.SortedByAisle.{sorted_by_aisle}
use Rattle.aisle.proofs.laws.sorted_by_aisle.Goals as goal

pub returns : goal.returns
returns c = sorted_by_aisle
