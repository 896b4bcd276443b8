-- Where a list holds the depths of the picks in an aisle, the stops of the aisle are those that the list gives. Assumes nothing.
use Rattle.std.proofs.Common.{ℕ, List, inl, inr}
use Rattle.house.specs.House.{House, Spot}
use Rattle.aisle.specs.Costs.{StopIn}
use Rattle.aisle.specs.Kinds.{Stops}
use Rattle.aisle.specs.Promise.{Lists}

module _ (h : House) {picks : List Spot} {a : ℕ} {ds : List ℕ} (lists : Lists picks a ds) where
  pub stop_listed : (y : ℕ) → Stops h picks a y → StopIn h.deep ds y
  unfolding Stops
  stop_listed y (inl e) = inl e
  stop_listed y (inr (inl e)) = inr (inl e)
  stop_listed y (inr (inr p)) = inr (inr (lists.every y p))

  pub listed_stop : (y : ℕ) → StopIn h.deep ds y → Stops h picks a y
  unfolding Stops
  listed_stop y (inl e) = inl e
  listed_stop y (inr (inl e)) = inr (inl e)
  listed_stop y (inr (inr m)) = inr (inr (lists.only y m))
