-- What an aisle costs, by the effect of its use. Assumes nothing: these are definitions.
use Rattle.std.specs.Prelude.{ℕ, List, Some, None, Option, slice_index}
use Rattle.aisle.specs.Costs.{Use, use_cost, best, Effect, nothing, from_front, from_back, both_ends, through_once, through_twice}
use Rattle.aisle.specs.Reach.{Reach, best_from}
use Rattle.partial.specs.declared.prices.Prices.{Prices}

-- longer than any tour: where there is no use with an effect, or no partial tour of a class
abbrev pub never : ℕ
never = 4294967295

abbrev pub cost_or_never : ℕ → Option Use → ℕ
cost_or_never deep None = never
cost_or_never deep (Some u) = use_cost deep u

-- the cost of the cheapest use with an effect, for the depths of an aisle's picks
abbrev pub price : ℕ → List ℕ → Effect → ℕ
price deep ds e = cost_or_never deep (best deep ds e)

-- the same from what is known of the picks
abbrev pub price_from : ℕ → Option Reach → Effect → ℕ
price_from deep r e = cost_or_never deep (best_from deep r e)

-- the prices that the code's value stands for
abbrev pub priced : Prices → Effect → ℕ
priced p nothing = slice_index p.0 0
priced p from_front = slice_index p.0 1
priced p from_back = slice_index p.0 2
priced p both_ends = slice_index p.0 3
priced p through_once = slice_index p.0 4
priced p through_twice = slice_index p.0 5
