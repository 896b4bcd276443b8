-- The uses at some places of a slice, together; and what all uses in a slice cost. Assumes nothing: these are definitions.
use Rattle.std.specs.Prelude.{ℕ, ◌+◌, ◌-◌, ◌*◌, List, slice_index}
use Rattle.house.specs.House.{House}
use Rattle.uses.specs.Uses.{span}

-- the uses at n places from `start` on
unfoldable pub held : List ℕ → ℕ → ℕ → ℕ
held us start n = span (λ i. slice_index us (start + i)) n

-- the steps of the aisles stand first, then the passages
abbrev pub cost_in : House → List ℕ → ℕ
cost_in h us = held us 0 (h.aisles * h.deep) + h.apart * held us (h.aisles * h.deep) (2 * (h.aisles - 1))

-- the first of the two alone, and how often all passages are used together
abbrev pub aisles_cost : House → List ℕ → ℕ
aisles_cost h us = held us 0 (h.aisles * h.deep)

abbrev pub passages_in : House → List ℕ → ℕ
passages_in h us = held us (h.aisles * h.deep) (2 * (h.aisles - 1))
