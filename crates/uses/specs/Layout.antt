-- Where the uses of each edge stand in a slice of bytes: the steps of the aisles, aisle by aisle, then the passages at the front, then those at the back.
-- Assumes nothing: these are definitions.
use Rattle.std.specs.Prelude.{ℕ, ◌+◌, ◌-◌, ◌*◌, List, slice_index}
use Rattle.house.specs.House.{House}
use Rattle.uses.specs.Edges.{Edge, lane, front, back, uses_of}
use Rattle.uses.specs.Uses.{Uses}

-- the place of an edge
abbrev pub place : House → Edge → ℕ
place h (lane a y) = a * h.deep + y
place h (front a) = h.aisles * h.deep + a
place h (back a) = h.aisles * h.deep + (h.aisles - 1) + a

-- how many places a house takes
abbrev pub places : House → ℕ
places h = h.aisles * h.deep + (h.aisles - 1) + (h.aisles - 1)

-- how often an edge is used, and the uses that the slice stands for
abbrev pub held_in : House → List ℕ → Edge → ℕ
held_in h us e = slice_index us (place h e)

abbrev pub uses_in : House → List ℕ → Uses
uses_in h us = uses_of (held_in h us)
