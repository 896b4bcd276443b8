-- Where things are drawn: the front way at the top, the back way at the bottom, and the aisles from left to right. Assumes nothing: these are definitions.
use Rattle.std.specs.Prelude.{ℕ, ◌+◌, ◌-◌, ◌*◌, cond, List, ◌++◌, codes, decimal, ◌==◌}
use Rattle.house.specs.House.{Spot}
use Rattle.picture.specs.declared.places.Point.{Point}

-- the middle of an aisle
abbrev pub across : ℕ → ℕ
across a = 72 + 48 * a

-- a depth in it: 84 at the front way, and 14 more for each step
abbrev pub down : ℕ → ℕ
down y = 84 + 14 * y

abbrev pub point : ℕ → ℕ → Point
point x y = record { x = x; y = y }

abbrev pub point_text : Point → List ℕ
point_text p = decimal p.x ++ (codes "," ++ decimal p.y)

abbrev pub middle_of : Spot → Point
middle_of s = point (across s.aisle) (down s.depth)

-- where a row of steps with this byte begins at a spot: steps deeper are drawn on the left of the aisle's middle, and steps back on its right;
-- along the front and the back way steps to the next aisle are drawn below the middle, and steps to the one before above it
abbrev pub start_of : Spot → ℕ → Point
start_of s b =
    cond (b == 0) (point (across s.aisle - 6) (down s.depth + 4))
    (cond (b == 1) (point (across s.aisle + 6) (down s.depth - 4))
    (cond (b == 2) (point (across s.aisle + 4) (down s.depth + 6))
    (cond (b == 4) (point (across s.aisle + 4) (down s.depth + 6)) (point (across s.aisle - 4) (down s.depth - 6)))))

-- where such a row ends at a spot
abbrev pub end_of : Spot → ℕ → Point
end_of s b =
    cond (b == 0) (point (across s.aisle - 6) (down s.depth - 4))
    (cond (b == 1) (point (across s.aisle + 6) (down s.depth + 4))
    (cond (b == 2) (point (across s.aisle - 4) (down s.depth + 6))
    (cond (b == 4) (point (across s.aisle - 4) (down s.depth + 6)) (point (across s.aisle + 4) (down s.depth - 6)))))

-- on the right of a step's line, so far on from a spot's middle and so far short of it: 4 on it is where a row of steps begins, and 4 short of it where one ends
abbrev pub beside_of : Spot → ℕ → ℕ → ℕ → Point
beside_of s b on short =
    cond (b == 0) (point (across s.aisle - 6) (down s.depth + on - short))
    (cond (b == 1) (point (across s.aisle + 6) (down s.depth + short - on))
    (cond (b == 2) (point (across s.aisle + on - short) (down s.depth + 6))
    (cond (b == 4) (point (across s.aisle + on - short) (down s.depth + 6)) (point (across s.aisle + short - on) (down s.depth - 6)))))
