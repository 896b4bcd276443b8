-- The house from above, and its picks. Assumes nothing: these are definitions.
use Rattle.std.specs.Prelude.{ℕ, zero, suc, ◌+◌, ◌-◌, List, [], ◌++◌, codes, decimal}
use Rattle.std.specs.List.{flat_map}
use Rattle.house.specs.House.{House, Spot}
use Rattle.house.specs.Bounds.{picks_of}
use Rattle.text.specs.Lines.{newline}
use Rattle.picture.specs.Places.{across, down}

-- how the house is drawn; its front way and its back way
abbrev pub floor_style : List ℕ
floor_style = codes "<g stroke='#e2e8f0' stroke-width='26' stroke-linecap='round' text-anchor='middle'>" ++ newline

abbrev pub ways_lines : House → List ℕ
ways_lines h =
    floor_style
    ++ (codes "<path d='M72 84H"
    ++ (decimal (across (h.aisles - 1)) ++ (codes "M72 " ++ (decimal (down h.deep) ++ (codes "H" ++ (decimal (across (h.aisles - 1)) ++ (codes "'/>" ++ newline)))))))

-- an aisle, and below it its number
abbrev pub aisle_line : House → ℕ → List ℕ
aisle_line h a =
    codes "<path d='M"
    ++ (decimal (across a)
    ++ (codes " 84V"
    ++ (decimal (down h.deep)
    ++ (codes "'/><text x='"
    ++ (decimal (across a) ++ (codes "' y='" ++ (decimal (down h.deep + 36) ++ (codes "' stroke='none'>" ++ (decimal a ++ (codes "</text>" ++ newline))))))))))

-- the first aisles, so many
unfoldable pub aisle_lines : House → ℕ → List ℕ
aisle_lines h zero = []
aisle_lines h (suc a) = aisle_lines h a ++ aisle_line h a

abbrev pub pick_line : Spot → List ℕ
pick_line s = codes "<circle cx='" ++ (decimal (across s.aisle) ++ (codes "' cy='" ++ (decimal (down s.depth) ++ (codes "' r='5' fill='#c2410c'/>" ++ newline))))

abbrev pub pick_lines : List ℕ → List ℕ
pick_lines list = flat_map pick_line (picks_of list)

-- the end of the house's style; the desk, and the words beside the front way and the back way
abbrev pub desk_lines : House → List ℕ
desk_lines h =
    codes "</g>"
    ++ (newline
    ++ (codes "<rect x='59' y='71' width='26' height='26' fill='#fde68a' stroke='#111827' stroke-width='2'/>"
    ++ (newline
    ++ (codes "<text x='12' y='90'>desk</text>" ++ (newline ++ (codes "<text x='12' y='" ++ (decimal (down h.deep + 6) ++ (codes "'>back</text>" ++ newline))))))))
