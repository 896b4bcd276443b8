-- A picture of a way through a house with its picks, in SVG. Assumes nothing: these are definitions.
use Rattle.std.specs.Prelude.{ℕ, ◌+◌, List, ◌++◌, None, codes, decimal}
use Rattle.house.specs.House.{House, desk}
use Rattle.walk.specs.Steps.{measure}
use Rattle.text.specs.Lines.{newline}
use Rattle.picture.specs.Places.{across, down}
use Rattle.picture.specs.Floor.{ways_lines, aisle_lines, desk_lines, pick_lines}
use Rattle.picture.specs.Strokes.{strokes}

-- the size of the picture, which scales with the screen
abbrev pub open_line : House → List ℕ
open_line h =
    codes "<svg xmlns='http://www.w3.org/2000/svg' viewBox='0 0 "
    ++ (decimal (across h.aisles + 24) ++ (codes " " ++ (decimal (down h.deep + 54) ++ (codes "' font-family='sans-serif' font-size='16' fill='#111827'>" ++ newline))))

-- the tip of an arrow, for the end of each line of the way
abbrev pub tip_line : List ℕ
tip_line = codes "<marker id='tip' viewBox='0 0 8 8' refX='7' refY='4' markerWidth='4' markerHeight='4' orient='auto'><path d='M0 0L8 4L0 8z' fill='#1d4ed8'/></marker>" ++ newline

-- a white ground
abbrev pub ground_line : List ℕ
ground_line = codes "<rect width='100%' height='100%' fill='#ffffff'/>" ++ newline

-- the length, as the picture's name and as its heading
abbrev pub title_lines : ℕ → List ℕ
title_lines n =
    codes "<title>A tour of length "
    ++ (decimal n
    ++ (codes "</title>" ++ (newline ++ (tip_line ++ (ground_line ++ (codes "<text x='12' y='34' font-size='22'>length " ++ (decimal n ++ (codes "</text>" ++ newline))))))))

abbrev pub floor_of : House → List ℕ
floor_of h = ways_lines h ++ (aisle_lines h h.aisles ++ desk_lines h)

-- what lies below the way
unfoldable pub background_of : House → List ℕ → ℕ → List ℕ
background_of h list n = open_line h ++ (title_lines n ++ (floor_of h ++ pick_lines list))

-- the way, each line with an arrow at its end
abbrev pub way_style : List ℕ
way_style = codes "<g fill='none' stroke='#1d4ed8' stroke-width='3' stroke-linejoin='round' marker-end='url(#tip)'>" ++ newline

abbrev pub foot_lines : List ℕ
foot_lines = codes "</g>" ++ (newline ++ (codes "</svg>" ++ newline))

unfoldable pub way_of : House → List ℕ → List ℕ
way_of h way = way_style ++ (strokes h desk None way ++ foot_lines)

abbrev pub picture_of : House → List ℕ → List ℕ → List ℕ
picture_of h list way = background_of h list (measure h way) ++ way_of h way
