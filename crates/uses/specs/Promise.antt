-- What is promised of uses: each is a statement, a type whose proof is owed. Assumes nothing.
use Rattle.std.specs.Prelude.{◌≡◌, ℕ, suc, ◌+◌, ◌%◌, ◌<◌, ◌≤◌, List, length, slice_index_or}
use Rattle.house.specs.House.{House, Spot, Sound}
use Rattle.walk.specs.Walk.{Walk, Tour, length_of, steps_of}
use Rattle.uses.specs.Counting.{used_by, Counted}
use Rattle.uses.specs.Edges.{Edge, uses_of}
use Rattle.uses.specs.Layout.{uses_in}
use Rattle.uses.specs.Uses.{Uses, cost, Round, at_most_two}
use Rattle.uses.specs.Walked.{counted}

-- the bytes of a walk use what the walk uses
abbrev pub UsedByWalk : Type 0
UsedByWalk = (h : House) (s t : Spot) (w : Walk h s t) (e : Edge) → used_by h s (steps_of w) e ≡ counted h w e

-- what a tour uses is round and costs its length
abbrev pub CountedIsRound : Type 0
CountedIsRound =
    (h : House) (picks : List Spot) (t : Tour h picks) → Sound h picks →
    Round h picks (uses_of (counted h t.walk)) × (cost h (uses_of (counted h t.walk)) ≡ length_of t)

-- so is what a slice holds into which the bytes of a tour were counted
abbrev pub CountingIsRound : Type 0
CountingIsRound =
    (h : House) (picks : List Spot) (t : Tour h picks) (before after : List ℕ) → Sound h picks → Counted h (steps_of t.walk) before after →
    Round h picks (uses_in h after) × (cost h (uses_in h after) ≡ length_of t)

-- for every tour there are round uses that cost what it is long
abbrev pub TourIsRound : Type 0
TourIsRound = (h : House) (picks : List Spot) (t : Tour h picks) → Sound h picks → (u : Uses) × Round h picks u × (cost h u ≡ length_of t)

-- nothing need be used more than twice
abbrev pub TwiceEnough : Type 0
TwiceEnough = (h : House) (picks : List Spot) (u : Uses) → Sound h picks → Round h picks u → (v : Uses) × Round h picks v × at_most_two h v × (cost h v ≤ cost h u)

-- between two neighbouring aisles an even number of passages is used, front and back together, and two at least where there is a pick beyond
abbrev pub Passages : Type 0
Passages =
    (h : House) (picks : List Spot) (u : Uses) (a : ℕ) → Sound h picks → Round h picks u → suc a < h.aisles →
    ((u.front a + u.back a) % 2 ≡ 0) × ((i : ℕ) (d : Spot) → i < length picks → a < (slice_index_or picks i d).aisle → 2 ≤ u.front a + u.back a)
