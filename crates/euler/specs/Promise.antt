-- What is promised of tours and of their steps: each is a statement, a type whose proof is owed. Assumes nothing.
use Rattle.std.specs.Prelude.{◌≡◌, ℕ, ◌-◌, ◌<◌, List, ◌∷◌, ◌++◌}
use Rattle.house.specs.House.{House, Spot}
use Rattle.walk.specs.Walk.{Goes, byte_of, Walk, steps_of, Tour, length_of}
use Rattle.uses.specs.Edges.{Edge, In, use_of, uses_of, degree}
use Rattle.uses.specs.Uses.{Uses, cost, Round, Linked}
use Rattle.uses.specs.Walked.{edge_of, counted}

-- all round uses are those of a tour: it uses every edge as often as they say, and is as long as they cost
abbrev pub RoundIsWalked : Type 0
RoundIsWalked =
    (h : House) (picks : List Spot) (u : Uses) → Round h picks u →
    (t : Tour h picks) × ((e : Edge) → In h e → counted h t.walk e ≡ use_of u e) × (length_of t ≡ cost h u)

-- what a walk leaves over of uses
abbrev pub left_by : (h : House) {s t : Spot} → Uses → Walk h s t → Edge → ℕ
left_by h u w e = use_of u e - counted h w e

-- a walk takes a step from x to y: it goes onto a use that is left over, and all that is left over after it is linked with y
pub record HoldsTogether (h : House) {s x y : Spot} {n : ℕ} (u : Uses) (first : Walk h s x) (g : Goes h x y n) : Type 0 where
  pub left_over : 0 < left_by h u first (edge_of h g).edge
  pub linked : (p : Spot) → 0 < degree h (left_by h u (Walk.on first g)) p → Linked h (uses_of (left_by h u (Walk.on first g))) y p

-- no step of a walk parts what is left over of its uses
abbrev pub NeverParts : Type 0
NeverParts =
    (h : House) (s t x y : Spot) (n : ℕ) (w : Walk h s t) (first : Walk h s x) (g : Goes h x y n) (rest : Walk h y t) (u : Uses) →
    steps_of w ≡ steps_of first ++ (byte_of g ∷ steps_of rest) → ((e : Edge) → In h e → use_of u e ≡ counted h w e) → HoldsTogether h u first g
