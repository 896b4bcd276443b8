-- The use of an aisle, what it costs and what it does to the aisle's two ends; and the cheapest use for each such effect.
-- Assumes nothing: these are definitions, and one statement whose proof is owed.
use Rattle.std.specs.Prelude.{◌≡◌, ℕ, suc, ◌+◌, ◌-◌, ◌*◌, ◌<◌, ◌≤◌, min, ◌⊎◌, List, [], ◌∷◌, length, Some, None, Option, nat_lt, slice_index}
use Rattle.uses.specs.Uses.{pick, span}
use Rattle.aisle.specs.Kinds.{Neighbours}

-- every step of an aisle once; every step twice; or every step twice but for those from one depth to another, which are not used
pub data Use : Type 0 where
  once : Use
  twice : Use
  leaving : ℕ → ℕ → Use

-- 2 before lo and from hi on, 0 between
unfoldable pub hole : ℕ → ℕ → ℕ → ℕ
hole lo hi y = 2 * min 1 ((lo - y) + (suc y - hi))

-- how often the step from depth y to y + 1 is used
abbrev pub steps_of_use : Use → ℕ → ℕ
steps_of_use once y = 1
steps_of_use twice y = 2
steps_of_use (leaving lo hi) y = hole lo hi y

-- the uses of all steps
unfoldable pub use_cost : ℕ → Use → ℕ
use_cost deep u = span (steps_of_use u) deep

-- the uses that the aisle adds at its front, those of the first step, and at its back, those of the last
abbrev pub front_of : Use → ℕ
front_of u = steps_of_use u 0

abbrev pub back_of : ℕ → Use → ℕ
back_of deep u = steps_of_use u (deep - 1)

-- 1 where every step is used, so that front and back are linked within the aisle, else 0
abbrev pub joins : Use → ℕ
joins once = 1
joins twice = 1
joins (leaving lo hi) = 1 - (hi - lo)

-- the depths of the picks of an aisle, in ascending order
pub record Depths (deep : ℕ) (ds : List ℕ) : Type 0 where
  pub some_step : 0 < deep
  pub inside : (i : ℕ) → i < length ds → (0 < slice_index ds i) × (slice_index ds i < deep)
  pub ascending : (i : ℕ) → suc i < length ds → slice_index ds i ≤ slice_index ds (suc i)

-- y is one of the depths
abbrev pub Among : List ℕ → ℕ → Type 0
Among ds y = (i : ℕ) × (i < length ds) × (slice_index ds i ≡ y)

-- the front, the back, and the picks
abbrev pub StopIn : ℕ → List ℕ → ℕ → Type 0
StopIn deep ds y = (y ≡ 0) ⊎ (y ≡ deep) ⊎ Among ds y

-- the step that leads to depth d is used, or the one that leads on
abbrev pub Covers : Use → ℕ → Type 0
Covers u d = (0 < steps_of_use u (d - 1)) ⊎ (0 < steps_of_use u d)

-- what a use leaves out lies between two neighbouring stops
abbrev pub BetweenNeighbours : ℕ → (ℕ → Type 0) → Use → Type 0
BetweenNeighbours deep stop once = Unit
BetweenNeighbours deep stop twice = Unit
BetweenNeighbours deep stop (leaving lo hi) = Neighbours deep stop lo hi

-- what a use does to the two ends of its aisle
pub data Effect : Type 0 where
  nothing : Effect
  from_front : Effect
  from_back : Effect
  both_ends : Effect
  through_once : Effect
  through_twice : Effect

-- the uses at the front
abbrev pub effect_front : Effect → ℕ
effect_front nothing = 0
effect_front from_front = 2
effect_front from_back = 0
effect_front both_ends = 2
effect_front through_once = 1
effect_front through_twice = 2

-- the uses at the back
abbrev pub effect_back : Effect → ℕ
effect_back nothing = 0
effect_back from_front = 0
effect_back from_back = 2
effect_back both_ends = 2
effect_back through_once = 1
effect_back through_twice = 2

-- 1 where front and back are linked within the aisle, else 0
abbrev pub effect_joins : Effect → ℕ
effect_joins nothing = 0
effect_joins from_front = 0
effect_joins from_back = 0
effect_joins both_ends = 0
effect_joins through_once = 1
effect_joins through_twice = 1

-- a use passes every pick, leaves out only what lies between two neighbouring stops, and has the effect
pub record Serves (deep : ℕ) (ds : List ℕ) (e : Effect) (u : Use) : Type 0 where
  pub between : BetweenNeighbours deep (StopIn deep ds) u
  pub covers : (i : ℕ) → i < length ds → Covers u (slice_index ds i)
  pub front : front_of u ≡ effect_front e
  pub back : back_of deep u ≡ effect_back e
  pub joined : joins u ≡ effect_joins e

-- the deepest of the depths d and ds
unfoldable pub last_of : ℕ → List ℕ → ℕ
last_of d [] = d
last_of d (x ∷ xs) = last_of x xs

-- the wider of two gaps, the first if they are as wide
abbrev pub wider : ℕ × ℕ → ℕ × ℕ → ℕ × ℕ
wider g k = pick (nat_lt (g.1 - g.0) (k.1 - k.0)) k g

-- the widest of a gap g and the gaps between neighbours in d and ds, the first of several
unfoldable pub widest : ℕ × ℕ → ℕ → List ℕ → ℕ × ℕ
widest g d [] = g
widest g d (x ∷ xs) = widest (wider g (d, x)) x xs

-- a gap may be left out if it is not empty
abbrev pub leaving_gap : ℕ × ℕ → Option Use
leaving_gap g = pick (nat_lt g.0 g.1) (Some (leaving g.0 g.1)) None

-- the cheapest use with an effect, where there is one
abbrev pub best : ℕ → List ℕ → Effect → Option Use
best deep [] nothing = Some (leaving 0 deep)
best deep (d ∷ ds) nothing = None
best deep [] from_front = None
best deep (d ∷ ds) from_front = Some (leaving (last_of d ds) deep)
best deep [] from_back = None
best deep (d ∷ ds) from_back = Some (leaving 0 d)
best deep [] both_ends = None
best deep (d ∷ ds) both_ends = leaving_gap (widest (d, d) d ds)
best deep ds through_once = Some once
best deep ds through_twice = Some twice

-- a use that serves and is no dearer than any other that does, or none where none does
abbrev pub LeastUse : ℕ → List ℕ → Effect → Option Use → Type 0
LeastUse deep ds e None = (u : Use) → Serves deep ds e u → ⊥
LeastUse deep ds e (Some u) = Serves deep ds e u × ((other : Use) → Serves deep ds e other → use_cost deep u ≤ use_cost deep other)

abbrev pub BestIsLeast : Type 0
BestIsLeast = (deep : ℕ) (ds : List ℕ) (e : Effect) → Depths deep ds → LeastUse deep ds e (best deep ds e)
