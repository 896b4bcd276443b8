-- A flood over what is used, at any time: what it has seen is linked with the desk, and as it goes on it forgets nothing. Assumes nothing.
use Rattle.std.proofs.Common.{◌≡◌, ℕ, ◌<◌, ◌≤◌, true, ◌⊎◌, List, length, get_or, inl, inr, arith}
use Rattle.graph.specs.Graph.{Linked}
use Rattle.house.specs.House.{House, Spot, desk}
use Rattle.house.specs.Reading.{spot_of}
use Rattle.walk.specs.Steps.{Within}
use Rattle.walk.specs.Marking.{has}
use Rattle.uses.specs.Edges.{house_graph}
use Rattle.uses.specs.Flood.{Flooding, left, code_of}
use Rattle.uses.specs.Layout.{held_in}

abbrev pub Seen : Flooding → Spot → Type 0
Seen f s = has f.seen s ≡ true

-- the spot that waits at a place
abbrev pub spot_at : Flooding → ℕ → Spot
spot_at f j = spot_of (get_or f.waiting j (code_of desk))

abbrev pub Waits : Flooding → Spot → Type 0
Waits f s = (j : ℕ) × (j < length f.waiting) × (spot_at f j ≡ s)

module _ (h : House) (us : List ℕ) where
  abbrev pub Reaches : Spot → Type 0
  Reaches s = Linked (house_graph h) (held_in h us) desk s

  -- what holds of a flood at any time
  pub record Good (f : Flooding) : Type 0 where
    pub flags : length f.seen ≡ 12864
    pub linked : (s : Spot) → Within h s → Seen f s → Reaches s
    pub waiting : (j : ℕ) → j < length f.waiting → Within h (spot_at f j) × Seen f (spot_at f j)

  -- a flood that went on: nothing is forgotten, what is newly seen waits, and no more is left
  pub record Grows (f g : Flooding) : Type 0 where
    pub seen_on : (s : Spot) → Seen f s → Seen g s
    pub waits_on : (s : Spot) → Waits f s → Waits g s
    pub fresh : (s : Spot) → Within h s → Seen g s → Seen f s ⊎ Waits g s
    pub less : left g ≤ left f

  pub grows_none : (f : Flooding) → Grows f f
  grows_none f = record { seen_on = λ s k. k; waits_on = λ s w. w; fresh = λ s i k. inl k; less = omega arith }

  pub grows_both : (f g k : Flooding) → Grows f g → Grows g k → Grows f k
  grows_both f g k a b = record {
    seen_on = λ s z. b.seen_on s (a.seen_on s z);
    waits_on = λ s w. b.waits_on s (a.waits_on s w);
    fresh = λ s i z. elim (b.fresh s i z) [ inr w ↦ inr w | inl y ↦ elim (a.fresh s i y) [ inl x ↦ inl x | inr w ↦ inr (b.waits_on s w) ] ];
    less = omega (arith, a.less, b.less);
  }
