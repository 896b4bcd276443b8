-- An aisle of a shape is used in one of the three ways, at the cost of that use. Assumes nothing.
use Rattle.std.proofs.Common.{◌≡◌, ℕ, ◌<◌, arith}
use native.Mathlib.Decide.{dec_lt}
use Rattle.uses.specs.Uses.{span}
use Rattle.uses.proofs.Span.{span_alike}
use Rattle.aisle.specs.Costs.{Use, once, twice, leaving, hole, steps_of_use, use_cost, BetweenNeighbours}
use Rattle.aisle.specs.Kinds.{Gap, Shape}
use Rattle.aisle.proofs.Holes.{hole_before, hole_after, hole_between}

-- the steps of an aisle are used as a use says
pub record UsedAs (deep : ℕ) (stop : ℕ → Type 0) (f : ℕ → ℕ) : Type 0 where
  pub way : Use
  pub between : BetweenNeighbours deep stop way
  pub steps : (y : ℕ) → y < deep → f y ≡ steps_of_use way y

-- before the gap, in it, or after it
gap_steps : {deep : ℕ} {stop : ℕ → Type 0} {f : ℕ → ℕ} (g : Gap deep stop f) (y : ℕ) → y < deep → f y ≡ hole g.lo g.hi y
gap_steps g y l =
    elim (dec_lt y g.lo) [
      | yes j ↦ omega (arith, g.before y j, hole_before g.lo g.hi y j)
      | no j ↦
          elim (dec_lt y g.hi) [
            | yes k ↦ omega (arith, g.unused y (omega arith) k, hole_between g.lo g.hi y (omega arith) k)
            | no k ↦ omega (arith, g.after y l (omega arith), hole_after g.lo g.hi y (omega arith))
          ]
    ]

pub shape_use : {deep : ℕ} {stop : ℕ → Type 0} {f : ℕ → ℕ} → Shape deep stop f → UsedAs deep stop f
shape_use (Shape.through each) = record { way = once; between = tt; steps = each }
shape_use (Shape.twice each) = record { way = twice; between = tt; steps = each }
shape_use (Shape.leaves g) = record { way = leaving g.lo g.hi; between = g.neighbours; steps = gap_steps g }

pub used_cost : {deep : ℕ} {stop : ℕ → Type 0} {f : ℕ → ℕ} (u : UsedAs deep stop f) → span f deep ≡ use_cost deep u.way
unfolding use_cost
used_cost {deep} {f = f} u = span_alike f (steps_of_use u.way) deep u.steps

-- only which depths are stops matters
pub between_alike :
    (deep : ℕ) {stop other : ℕ → Type 0} → ((y : ℕ) → stop y → other y) → ((y : ℕ) → other y → stop y) →
    (u : Use) → BetweenNeighbours deep stop u → BetweenNeighbours deep other u
between_alike deep to from once n = tt
between_alike deep to from twice n = tt
between_alike deep to from (leaving lo hi) n =
    record {
      apart = n.apart;
      inside = n.inside;
      stop_lo = to lo n.stop_lo;
      stop_hi = to hi n.stop_hi;
      none_between = λ y j k s. n.none_between y j k (from y s);
    }
