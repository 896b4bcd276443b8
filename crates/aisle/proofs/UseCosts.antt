-- What each use of an aisle costs. Assumes nothing.
use Rattle.std.proofs.Common.{◌≡◌, ℕ, zero, suc, ◌+◌, ◌-◌, ◌*◌, ◌≤◌, min, refl, arith}
use Rattle.uses.specs.Uses.{span}
use Rattle.aisle.specs.Costs.{once, twice, leaving, use_cost}
use Rattle.aisle.proofs.Holes.{span_hole}

pub cost_once : (deep : ℕ) → use_cost deep once ≡ deep
unfolding use_cost span
cost_once zero = refl
cost_once (suc n) = omega (arith, cost_once n)

pub cost_twice : (deep : ℕ) → use_cost deep twice ≡ 2 * deep
unfolding use_cost span
cost_twice zero = refl
cost_twice (suc n) = omega (arith, cost_twice n)

pub cost_leaving : (deep lo hi : ℕ) → lo ≤ hi → use_cost deep (leaving lo hi) ≡ 2 * (min deep lo + (deep - hi))
unfolding use_cost
cost_leaving deep lo hi l = span_hole lo hi l deep

-- the wider the gap, the cheaper the use
pub cost_wider :
    (deep : ℕ) {lo hi p q : ℕ} → lo ≤ hi → hi ≤ deep → p ≤ q → q ≤ deep → q - p ≤ hi - lo →
    use_cost deep (leaving lo hi) ≤ use_cost deep (leaving p q)
cost_wider deep {lo} {hi} {p} {q} i j k l wide = omega (arith, cost_leaving deep lo hi i, cost_leaving deep p q k)
