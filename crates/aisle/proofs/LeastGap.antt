-- Among the uses with one effect that leaves the two ends of an aisle apart, the one with the widest gap is the cheapest. Assumes nothing.
use Rattle.std.proofs.Common.{◌≡◌, ℕ, ◌-◌, ◌≤◌, List, Some, None, arith}
use Rattle.aisle.specs.Costs.{Use, once, twice, leaving, hole, use_cost, Depths, StopIn, Effect, effect_front, effect_back, effect_joins, Serves, LeastUse}
use Rattle.aisle.specs.Kinds.{Neighbours}
use Rattle.aisle.proofs.Served.{serves_leaving}
use Rattle.aisle.proofs.UseCosts.{cost_wider}

-- what serves where the ends stay apart is a gap
only_gaps :
    {deep : ℕ} {ds : List ℕ} {e : Effect} (P : Use → Type 0) → effect_joins e ≡ 0 → ((p q : ℕ) → Serves deep ds e (leaving p q) → P (leaving p q)) →
    (u : Use) → Serves deep ds e u → P u
only_gaps P apart gaps once s = absurd (omega (arith, s.joined))
only_gaps P apart gaps twice s = absurd (omega (arith, s.joined))
only_gaps P apart gaps (leaving p q) s = gaps p q s

module _ {deep : ℕ} {ds : List ℕ} (depths : Depths deep ds) (e : Effect) (apart : effect_joins e ≡ 0) where
  -- the widest gap makes the cheapest use
  pub least_gap :
      {lo hi : ℕ} → Neighbours deep (StopIn deep ds) lo hi → hole lo hi 0 ≡ effect_front e → hole lo hi (deep - 1) ≡ effect_back e →
      ((p q : ℕ) → Serves deep ds e (leaving p q) → q - p ≤ hi - lo) → LeastUse deep ds e (Some (leaving lo hi))
  least_gap {lo} {hi} n front back widest = (
    serves_leaving depths e n front back apart,
    only_gaps (λ u. use_cost deep (leaving lo hi) ≤ use_cost deep u) apart
        (λ p q s. cost_wider deep (omega (arith, n.apart)) n.inside (omega (arith, s.between.apart)) s.between.inside (widest p q s)),
  )

  pub no_gap : ((p q : ℕ) → Serves deep ds e (leaving p q) → ⊥) → LeastUse deep ds e None
  no_gap none = only_gaps (λ u. ⊥) apart none
