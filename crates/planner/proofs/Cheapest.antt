-- The cheapest use of an aisle for an effect, where it is there and where it is not. Assumes nothing.
use Rattle.std.proofs.Common.{◌≡◌, ℕ, ◌≤◌, List, Some, None, Option, refl, subst}
use Rattle.aisle.specs.Costs.{Use, use_cost, Depths, Effect, Serves, best, LeastUse}
use Rattle.aisle.proofs.Best.{best_is_least}

-- the best use for an effect is no dearer than u
pub record NoDearer (deep : ℕ) (ds : List ℕ) (e : Effect) (u : Use) : Type 0 where
  pub cheapest : Use
  pub is : best deep ds e ≡ Some cheapest
  pub cheaper : use_cost deep cheapest ≤ use_cost deep u

module _ {deep : ℕ} {ds : List ℕ} {e : Effect} {u : Use} (depths : Depths deep ds) where
  pub best_serves : best deep ds e ≡ Some u → Serves deep ds e u
  best_serves is = (subst (LeastUse deep ds e) is (best_is_least deep ds e depths)).0

  pub best_cheaper : Serves deep ds e u → NoDearer deep ds e u
  best_cheaper serves = by (best deep ds e) refl (best_is_least deep ds e depths)
    where
      by : (o : Option Use) → best deep ds e ≡ o → LeastUse deep ds e o → NoDearer deep ds e u
      by None is none = absurd (none u serves)
      by (Some v) is (good, least) = record { cheapest = v; is = is; cheaper = least u serves }
