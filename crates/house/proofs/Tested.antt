-- What the test of a pick's depth tells: whether it stands on a shelf of the aisle.
-- Assumes nothing.
use Rattle.std.proofs.Common.{◌≡◌, ℕ, ◌≤◌, true, ◌⊎◌, inl, inr, eq-eqb, eqb-true, le-leb, leb-true}
use Rattle.std.proofs.lemmas.Bool.{or_cases, or_left, or_right}
use Rattle.house.specs.House.{Spot}
use Rattle.house.specs.Rules.{outside}

module _ (n : ℕ) (p : Spot) where
  pub outside_yes : (p.depth ≡ 0) ⊎ (n ≤ p.depth) → outside n p ≡ true
  outside_yes (inl e) = or_left _ _ (eq-eqb _ _ e)
  outside_yes (inr h) = or_right _ _ (le-leb _ _ h)

  pub from_outside : outside n p ≡ true → (p.depth ≡ 0) ⊎ (n ≤ p.depth)
  from_outside e = elim (or_cases _ _ e) [ inl z ↦ inl (eqb-true _ _ z) | inr z ↦ inr (leb-true _ _ z) ]
