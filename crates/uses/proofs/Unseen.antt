-- Flags that are not set: to set one leaves one fewer. Assumes nothing.
use Rattle.std.proofs.Common.{◌≡◌, ℕ, zero, suc, ◌<◌, ◌≤◌, Bool, true, false, List, [], ◌∷◌, length, get_or, set, refl, ap, arith}
use Rattle.uses.specs.Flood.{unseen}

pub unseen_set : (flags : List Bool) (i : ℕ) → i < length flags → get_or flags i false ≡ false → unseen flags ≡ suc (unseen (set flags i true))
unfolding unseen
unseen_set [] i l e = absurd (omega arith)
unseen_set (true ∷ flags) zero l e = let z : ◌≡◌ {A = ℕ} 0 1 = cc in absurd (omega arith)
unseen_set (false ∷ flags) zero l e = refl
unseen_set (true ∷ flags) (suc i) l e = unseen_set flags i (omega arith) e
unseen_set (false ∷ flags) (suc i) l e = ap suc (unseen_set flags i (omega arith) e)

pub unseen_most : (flags : List Bool) → unseen flags ≤ length flags
unfolding unseen
unseen_most [] = omega arith
unseen_most (true ∷ flags) = omega (arith, unseen_most flags)
unseen_most (false ∷ flags) = omega (arith, unseen_most flags)
