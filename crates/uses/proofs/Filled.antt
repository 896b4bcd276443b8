-- A list of one value, which is read beyond its end too. Assumes nothing.
use Rattle.std.proofs.Common.{◌≡◌, ℕ, get_or, replicate, arith}
use native.Mathlib.Decide.{dec_lt}
use Rattle.std.proofs.lemmas.List.{get_or-replicate, get_or_past, length-replicate}

pub filled : {A : Type 0} (n k : ℕ) (x : A) → get_or (replicate n x) k x ≡ x
filled n k x = elim (dec_lt k n) [
  | yes l ↦ get_or-replicate n k x x l
  | no l ↦ get_or_past (replicate n x) k x (omega (arith, length-replicate n x))
]
