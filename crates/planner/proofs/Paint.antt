-- Writing the uses of an aisle, one run after the other. Assumes nothing.
use Rattle.std.proofs.Common.{◌≡◌, ℕ, ◌+◌, ◌-◌, ◌<◌, ◌≤◌, min, ◌⊎◌, List, get_or, Some, sym, ap, ◌∙◌, inl, inr, arith}
use native.Mathlib.Decide.{dec_lt}
use Rattle.aisle.specs.Costs.{leaving, hole}
use Rattle.planner.specs.Laying.{Painted}

-- so many entries hold one value, and the others what they held
pub record Run (start n v : ℕ) (was is : List ℕ) : Type 0 where
  pub inside : (i : ℕ) → i < n → get_or is (start + i) 0 ≡ v
  pub outside : (i : ℕ) → (i < start) ⊎ (start + n ≤ i) → get_or is i 0 ≡ get_or was i 0

-- a gap is a run within another
pub painted_gap :
    {start deep : ℕ} {was mid is : List ℕ} (lo hi l n : ℕ) → l ≡ min deep lo → n ≡ min deep hi - l → Run start deep 2 was mid → Run (start + l) n 0 mid is →
    Painted start deep (Some (leaving lo hi)) was is
unfolding hole
painted_gap {start} {deep} {was} {mid} {is} lo hi l n e f all gap = record { inside = inside; outside = λ i h. gap.outside i (off i h) ∙ all.outside i h }
  where
    off : (i : ℕ) → (i < start) ⊎ (start + deep ≤ i) → (i < start + l) ⊎ (start + l + n ≤ i)
    off i (inl h) = inl (omega arith)
    off i (inr h) = inr (omega arith)

    full : (y : ℕ) → y < deep → (y < l) ⊎ (l + n ≤ y) → hole lo hi y ≡ 2
    full y h (inl k) = omega arith
    full y h (inr k) = omega arith

    beside : (y : ℕ) → (y < l) ⊎ (l + n ≤ y) → (start + y < start + l) ⊎ (start + l + n ≤ start + y)
    beside y (inl k) = inl (omega arith)
    beside y (inr k) = inr (omega arith)

    kept : (y : ℕ) → y < deep → (y < l) ⊎ (l + n ≤ y) → get_or is (start + y) 0 ≡ hole lo hi y
    kept y h k = gap.outside (start + y) (beside y k) ∙ all.inside y h ∙ sym (full y h k)

    inside : (y : ℕ) → y < deep → get_or is (start + y) 0 ≡ hole lo hi y
    inside y h =
        elim (dec_lt y l) [
          | yes k ↦ kept y h (inl k)
          | no k ↦
              elim (dec_lt y (l + n)) [
                | yes j ↦
                    let at : start + y ≡ (start + l) + (y - l) = omega arith in
                    let none : hole lo hi y ≡ 0 = omega arith in
                    ap (λ (i : ℕ). get_or is i 0) at ∙ gap.inside (y - l) (omega arith) ∙ sym none
                | no j ↦ kept y h (inr (omega arith))
              ]
        ]
