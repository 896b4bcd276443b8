-- Within an aisle the degree is that of two steps, so that where all degrees are even all its steps have one parity. Assumes nothing.
use Rattle.std.proofs.Common.{◌≡◌, ℕ, zero, suc, ◌+◌, ◌%◌, ◌<◌, refl, arith}
use Rattle.house.specs.House.{House, Spot, spot}
use Rattle.uses.specs.Edges.{Edge, lane, front, back, uses_of, degree}
use Rattle.uses.proofs.Degree.{way, meet_lines, degree_inside}
use Rattle.uses.proofs.Lines.{line, before}
use Rattle.uses.proofs.Picks.{pick_lt, pick_ne}

-- a way at depth d counts at no other depth
way_elsewhere : (h : House) (d : ℕ) (g : ℕ → ℕ) (a y : ℕ) → ¬ (y ≡ d) → way h d g a y ≡ 0
way_elsewhere h d g a y n = pick_ne y d _ 0 n

module _ (h : House) (f : Edge → ℕ) (a : ℕ) (i : a < h.aisles) where
  degree_within : (y : ℕ) → suc y < h.deep → degree h f (spot a (suc y)) ≡ f (lane a y) + f (lane a (suc y))
  unfolding line before
  degree_within y j =
      omega (
        arith,
        degree_inside h f (spot a (suc y)) (i, omega arith),
        meet_lines h (uses_of f) a (suc y),
        pick_lt (suc y) h.deep (f (lane a (suc y))) 0 j,
        way_elsewhere h 0 (λ b. f (front b)) a (suc y) (omega arith),
        way_elsewhere h h.deep (λ b. f (back b)) a (suc y) (omega arith),
      )

  pub one_parity : ((s : Spot) → degree h f s % 2 ≡ 0) → (y : ℕ) → y < h.deep → f (lane a y) % 2 ≡ f (lane a 0) % 2
  one_parity even zero j = refl
  one_parity even (suc y) j = omega (arith, one_parity even y (omega arith), degree_within y j, even (spot a (suc y)))
