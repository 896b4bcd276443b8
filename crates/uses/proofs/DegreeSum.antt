-- Degrees add up: the degree of a sum of uses is the sum of their degrees. Assumes nothing.
use Rattle.std.proofs.Common.{◌≡◌, ℕ, suc, ◌+◌, ◌-◌, ◌<◌, ◌≤◌, arith}
use Rattle.house.specs.House.{House, Spot}
use Rattle.uses.specs.Uses.{meet}
use Rattle.uses.specs.Edges.{Edge, lane, front, back, In, uses_of, degree}
use Rattle.uses.proofs.Degree.{way, meet_lines, inside?, degree_inside, degree_outside}
use Rattle.uses.proofs.Lines.{line_sum}
use Rattle.uses.proofs.Picks.{pick_eq_add}

-- w is u and v together, on the edges of the house
module _ (h : House) (u v w : Edge → ℕ) (sum : (e : Edge) → In h e → w e ≡ u e + v e) where
  way_sum :
      (f g k : ℕ → ℕ) → ((b : ℕ) → suc b < h.aisles → k b ≡ f b + g b) → (d a y : ℕ) → a < h.aisles → way h d k a y ≡ way h d f a y + way h d g a y
  way_sum f g k e d a y i = pick_eq_add y d _ _ _ (line_sum f g k (h.aisles - 1) (λ b l. e b (omega arith)) a (omega arith))

  meet_sum : (a y : ℕ) → a < h.aisles → y ≤ h.deep → meet h (uses_of w) a y ≡ meet h (uses_of u) a y + meet h (uses_of v) a y
  meet_sum a y i j =
      omega (
        arith,
        meet_lines h (uses_of u) a y,
        meet_lines h (uses_of v) a y,
        meet_lines h (uses_of w) a y,
        line_sum _ _ _ h.deep (λ z l. sum (lane a z) (i, l)) y j,
        way_sum _ _ _ (λ b l. sum (front b) l) 0 a y i,
        way_sum _ _ _ (λ b l. sum (back b) l) h.deep a y i,
      )

  pub degree_sum : (s : Spot) → degree h w s ≡ degree h u s + degree h v s
  degree_sum s =
      elim (inside? h s) [
        | yes i ↦ omega (arith, degree_inside h u s i, degree_inside h v s i, degree_inside h w s i, meet_sum s.aisle s.depth i.0 i.1)
        | no z ↦ omega (arith, degree_outside h u s z, degree_outside h v s z, degree_outside h w s z)
      ]
