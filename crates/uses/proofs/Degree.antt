-- The degree of a spot: the uses that meet there along the aisle, the front way and the back way, and none outside the house.
-- Assumes nothing.
use Rattle.std.proofs.Common.{◌≡◌, ℕ, zero, suc, ◌+◌, ◌-◌, ◌<◌, ◌≤◌, eqb, refl, ap, ◌∙◌, arith}
use native.Mathlib.Decide.{dec_lt, dec_le}
use Rattle.house.specs.House.{House, Spot}
use Rattle.uses.specs.Uses.{Uses, pick, below, beside, meet}
use Rattle.uses.specs.Edges.{Edge, uses_of, degree}
use Rattle.uses.proofs.Lines.{before, line}
use Rattle.uses.proofs.Picks.{pick_lt, pick_ge, pick_le, pick_gt, pick_lt_pred}

-- a way leads past m aisles
beside_line : (f : ℕ → ℕ) (m a : ℕ) → beside f m a ≡ line f (m - 1) a
unfolding beside line before
beside_line f m zero = omega (arith, pick_lt_pred 0 m (f 0))
beside_line f m (suc a) = omega (arith, pick_lt_pred (suc a) m (f (suc a)))

below_before : (u : Uses) (a y : ℕ) → below u a y ≡ before (u.aisle a) y
unfolding below before
below_before u a zero = refl
below_before u a (suc y) = refl

module _ (h : House) where
  -- the uses that meet at aisle a along a way at depth d
  abbrev pub way : ℕ → (ℕ → ℕ) → ℕ → ℕ → ℕ
  way d f a y = pick (eqb y d) (line f (h.aisles - 1) a) 0

  pub meet_lines : (u : Uses) (a y : ℕ) → meet h u a y ≡ line (u.aisle a) h.deep y + way 0 u.front a y + way h.deep u.back a y
  unfolding meet line
  meet_lines u a y =
      omega (
        arith,
        below_before u a y,
        ap (λ n. pick (eqb y 0) n 0) (beside_line u.front h.aisles a),
        ap (λ n. pick (eqb y h.deep) n 0) (beside_line u.back h.aisles a),
      )

  -- the spots of the house
  abbrev pub Inside : Spot → Type 0
  Inside s = (s.aisle < h.aisles) × (s.depth ≤ h.deep)

  pub inside? : (s : Spot) → Dec (Inside s)
  inside? s = elim (dec_lt s.aisle h.aisles) [
    | no z ↦ no (λ i. z i.0)
    | yes i ↦ elim (dec_le s.depth h.deep) [ no z ↦ no (λ j. z j.1) | yes j ↦ yes (i, j) ]
  ]

  pub degree_inside : (f : Edge → ℕ) (s : Spot) → Inside s → degree h f s ≡ meet h (uses_of f) s.aisle s.depth
  unfolding degree
  degree_inside f s (i, j) = pick_lt s.aisle h.aisles _ 0 i ∙ pick_le s.depth h.deep _ 0 j

  pub degree_outside : (f : Edge → ℕ) (s : Spot) → ¬ (Inside s) → degree h f s ≡ 0
  unfolding degree
  degree_outside f s z =
      elim (dec_lt s.aisle h.aisles) [
        | no i ↦ pick_ge s.aisle h.aisles _ 0 (omega arith)
        | yes i ↦
            let j : h.deep < s.depth = elim (dec_le s.depth h.deep) [ yes j ↦ absurd (z (i, j)) | no j ↦ omega arith ] in
            pick_lt s.aisle h.aisles _ 0 i ∙ pick_gt s.depth h.deep _ 0 j
      ]
