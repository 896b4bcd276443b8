-- The single use of an edge meets at a spot as often as the edge ends there. Assumes nothing.
use Rattle.std.proofs.Common.{◌≡◌, ℕ, suc, ◌+◌, ◌-◌, ◌<◌, eqb, sym, ◌∙◌, subst, arith}
use native.Mathlib.Decide.{ℕ_discrete}
use Rattle.graph.specs.Graph.{ends_at}
use Rattle.graph.proofs.Indicator.{indicator_no}
use Rattle.house.specs.House.{House, Spot, spot}
use Rattle.uses.specs.Uses.{meet}
use Rattle.uses.specs.Edges.{Edge, lane, front, back, spot_dec, In, src, dst, uses_of, degree, house_graph}
use Rattle.uses.proofs.Degree.{way, meet_lines, Inside, inside?, degree_inside, degree_outside}
use Rattle.uses.proofs.Lines.{line, line_zero, line_single}
use Rattle.uses.proofs.Picks.{pick_eq, pick_ne, pick_zero}
use Rattle.uses.proofs.Same.{same, same_spot, same_by_depth, same_by_aisle, other_aisle, other_depth}
use Rattle.uses.proofs.Single.{single, single_other, single_unlike, single_lane, single_front, single_back}

module _ (h : House) where
  -- of the single uses, along an aisle and along a way
  lane_single :
      (b z : ℕ) → z < h.deep → (a y : ℕ) →
      line (λ k. single h (lane b z) (lane a k)) h.deep y ≡ same_spot (spot b z) (spot a y) + same_spot (spot b (suc z)) (spot a y)
  lane_single b z i a y = elim (ℕ_discrete b a) [
    | yes e ↦
        omega (
          arith,
          line_single _ h.deep z i (λ k. single_lane h b a z k e) y,
          same_by_depth b a z y e,
          same_by_depth b a (suc z) y e,
        )
    | no n ↦
        omega (
          arith,
          line_zero _ h.deep (λ k. single_other h (lane b z) (lane a k) (λ p. n (cc))) y,
          other_aisle b a z y n,
          other_aisle b a (suc z) y n,
        )
  ]

  way_single :
      (f : ℕ → ℕ) (b : ℕ) → suc b < h.aisles → ((c : ℕ) → f c ≡ same b c) → (d a y : ℕ) →
      way h d f a y ≡ same_spot (spot b d) (spot a y) + same_spot (spot (suc b) d) (spot a y)
  way_single f b i e d a y = elim (ℕ_discrete d y) [
    | yes p ↦
        omega (
          arith,
          pick_eq y d (line f (h.aisles - 1) a) 0 (sym p),
          line_single f (h.aisles - 1) b (omega arith) e a,
          same_by_aisle b a d y p,
          same_by_aisle (suc b) a d y p,
        )
    | no n ↦ omega (arith, pick_ne y d (line f (h.aisles - 1) a) 0 (λ p. n (sym p)), other_depth b a d y n, other_depth (suc b) a d y n)
  ]

  way_zero : (f : ℕ → ℕ) → ((c : ℕ) → f c ≡ 0) → (d a y : ℕ) → way h d f a y ≡ 0
  way_zero f z d a y = pick_zero (eqb y d) _ (line_zero f (h.aisles - 1) z a)

  meet_single : (e : Edge) → In h e → (a y : ℕ) → meet h (uses_of (single h e)) a y ≡ ends_at (house_graph h) (spot a y) e
  unfolding ends_at
  meet_single (lane b z) (i, j) a y =
      omega (
        arith,
        meet_lines h (uses_of (single h (lane b z))) a y,
        lane_single b z j a y,
        way_zero _ (λ c. single_unlike h (lane b z) (front c) (λ e. cc)) 0 a y,
        way_zero _ (λ c. single_unlike h (lane b z) (back c) (λ e. cc)) h.deep a y,
      )
  meet_single (front b) i a y =
      omega (
        arith,
        meet_lines h (uses_of (single h (front b))) a y,
        line_zero _ h.deep (λ k. single_unlike h (front b) (lane a k) (λ e. cc)) y,
        way_single _ b i (single_front h b) 0 a y,
        way_zero _ (λ c. single_unlike h (front b) (back c) (λ e. cc)) h.deep a y,
      )
  meet_single (back b) i a y =
      omega (
        arith,
        meet_lines h (uses_of (single h (back b))) a y,
        line_zero _ h.deep (λ k. single_unlike h (back b) (lane a k) (λ e. cc)) y,
        way_zero _ (λ c. single_unlike h (back b) (front c) (λ e. cc)) 0 a y,
        way_single _ b i (single_back h b) h.deep a y,
      )

  -- an edge of the house ends in the house
  src_inside : (e : Edge) → In h e → Inside h (src h e)
  src_inside (lane b z) i = omega arith
  src_inside (front b) i = omega arith
  src_inside (back b) i = omega arith

  dst_inside : (e : Edge) → In h e → Inside h (dst h e)
  dst_inside (lane b z) i = omega arith
  dst_inside (front b) i = omega arith
  dst_inside (back b) i = omega arith

  pub degree_single : (e : Edge) → In h e → (s : Spot) → degree h (single h e) s ≡ ends_at (house_graph h) s e
  unfolding ends_at
  degree_single e i s =
      elim (inside? h s) [
        | yes j ↦ degree_inside h (single h e) s j ∙ meet_single e i s.aisle s.depth
        | no n ↦
            omega (
              arith,
              degree_outside h (single h e) s n,
              indicator_no (spot_dec (src h e) s) (λ p. n (subst (Inside h) p (src_inside e i))),
              indicator_no (spot_dec (dst h e) s) (λ p. n (subst (Inside h) p (dst_inside e i))),
            )
      ]
