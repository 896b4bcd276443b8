-- Between two unused steps of an aisle no spot is linked with the desk, so in round uses nothing there is used and no pick lies there.
-- Assumes nothing.
use Rattle.std.proofs.Common.{◌≡◌, ℕ, ◌<◌, ◌≤◌, List, get_or, refl, ap, subst, inl, inr, arith}
use native.Mathlib.Decide.{dec_lt, ℕ_discrete}
use Rattle.graph.specs.Graph.{Linked}
use Rattle.graph.proofs.Links.{keeps_ends}
use Rattle.graph.proofs.Sums.{degree_at_start}
use Rattle.house.specs.House.{House, Spot, spot, desk}
use Rattle.uses.specs.Edges.{Edge, lane, front, back, In, src, dst, house_graph}
use Rattle.uses.proofs.Laws.{house_laws}
use Rattle.uses.proofs.Rings.{Ring}
use Rattle.aisle.specs.Kinds.{Stops}
use Rattle.aisle.proofs.Unused.{Unused, CutOut}

module _ (h : House) (picks : List Spot) (f : Edge → ℕ) (a : ℕ) (u : Unused (λ y. f (lane a y)) h.deep) where
  -- the spots between the two unused steps
  abbrev Between : Spot → Type 0
  Between s = (s.aisle ≡ a) × (u.first < s.depth) × (s.depth ≤ u.last)

  -- an edge in use has both ends between them or none
  leads_in : (e : Edge) → In h e → 0 < f e → Between (dst h e) → Between (src h e)
  leads_in (lane b y) i p (same, j, k) =
      elim (ℕ_discrete y u.first) [
        | yes e ↦ absurd (omega (arith, u.first_unused, subst (λ c. 0 < f (lane c y)) same p, ap (λ z. f (lane a z)) e))
        | no n ↦ (same, omega arith, omega arith)
      ]
  leads_in (front b) i p (same, j, k) = absurd (omega arith)
  leads_in (back b) i p (same, j, k) = absurd (omega arith)

  leads_out : (e : Edge) → In h e → 0 < f e → Between (src h e) → Between (dst h e)
  leads_out (lane b y) i p (same, j, k) =
      elim (ℕ_discrete y u.last) [
        | yes e ↦ absurd (omega (arith, u.last_unused, subst (λ c. 0 < f (lane c y)) same p, ap (λ z. f (lane a z)) e))
        | no n ↦ (same, omega arith, omega arith)
      ]
  leads_out (front b) i p (same, j, k) = absurd (omega arith)
  leads_out (back b) i p (same, j, k) = absurd (omega (arith, u.inside))

  cut_off : (s : Spot) → Between s → ¬ (Linked (house_graph h) f desk s)
  cut_off s between l =
      keeps_ends (house_graph h) (λ t. ¬ (Between t))
      (λ e i p. (λ k b. k (leads_in e i p b), λ k b. k (leads_out e i p b)))
      l (λ b. omega (arith, b.1)) between

  module _ (ring : Ring h picks f) (i : a < h.aisles) where
    -- from the first unused step to the last none is used
    unused_between : (y : ℕ) → u.first ≤ y → y ≤ u.last → f (lane a y) ≡ 0
    unused_between y j k =
        elim (dec_lt 0 (f (lane a y))) [
          | no z ↦ omega arith
          | yes p ↦
              elim (dec_lt u.first y) [
                | yes l ↦
                    absurd (cut_off (spot a y) (refl, l, k)
                    (ring.used (spot a y) (degree_at_start (house_graph h) (house_laws h) f (lane a y) (i, omega (arith, u.inside)) p (inl (refl, refl)))))
                | no l ↦ let e : y ≡ u.first = omega arith in absurd (omega (arith, u.first_unused, ap (λ z. f (lane a z)) e))
              ]
        ]

    no_stop_between : (y : ℕ) → u.first < y → y ≤ u.last → ¬ (Stops h picks a y)
    unfolding Stops
    no_stop_between y j k (inl e) = omega arith
    no_stop_between y j k (inr (inl e)) = omega (arith, u.inside)
    no_stop_between y j k (inr (inr (n, d, l, same, e))) =
        cut_off (get_or picks n d) (same, omega arith, omega arith) (ring.picked n d l)

    pub cut_out : CutOut (Stops h picks a) (λ y. f (lane a y)) u
    cut_out = record { unused = unused_between; no_stop = no_stop_between }
