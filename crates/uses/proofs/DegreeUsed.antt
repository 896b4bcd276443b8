-- Where the degree of a spot is positive, an edge of the house that ends there is in use. Assumes nothing.
use Rattle.std.proofs.Common.{◌≡◌, ℕ, suc, ◌-◌, ◌<◌, ◌≤◌, ◌⊎◌, ap, inl, inr, arith}
use native.Mathlib.Decide.{dec_lt}
use Rattle.house.specs.House.{House, Spot, spot}
use Rattle.uses.specs.Uses.{meet}
use Rattle.uses.specs.Edges.{Edge, lane, front, back, In, src, dst, uses_of, degree}
use Rattle.uses.proofs.Degree.{way, meet_lines, inside?, degree_inside, degree_outside}
use Rattle.uses.proofs.Lines.{line, StepAt, line_used}
use Rattle.uses.proofs.Picks.{pick_eq_some}

module _ (h : House) (f : Edge → ℕ) where
  -- an edge in use that ends at a spot
  pub record Touches (s : Spot) : Type 0 where
    pub edge : Edge
    pub inside : In h edge
    pub positive : 0 < f edge
    pub ends : (src h edge ≡ s) ⊎ (dst h edge ≡ s)

  lane_used : (a y : ℕ) → a < h.aisles → y ≤ h.deep → 0 < line (λ z. f (lane a z)) h.deep y → Touches (spot a y)
  lane_used a y i j p = at (line_used _ h.deep y j p)
    where
      ends : (z : ℕ) → (z ≡ y) ⊎ (suc z ≡ y) → (spot a z ≡ spot a y) ⊎ (spot a (suc z) ≡ spot a y)
      ends z (inl e) = inl (ap (spot a) e)
      ends z (inr e) = inr (ap (spot a) e)

      at : StepAt (λ z. f (lane a z)) h.deep y → Touches (spot a y)
      at b = record { edge = lane a b.step; inside = (i, b.inside); positive = b.positive; ends = ends b.step b.ends }

  -- a passage in use that leads to or from aisle a, at a depth d
  record Passage (g : ℕ → ℕ) (d : ℕ) (s : Spot) : Type 0 where
    from : ℕ
    inside : suc from < h.aisles
    positive : 0 < g from
    ends : (spot from d ≡ s) ⊎ (spot (suc from) d ≡ s)

  way_used : (g : ℕ → ℕ) (d a y : ℕ) → a < h.aisles → 0 < way h d g a y → Passage g d (spot a y)
  way_used g d a y i p = at (pick_eq_some y d _ p)
    where
      ends : y ≡ d → (b : ℕ) → (b ≡ a) ⊎ (suc b ≡ a) → (spot b d ≡ spot a y) ⊎ (spot (suc b) d ≡ spot a y)
      ends e b (inl q) = inl (cc)
      ends e b (inr q) = inr (cc)

      at : (y ≡ d) × (0 < line g (h.aisles - 1) a) → Passage g d (spot a y)
      at (e, q) =
          let b = line_used g (h.aisles - 1) a (omega arith) q in
          record { from = b.step; inside = omega (arith, b.inside); positive = b.positive; ends = ends e b.step b.ends }

  front_used : {s : Spot} → Passage (λ b. f (front b)) 0 s → Touches s
  front_used p = record { edge = front p.from; inside = p.inside; positive = p.positive; ends = p.ends }

  back_used : {s : Spot} → Passage (λ b. f (back b)) h.deep s → Touches s
  back_used p = record { edge = back p.from; inside = p.inside; positive = p.positive; ends = p.ends }

  meet_used : (a y : ℕ) → a < h.aisles → y ≤ h.deep → 0 < meet h (uses_of f) a y → Touches (spot a y)
  meet_used a y i j p =
      elim (dec_lt 0 (line (λ z. f (lane a z)) h.deep y)) [
        | yes q ↦ lane_used a y i j q
        | no k ↦
            elim (dec_lt 0 (way h 0 (λ b. f (front b)) a y)) [
              | yes q ↦ front_used (way_used _ 0 a y i q)
              | no l ↦ back_used (way_used _ h.deep a y i (omega (arith, meet_lines h (uses_of f) a y)))
            ]
      ]

  pub degree_used : (s : Spot) → 0 < degree h f s → Touches s
  degree_used s p =
      elim (inside? h s) [
        | yes i ↦ meet_used s.aisle s.depth i.0 i.1 (omega (arith, degree_inside h f s i))
        | no n ↦ absurd (omega (arith, degree_outside h f s n))
      ]
