-- Euler's theorem: uses that are Eulerian between two spots are those of a trail between them. Assumes nothing.
use mathlib.Core.Path.{refl}
use mathlib.Core.Logic.{◌⊎◌, inl, inr}
use Prim.Native.Nat.{ℕ, zero, suc, ◌<◌}
use native.Mathlib.Omega.{arith}
use native.Mathlib.Decide.{dec_lt}
use Rattle.graph.specs.Graph.{Graph, Laws, Linked, here, along}
use Rattle.graph.specs.Trails.{walked, passes, Balanced, Eulerian, Walks}
use Rattle.graph.proofs.Greedy.{Partly, trail_within, closed_within}
use Rattle.graph.proofs.Splice.{splice}
use Rattle.graph.proofs.Sums.{sum_zero_unused, degree_at_start, degree_at_end}
use Rattle.graph.proofs.Walked.{walked_is_eulerian, touched_passed, passes_start}

-- a spot of the trail where something is left over
record Open (G : Graph) {u : G.Edge → ℕ} {s t : G.Spot} (p : Partly G u s t) : Type 0 where
  spot : G.Spot
  passed : passes G p.trail spot
  left : 0 < G.deg p.rest spot

module _ (G : Graph) {size : (G.Edge → ℕ) → ℕ} (laws : Laws G size) where
  rest_balanced : {u : G.Edge → ℕ} {s t : G.Spot} (p : Partly G u s t) → Balanced G u s t → (y : G.Spot) → Balanced G p.rest y y
  rest_balanced {u} p even y x =
      omega (arith, even x, (walked_is_eulerian G laws p.trail).even x, (laws.degree x).add (walked G p.trail) p.rest u p.splits)

  -- going along a link from the start: the trail passes its end, or something is left over on the way
  find_open : {u : G.Edge → ℕ} {s t x : G.Spot} (p : Partly G u s t) → Linked G u s x → passes G p.trail x ⊎ Open G p
  find_open p here = inl (passes_start G p.trail)
  find_open p (along {t = t} {v = v} l e i q ends) = after (find_open p l)
    where
      after : passes G p.trail t ⊎ Open G p → passes G p.trail v ⊎ Open G p
      after (inr o) = inr o
      after (inl passed) =
          elim (dec_lt 0 (p.rest e)) [
            | yes r ↦ inr (record { spot = t; passed = passed; left = degree_at_start G laws p.rest e i r ends })
            | no r ↦ inl (touched_passed G laws p.trail v (degree_at_end G laws (walked G p.trail) e i (omega (arith, p.splits e i)) ends))
          ]

  open_spot : {u : G.Edge → ℕ} {s t : G.Spot} (p : Partly G u s t) → Eulerian G u s t → 0 < size p.rest → Open G p
  open_spot {u} {s} p euler h = at (laws.some_use p.rest h)
    where
      at : (e : G.Edge) × G.In e × (0 < p.rest e) → Open G p
      at (e, i, r) = elim (find_open p link) [ inl passed ↦ record { spot = G.src e; passed = passed; left = touch p.rest r } | inr o ↦ o ]
        where
          touch : (v : G.Edge → ℕ) → 0 < v e → 0 < G.deg v (G.src e)
          touch v q = degree_at_start G laws v e i q (inl (refl, refl))

          link : Linked G u s (G.src e)
          link = euler.held (G.src e) (touch u (omega (arith, p.splits e i)))

  -- one closed trail more, spliced in
  spliced : {u : G.Edge → ℕ} {s t : G.Spot} (p : Partly G u s t) (o : Open G p) → Partly G p.rest o.spot o.spot → Partly G u s t
  spliced p o c =
      let z = splice G p.trail o.passed c.trail in
      record { trail = z.trail; rest = c.rest; splits = λ e i. omega (arith, p.splits e i, c.splits e i, z.uses e) }

  -- closed trails are spliced in until nothing is left
  finish : (n : ℕ) {u : G.Edge → ℕ} {s t : G.Spot} → Eulerian G u s t → (p : Partly G u s t) → size p.rest < n → Walks G u s t
  unfolding spliced
  finish zero euler p h = absurd (omega arith)
  finish (suc n) euler p h =
      elim (dec_lt 0 (size p.rest)) [
        | yes q ↦
            let o = open_spot p euler q in
            let c = closed_within G laws p.rest o.spot (rest_balanced p euler.even o.spot) o.left in
            finish n euler (spliced p o c.partly) (omega (arith, c.shorter))
        | no q ↦
            record {
              trail = p.trail;
              uses = λ e i. omega (arith, p.splits e i, sum_zero_unused G laws.count p.rest e i (omega arith) (omega arith));
            }
      ]

  complete : {u : G.Edge → ℕ} {s t : G.Spot} → Eulerian G u s t → Partly G u s t → Walks G u s t
  complete euler p = finish (suc (size p.rest)) euler p (omega arith)

  -- Eulerian uses are those of a trail
  pub eulerian_is_walked : {u : G.Edge → ℕ} {s t : G.Spot} → Eulerian G u s t → Walks G u s t
  eulerian_is_walked {u} {s} {t} euler = complete euler (trail_within G laws u s t euler.even)
