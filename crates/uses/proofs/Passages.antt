-- Between two neighbouring aisles an even number of passages is used, and two at least where there is a pick beyond. Assumes nothing.
use Rattle.std.proofs.Common.{◌≡◌, ℕ, suc, ◌+◌, ◌%◌, ◌<◌, ◌≤◌, List, arith}
use native.Mathlib.Decide.{dec_le, ℕ_discrete}
use Rattle.graph.specs.Graph.{Adds, Linked, indicator}
use Rattle.graph.proofs.Cut.{Cut, cut_even, cut_crossed}
use Rattle.graph.proofs.Indicator.{indicator_yes, indicator_no}
use Rattle.graph.proofs.Sums.{adds_one_edge, adds_together}
use Rattle.house.specs.House.{House, Spot, spot, desk}
use Rattle.uses.specs.Edges.{Edge, lane, front, back, In, src, dst, house_graph}
use Rattle.uses.specs.Promise.{Passages}
use Rattle.uses.proofs.Laws.{house_laws}
use Rattle.uses.proofs.Rings.{Ring, to_ring, ring_eulerian}
use Rattle.uses.proofs.Same.{same, same_here, same_not}
use Rattle.uses.proofs.Single.{single, single_unlike, single_front, single_back}

module _ (h : House) (a : ℕ) where
  -- 1 at the spots up to aisle a, 0 beyond it
  unfoldable side : Spot → ℕ
  side s = indicator (dec_le s.aisle a)

  side_here : (s : Spot) → s.aisle ≤ a → side s ≡ 1
  unfolding side
  side_here s l = indicator_yes (dec_le s.aisle a) l

  side_beyond : (s : Spot) → a < s.aisle → side s ≡ 0
  unfolding side
  side_beyond s l = indicator_no (dec_le s.aisle a) (λ k. omega arith)

  -- the passages between aisle a and the next
  abbrev crossing : Edge → ℕ
  crossing e = single h e (front a) + single h e (back a)

  passages_add : suc a < h.aisles → Adds (house_graph h) (λ f. f (front a) + f (back a)) crossing
  passages_add i = adds_together (house_graph h) (adds_one_edge (house_graph h) (front a) i) (adds_one_edge (house_graph h) (back a) i)

  -- a passage from aisle b to the next leads from side to side where b is a
  passage_cut : (b y k : ℕ) → k ≡ same b a → (k + side (spot b y) + side (spot (suc b) y)) % 2 ≡ 0
  passage_cut b y k e =
      elim (ℕ_discrete b a) [
        | yes p ↦ omega (arith, same_here b a p, side_here (spot b y) (omega arith), side_beyond (spot (suc b) y) (omega arith))
        | no n ↦
            elim (dec_le b a) [
              | yes l ↦ omega (arith, same_not b a n, side_here (spot b y) l, side_here (spot (suc b) y) (omega arith))
              | no l ↦ omega (arith, same_not b a n, side_beyond (spot b y) (omega arith), side_beyond (spot (suc b) y) (omega arith))
            ]
      ]

  aisle_cut : Cut (house_graph h) side crossing
  unfolding side
  aisle_cut = record { across = across }
    where
      across : (e : Edge) → In h e → (crossing e + side (src h e) + side (dst h e)) % 2 ≡ 0
      across (lane b y) i = omega (arith, single_unlike h (lane b y) (front a) (λ e. cc), single_unlike h (lane b y) (back a) (λ e. cc))
      across (front b) i = passage_cut b 0 (crossing (front b)) (omega (arith, single_front h b a, single_unlike h (front b) (back a) (λ e. cc)))
      across (back b) i = passage_cut b h.deep (crossing (back b)) (omega (arith, single_back h b a, single_unlike h (back b) (front a) (λ e. cc)))

module _ {h : House} {picks : List Spot} {f : Edge → ℕ} (ring : Ring h picks f) (a : ℕ) (i : suc a < h.aisles) where
  pub passages_even : (f (front a) + f (back a)) % 2 ≡ 0
  passages_even = omega (arith, cut_even (house_graph h) (aisle_cut h a) (passages_add h a i) (house_laws h) (ring_eulerian ring))

  -- whoever links the desk with a spot beyond aisle a goes there and back
  pub passages_beyond : {s : Spot} → Linked (house_graph h) f desk s → a < s.aisle → 2 ≤ f (front a) + f (back a)
  passages_beyond {s} link beyond =
      let odd : (side h a desk + side h a s) % 2 ≡ 1 = omega (arith, side_here h a desk (omega arith), side_beyond h a s beyond) in
      omega (arith, passages_even, cut_crossed (house_graph h) (aisle_cut h a) (passages_add h a i) link odd)

pub passages : Passages
passages h picks u a sound round i =
    let ring = to_ring round in (passages_even ring a i, λ k d l beyond. passages_beyond ring a i (ring.picked k d l) beyond)
