-- Nothing need be used more than twice. Assumes nothing.
use Rattle.std.proofs.Common.{ℕ, List, refl}
use Rattle.graph.proofs.Class.{two, two_small}
use Rattle.graph.proofs.Halves.{halved_reduces, halved_links, halved_eulerian}
use Rattle.graph.proofs.Reduced.{sum_reduced}
use Rattle.house.specs.House.{House, Spot}
use Rattle.uses.specs.Uses.{at_most_two}
use Rattle.uses.specs.Edges.{Edge, use_of, uses_of, house_graph}
use Rattle.uses.specs.Promise.{TwiceEnough}
use Rattle.uses.proofs.Laws.{house_laws, house_cost}
use Rattle.uses.proofs.Rings.{Ring, to_ring, from_ring, ring_eulerian, eulerian_ring}

-- uses with pairs left out, down to two at most
abbrev pub halved : (Edge → ℕ) → Edge → ℕ
halved f e = two (f e)

module _ {h : House} {picks : List Spot} (f : Edge → ℕ) where
  pub halved_ring : Ring h picks f → Ring h picks (halved f)
  halved_ring r =
      eulerian_ring
      (halved_eulerian (house_graph h) f (halved f) (λ e i. refl) (house_laws h) (ring_eulerian r))
      (λ i d l. halved_links (house_graph h) f (halved f) (λ e i. refl) (r.picked i d l))

pub halved_small : (h : House) (f : Edge → ℕ) → at_most_two h (uses_of (halved f))
unfolding at_most_two
halved_small h f = (λ a y. two_small _, λ a. (two_small _, two_small _))

pub twice_enough : TwiceEnough
twice_enough h picks u sound round =
    let f = use_of u in (
      uses_of (halved f),
      from_ring (halved f) (halved_ring f (to_ring round)),
      halved_small h f,
      sum_reduced (house_graph h) (house_cost h) (halved_reduces (house_graph h) f (halved f) (λ e i. refl)),
    )
