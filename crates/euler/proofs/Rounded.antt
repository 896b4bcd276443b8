-- The uses in a slice are round exactly where they are Eulerian from the desk back to it and link every pick with it. Assumes nothing.
use Rattle.std.proofs.Common.{◌≡◌, ℕ, ◌<◌, List, [], length, get_or, refl, arith}
use Rattle.graph.specs.Graph.{Graph, Laws, Linked}
use Rattle.graph.specs.Trails.{Eulerian}
use Rattle.graph.proofs.Links.{linked_more}
use Rattle.graph.proofs.Sums.{sum_alike}
use Rattle.house.specs.House.{House, Spot, desk}
use Rattle.uses.specs.Edges.{Edge, lane, front, back, In, use_of, house_graph}
use Rattle.uses.specs.Layout.{held_in, uses_in}
use Rattle.uses.specs.Uses.{Uses, Round}
use Rattle.uses.proofs.Laws.{house_laws}
use Rattle.uses.proofs.Rings.{to_ring, from_ring, ring_eulerian, eulerian_ring}

module _ (G : Graph) {size : (G.Edge → ℕ) → ℕ} (laws : Laws G size) {u v : G.Edge → ℕ} (same : (e : G.Edge) → G.In e → u e ≡ v e) where
  pub linked_alike : {s t : G.Spot} → Linked G u s t → Linked G v s t
  linked_alike l = linked_more G (λ e i p. omega (arith, same e i)) l

  -- only the edges that are there count
  pub eulerian_alike : {s t : G.Spot} → Eulerian G u s t → Eulerian G v s t
  eulerian_alike k =
      record {
        even = λ x. omega (arith, k.even x, sum_alike G (laws.degree x) u v same);
        held = λ x p. linked_alike (k.held x (omega (arith, sum_alike G (laws.degree x) u v same)));
      }

module _ (h : House) (us : List ℕ) where
  held_is : (e : Edge) → In h e → use_of (uses_in h us) e ≡ held_in h us e
  held_is (lane a y) i = refl
  held_is (front a) i = refl
  held_is (back a) i = refl

  module _ {picks : List Spot} (round : Round h picks (uses_in h us)) where
    pub round_eulerian : Eulerian (house_graph h) (held_in h us) desk desk
    round_eulerian = eulerian_alike (house_graph h) (house_laws h) held_is (ring_eulerian (to_ring round))

    pub round_picked : (i : ℕ) (d : Spot) → i < length picks → Linked (house_graph h) (held_in h us) desk (get_or picks i d)
    round_picked i d l = linked_alike (house_graph h) (house_laws h) held_is ((to_ring round).picked i d l)

  pub eulerian_round :
      {picks : List Spot} → Eulerian (house_graph h) (held_in h us) desk desk →
      ((i : ℕ) (d : Spot) → i < length picks → Linked (house_graph h) (held_in h us) desk (get_or picks i d)) → Round h picks (uses_in h us)
  eulerian_round k picked = from_ring (held_in h us) (eulerian_ring k picked)

-- uses that are round for a list are round for none
pub round_for_none : {h : House} {u : Uses} {picks : List Spot} → Round h picks u → Round h [] u
round_for_none round = record { even = round.even; used = round.used; picked = λ i d l. absurd (omega arith) }
