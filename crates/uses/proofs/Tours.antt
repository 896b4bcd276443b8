-- The uses of a tour are round and cost its length; and all round uses are those of a tour. Assumes nothing.
use Rattle.std.proofs.Common.{◌≡◌, ℕ, List, sym, ◌∙◌}
use Rattle.graph.proofs.Euler.{eulerian_is_walked}
use Rattle.graph.proofs.Sums.{sum_alike}
use Rattle.graph.proofs.Walked.{sum_of_walked, passes_linked, walked_is_eulerian, walks_past}
use Rattle.house.specs.House.{House, Spot}
use Rattle.walk.specs.Walk.{Walk, Tour, long, length_of}
use Rattle.uses.specs.Uses.{cost}
use Rattle.uses.specs.Edges.{Edge, In, uses_of, house_graph}
use Rattle.uses.specs.Promise.{CountedIsRound, TourIsRound}
use Rattle.uses.specs.Tours.{RoundIsTour}
use Rattle.uses.specs.Walked.{to_trail, counted}
use Rattle.uses.proofs.Laws.{house_laws, house_cost}
use Rattle.uses.proofs.Rings.{Ring, to_ring, from_ring, ring_eulerian, eulerian_ring}
use Rattle.uses.proofs.Walks.{trail_length, trail_passes, to_walk, walk_passes, walk_counted}

module _ (h : House) where
  -- what a walk uses costs its length
  pub counted_cost : {s t : Spot} (w : Walk h s t) → cost h (uses_of (counted h w)) ≡ long w
  counted_cost w = sum_of_walked (house_graph h) (house_cost h) (to_trail h w) ∙ trail_length h w

  -- what a tour uses is round
  pub counted_ring : {picks : List Spot} (t : Tour h picks) → Ring h picks (counted h t.walk)
  counted_ring t =
      eulerian_ring
      (walked_is_eulerian (house_graph h) (house_laws h) (to_trail h t.walk))
      (λ i d l. passes_linked (house_graph h) (to_trail h t.walk) _ (trail_passes h t.walk _ (t.all i d l)))

  -- a tour with exactly these uses
  pub record Toured (picks : List Spot) (f : Edge → ℕ) : Type 0 where
    pub tour : Tour h picks
    pub uses : (e : Edge) → In h e → counted h tour.walk e ≡ f e

  -- Euler's theorem, in the house
  pub ring_toured : {picks : List Spot} {f : Edge → ℕ} → Ring h picks f → Toured picks f
  ring_toured r =
      let k = eulerian_is_walked (house_graph h) (house_laws h) (ring_eulerian r) in
      record {
        tour = record { walk = to_walk h k.trail; all = λ i d l. walk_passes h k.trail _ (walks_past (house_graph h) (house_laws h) k (r.picked i d l)) };
        uses = λ e i. walk_counted h k.trail e ∙ k.uses e i;
      }

  pub toured_length : {picks : List Spot} {f : Edge → ℕ} (t : Toured picks f) → length_of t.tour ≡ cost h (uses_of f)
  toured_length {f = f} t = sym (counted_cost t.tour.walk) ∙ sum_alike (house_graph h) (house_cost h) _ f t.uses

pub counted_is_round : CountedIsRound
counted_is_round h picks t sound = (from_ring (counted h t.walk) (counted_ring h t), counted_cost h t.walk)

pub tour_is_round : TourIsRound
tour_is_round h picks t sound = let (round, long) = counted_is_round h picks t sound in (uses_of (counted h t.walk), round, long)

pub round_is_tour : RoundIsTour
round_is_tour h picks u sound round = let t = ring_toured h (to_ring round) in (t.tour, toured_length h t)
