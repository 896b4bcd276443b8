-- What the bytes of a tour leave counted in a slice is round and costs its length. Assumes nothing.
use Rattle.std.proofs.Common.{◌≡◌, ℕ, List, sym, ◌∙◌, arith}
use Rattle.graph.proofs.Links.{linked_more}
use Rattle.graph.proofs.Sums.{sum_alike}
use Rattle.house.specs.House.{House, Spot, desk}
use Rattle.uses.specs.Edges.{Edge, In, degree, house_graph}
use Rattle.uses.specs.Layout.{held_in}
use Rattle.uses.specs.Promise.{CountingIsRound}
use Rattle.uses.specs.Walked.{counted}
use Rattle.uses.proofs.Laws.{house_laws, house_cost}
use Rattle.uses.proofs.Rings.{Ring, from_ring}
use Rattle.uses.proofs.Tours.{counted_cost, counted_ring}
use Rattle.uses.proofs.UsedBy.{used_by_walk}

module _ (h : House) (f g : Edge → ℕ) (alike : (e : Edge) → In h e → f e ≡ g e) where
  degree_alike : (s : Spot) → degree h f s ≡ degree h g s
  degree_alike s = sum_alike (house_graph h) ((house_laws h).degree s) f g alike

  -- only the edges of the house count
  pub ring_alike : {picks : List Spot} → Ring h picks f → Ring h picks g
  ring_alike r =
      let linked = λ (s : Spot). linked_more (house_graph h) {u = f} {v = g} (λ e i p. omega (arith, alike e i)) {s = desk} {t = s} in
      record {
        even = λ s. omega (arith, degree_alike s, r.even s);
        used = λ s p. linked s (r.used s (omega (arith, degree_alike s)));
        picked = λ i d l. linked _ (r.picked i d l);
      }

pub counting_is_round : CountingIsRound
counting_is_round h picks t before after sound done =
    let f = counted h t.walk in
    let g = held_in h after in
    let alike : (e : Edge) → In h e → f e ≡ g e = λ e i. sym (done.exact e i ∙ used_by_walk h desk desk t.walk e) in
    (from_ring g (ring_alike h f g alike (counted_ring h t)), sym (sum_alike (house_graph h) (house_cost h) f g alike) ∙ counted_cost h t.walk)
