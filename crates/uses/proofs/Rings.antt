-- Round uses, told by edges: every degree is even, and every spot that is used, and every pick, is linked with the desk. Assumes nothing.
use Rattle.std.proofs.Common.{◌≡◌, ℕ, ◌%◌, ◌<◌, List, length, get_or, arith}
use Rattle.graph.specs.Graph.{Linked}
use Rattle.graph.specs.Trails.{Eulerian}
use Rattle.house.specs.House.{House, Spot, spot, desk}
use Rattle.uses.specs.Uses.{Uses, Round}
use Rattle.uses.specs.Edges.{Edge, use_of, uses_of, degree, house_graph}
use Rattle.uses.proofs.Degree.{inside?, degree_inside, degree_outside}
use Rattle.uses.proofs.Links.{to_link, from_link}

pub record Ring (h : House) (picks : List Spot) (f : Edge → ℕ) : Type 0 where
  pub even : (s : Spot) → degree h f s % 2 ≡ 0
  pub used : (s : Spot) → 0 < degree h f s → Linked (house_graph h) f desk s
  pub picked : (i : ℕ) (d : Spot) → i < length picks → Linked (house_graph h) f desk (get_or picks i d)

module _ {h : House} {picks : List Spot} where
  pub to_ring : {u : Uses} → Round h picks u → Ring h picks (use_of u)
  to_ring {u} r = record {
    even = λ s. elim (inside? h s) [
      | yes i ↦ omega (arith, degree_inside h (use_of u) s i, r.even s.aisle s.depth i.0 i.1)
      | no n ↦ omega (arith, degree_outside h (use_of u) s n)
    ];
    used = λ s p. elim (inside? h s) [
      | yes i ↦ to_link h (r.used s.aisle s.depth i.0 i.1 (omega (arith, degree_inside h (use_of u) s i)))
      | no n ↦ absurd (omega (arith, degree_outside h (use_of u) s n))
    ];
    picked = λ i d l. to_link h (r.picked i d l);
  }

  pub from_ring : (f : Edge → ℕ) → Ring h picks f → Round h picks (uses_of f)
  from_ring f r = record {
    even = λ a y i j. omega (arith, degree_inside h f (spot a y) (i, j), r.even (spot a y));
    used = λ a y i j p. from_link h (r.used (spot a y) (omega (arith, degree_inside h f (spot a y) (i, j))));
    picked = λ i d l. from_link h (r.picked i d l);
  }

  -- a ring is Eulerian from the desk back to it
  pub ring_eulerian : {f : Edge → ℕ} → Ring h picks f → Eulerian (house_graph h) f desk desk
  ring_eulerian r = record { even = λ s. omega (arith, r.even s); held = r.used }

  pub eulerian_ring :
      {f : Edge → ℕ} → Eulerian (house_graph h) f desk desk →
      ((i : ℕ) (d : Spot) → i < length picks → Linked (house_graph h) f desk (get_or picks i d)) → Ring h picks f
  eulerian_ring e picked = record { even = λ s. omega (arith, e.even s); used = e.held; picked = picked }
