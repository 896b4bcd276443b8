-- Every edge of the house used twice is round: so there are round uses, and plans. Assumes nothing.
use Rattle.std.proofs.Common.{ℕ, zero, suc, ◌<◌, ◌≤◌, List, get_or, refl, inl, arith}
use Rattle.graph.specs.Graph.{Linked, here}
use Rattle.graph.proofs.Links.{linked_by, linked_trans}
use Rattle.house.specs.House.{House, Spot, spot, desk, Sound}
use Rattle.uses.specs.Edges.{Edge, lane, front, house_graph}
use Rattle.uses.proofs.Degree.{inside?, degree_outside}
use Rattle.uses.proofs.Laws.{house_laws}
use Rattle.uses.proofs.Rings.{Ring}

abbrev pub all_twice : Edge → ℕ
all_twice e = 2

module _ (h : House) where
  along_front : (a : ℕ) → a < h.aisles → Linked (house_graph h) all_twice desk (spot a 0)
  along_front zero i = here
  along_front (suc a) i = linked_trans (house_graph h) (along_front a (omega arith)) (linked_by (house_graph h) (front a) i (omega arith) (inl (refl, refl)))

  into_aisle : (a y : ℕ) → a < h.aisles → y ≤ h.deep → Linked (house_graph h) all_twice desk (spot a y)
  into_aisle a zero i j = along_front a i
  into_aisle a (suc y) i j =
      linked_trans (house_graph h) (into_aisle a y i (omega arith)) (linked_by (house_graph h) (lane a y) (i, j) (omega arith) (inl (refl, refl)))

  pub all_twice_ring : {picks : List Spot} → Sound h picks → Ring h picks all_twice
  all_twice_ring {picks} sound =
      record {
        even = λ s. omega (arith, ((house_laws h).degree s).add (λ e. 1) (λ e. 1) all_twice (λ e i. refl));
        used = λ s p. elim (inside? h s) [ yes i ↦ into_aisle s.aisle s.depth i.0 i.1 | no n ↦ absurd (omega (arith, degree_outside h all_twice s n)) ];
        picked = λ i d l. let s = get_or picks i d in into_aisle s.aisle s.depth (sound.inside i d l).0 (omega (arith, sound.inside i d l));
      }
