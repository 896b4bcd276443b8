-- One use written down in a slice of uses is one use less of its edge, and of no other. Assumes nothing.
use Rattle.std.proofs.Common.{◌≡◌, ℕ, ◌+◌, ◌-◌, ◌<◌, List, length, set, sym, ap, arith}
use Rattle.std.proofs.lemmas.List.{get_or-set_same, get_or-set_other}
use Rattle.graph.specs.Graph.{one}
use Rattle.graph.proofs.Sums.{sum_one_more}
use Rattle.house.specs.House.{House}
use Rattle.uses.specs.Edges.{Edge, In, edge_dec, house_graph}
use Rattle.uses.specs.Layout.{place, held_in}
use Rattle.uses.proofs.Laws.{size, house_laws}
use Rattle.uses.proofs.Places.{place_alone}
use Rattle.uses.proofs.Single.{single_same, single_other}

module _ (h : House) (left : List ℕ) (e : Edge) (inside : In h e) (here : place h e < length left) (used : 0 < held_in h left e) where
  abbrev less : List ℕ
  less = set left (place h e) (held_in h left e - 1)

  pub one_less : (x : Edge) → In h x → held_in h left x ≡ held_in h less x + one (house_graph h) e x
  one_less x i = by (edge_dec e x)
    where
      by : Dec (e ≡ x) → held_in h left x ≡ held_in h less x + one (house_graph h) e x
      by (yes same) =
          omega (
            arith,
            ap (held_in h left) same,
            ap (held_in h less) same,
            ap (one (house_graph h) e) same,
            single_same h e,
            get_or-set_same left (place h e) (held_in h left e - 1) 0 here,
          )
      by (no other) =
          omega (
            arith,
            single_other h e x other,
            get_or-set_other left (place h e) (place h x) (held_in h left e - 1) 0 (λ p. other (place_alone h e x inside i (sym p))),
          )

  pub size_one_less : size h (held_in h left) ≡ size h (held_in h less) + 1
  size_one_less = sum_one_more (house_graph h) (house_laws h).count (held_in h less) (held_in h left) e inside one_less
