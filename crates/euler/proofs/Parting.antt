-- No step of a walk parts what is left over of its uses, since the rest of the walk uses all of it. Assumes nothing.
use Rattle.std.proofs.Common.{◌≡◌, ℕ, ◌+◌, ◌<◌, [], ◌∷◌, ◌++◌, sym, refl, ap, ◌∙◌, append_assoc, arith}
use Rattle.graph.specs.Graph.{one}
use Rattle.graph.specs.Trails.{walked}
use Rattle.graph.proofs.Sums.{sum_alike}
use Rattle.graph.proofs.Walked.{walked_is_eulerian}
use Rattle.house.specs.House.{House, Spot}
use Rattle.walk.specs.Walk.{Goes, byte_of, Walk, steps_of}
use Rattle.walk.proofs.Unique.{walk_unique}
use Rattle.uses.specs.Edges.{Edge, In, use_of, house_graph}
use Rattle.uses.specs.Uses.{Uses}
use Rattle.uses.specs.Walked.{edge_of, to_trail, counted}
use Rattle.uses.proofs.Laws.{house_laws}
use Rattle.uses.proofs.Links.{from_link}
use Rattle.uses.proofs.Single.{single_same}
use Rattle.euler.specs.Promise.{left_by, NeverParts}
use Rattle.euler.proofs.Joined.{join, steps_of_join, counted_join}
use Rattle.euler.proofs.Rounded.{linked_alike}

module _ (h : House) {s t x y : Spot} {n : ℕ} (w : Walk h s t) (first : Walk h s x) (g : Goes h x y n) (rest : Walk h y t) where
  counted_on : (e : Edge) → counted h (Walk.on first g) e ≡ counted h first e + one (house_graph h) (edge_of h g).edge e
  unfolding to_trail walked
  counted_on e = refl

  split_steps : steps_of (join (Walk.on first g) rest) ≡ steps_of first ++ (byte_of g ∷ steps_of rest)
  unfolding steps_of
  split_steps = steps_of_join (Walk.on first g) rest ∙ append_assoc (steps_of first) (byte_of g ∷ []) (steps_of rest)

  module _ (split : steps_of w ≡ steps_of first ++ (byte_of g ∷ steps_of rest)) where
    counted_split : (e : Edge) → counted h w e ≡ counted h (Walk.on first g) e + counted h rest e
    counted_split e =
        ap (λ (v : Walk h s t). counted h v e) (walk_unique w (join (Walk.on first g) rest) (split ∙ sym split_steps))
        ∙ counted_join (Walk.on first g) rest e

    module _ (u : Uses) (uses : (e : Edge) → In h e → use_of u e ≡ counted h w e) where
      -- what is left over after the step is what the rest of the walk uses
      left_is_rest : (e : Edge) → In h e → counted h rest e ≡ left_by h u (Walk.on first g) e
      left_is_rest e i = omega (arith, uses e i, counted_split e)

      step_left_over : 0 < left_by h u first (edge_of h g).edge
      step_left_over =
          let e = (edge_of h g).edge in
          omega (arith, uses e (edge_of h g).inside, counted_split e, counted_on e, single_same h e)

pub never_parts : NeverParts
never_parts h s t x y n w first g rest u split uses =
    let same = left_is_rest h w first g rest split u uses in
    record {
      left_over = step_left_over h w first g rest split u uses;
      linked =
          λ p some.
          from_link h (linked_alike (house_graph h) (house_laws h) same
          ((walked_is_eulerian (house_graph h) (house_laws h) (to_trail h rest)).held p
          (omega (arith, sum_alike (house_graph h) ((house_laws h).degree p) (counted h rest) (left_by h u (Walk.on first g)) same))));
    }
