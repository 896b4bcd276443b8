-- The kinds of use of an aisle are enough, also where only what lies between two neighbouring stops may be left out. Assumes nothing.
use Rattle.std.proofs.Common.{ℕ, ◌≤◌, arith}
use Rattle.house.specs.House.{House}
use Rattle.uses.specs.Uses.{Uses, at_most_two}
use Rattle.uses.specs.Edges.{Edge, lane, front, back, use_of, uses_of}
use Rattle.uses.proofs.Rings.{to_ring, from_ring}
use Rattle.uses.proofs.Twice.{twice_enough}
use Rattle.aisle.specs.Kinds.{Kind, Shape, KindsEnough, NeighboursEnough}
use Rattle.aisle.proofs.TidyHouse.{tidy, tidy_ring, tidy_small, tidy_shape, tidy_cheaper}

pub small_edges : (h : House) (u : Uses) → at_most_two h u → (e : Edge) → use_of u e ≤ 2
unfolding at_most_two
small_edges h u two (lane a y) = two.0 a y
small_edges h u two (front a) = (two.1 a).0
small_edges h u two (back a) = (two.1 a).1

pub neighbours_enough : NeighboursEnough
neighbours_enough h picks u sound round =
    let (v, around, two, cheaper) = twice_enough h picks u sound round in
    let f = use_of v in
    let ring = to_ring around in
    let small = small_edges h v two in (
      uses_of (tidy h picks f),
      from_ring (tidy h picks f) (tidy_ring h picks f ring small sound),
      tidy_small h picks f ring small,
      tidy_shape h picks f ring small,
      omega (arith, tidy_cheaper h picks f ring small, cheaper),
    )

-- a shape is a kind
pub shape_kind : {deep : ℕ} {stop : ℕ → Type 0} {f : ℕ → ℕ} → Shape deep stop f → Kind deep stop f
shape_kind (Shape.through each) = Kind.through each
shape_kind (Shape.twice each) = Kind.twice each
shape_kind (Shape.leaves g) =
    let n = g.neighbours in
    Kind.leaves g.lo g.hi (omega (arith, n.apart)) n.inside n.stop_lo n.stop_hi (λ y j k. g.before y k) g.after g.unused

pub kinds_enough : KindsEnough
kinds_enough h picks u sound round =
    let (v, around, two, shapes, cheaper) = neighbours_enough h picks u sound round in
    (v, around, two, λ a i. shape_kind (shapes a i), cheaper)
