-- How often a row of steps uses an edge: one more step counts for its own edge; and a row of steps uses what its walk uses. Assumes nothing.
use Rattle.std.proofs.Common.{◌≡◌, ℕ, ◌+◌, List, [], ◌∷◌, ◌++◌, Some, refl, ap, arith}
use Rattle.graph.specs.Graph.{one}
use Rattle.graph.specs.Trails.{walked}
use Rattle.house.specs.House.{House, Spot}
use Rattle.walk.specs.Walk.{Walk, byte_of, steps_of}
use Rattle.walk.specs.Steps.{landing, follow}
use Rattle.walk.proofs.Follow.{stays, first}
use Rattle.walk.proofs.Lands.{landing_of_step}
use Rattle.walk.proofs.Rows.{follow_of_walk}
use Rattle.uses.specs.Counting.{used_by}
use Rattle.uses.specs.Edges.{Edge, house_graph}
use Rattle.uses.specs.Looking.{edge_by}
use Rattle.uses.specs.Promise.{UsedByWalk}
use Rattle.uses.specs.Walked.{to_trail, counted}
use Rattle.uses.proofs.Taken.{edge_by_byte}

module _ (h : House) (e : Edge) where
  -- one use of the edge that a step from s goes along
  abbrev step_use : Spot → ℕ → ℕ
  step_use s b = one (house_graph h) (edge_by h s b) e

  used_more : (s : Spot) (b : ℕ) (bs : List ℕ) {t : Spot} → landing h s b ≡ Some t → used_by h s (b ∷ bs) e ≡ step_use s b + used_by h t bs e
  unfolding used_by
  used_more s b bs l = rw (l, used_by)

  pub used_none : (s : Spot) → used_by h s [] e ≡ 0
  unfolding used_by
  used_none s = refl

  -- one step more at the end
  pub used_push :
      (s : Spot) (bs : List ℕ) (b : ℕ) {t u : Spot} → follow h s bs ≡ Some t → landing h t b ≡ Some u →
      used_by h s (bs ++ (b ∷ [])) e ≡ used_by h s bs e + one (house_graph h) (edge_by h t b) e
  used_push s [] b {t} {u} f l =
      let at : s ≡ t = stays h s f in
      omega (arith, ap (λ (p : Spot). used_by h p (b ∷ []) e) at, used_more t b [] l, used_none s, used_none u)
  used_push s (c ∷ bs) b f l =
      let k = first h s c bs f in
      omega (arith, used_more s c (bs ++ (b ∷ [])) k.leads, used_more s c bs k.leads, used_push k.on bs b k.rest l)

  used_by_lem : {s t : Spot} (w : Walk h s t) → used_by h s (steps_of w) e ≡ counted h w e
  unfolding steps_of to_trail walked
  used_by_lem {s} Walk.stay = used_none s
  used_by_lem {s} (Walk.on {t = t} w g) =
      omega (
        arith,
        used_push s (steps_of w) (byte_of g) (follow_of_walk w).leads (landing_of_step g).leads,
        used_by_lem w,
        ap (λ (x : Edge). one (house_graph h) x e) (edge_by_byte h g),
      )

pub used_by_walk : UsedByWalk
used_by_walk h s t w e = used_by_lem h e w
