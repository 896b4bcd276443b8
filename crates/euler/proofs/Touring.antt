-- A closed walk with the uses of a slice is a tour past every pick that they link with the desk, and shows that they are round. Assumes nothing.
use Rattle.std.proofs.Common.{ℕ, true, List, [], sym, ◌∙◌, inl, inr, arith}
use Rattle.graph.specs.Trails.{passes}
use Rattle.graph.proofs.Walked.{walked_is_eulerian, walks_past}
use Rattle.house.specs.House.{House, Spot}
use Rattle.walk.specs.Walk.{Walk, Passes}
use Rattle.uses.specs.Edges.{house_graph}
use Rattle.uses.specs.Layout.{held_in, uses_in}
use Rattle.uses.specs.Uses.{Round}
use Rattle.uses.specs.Walked.{to_trail}
use Rattle.uses.proofs.Laws.{house_laws}
use Rattle.uses.proofs.Tours.{Toured, toured_length}
use Rattle.euler.specs.Passing.{Closes, Settled}
use Rattle.euler.specs.Walking.{Measured, Tours, WalksOver}
use Rattle.euler.specs.declared.answer.Walked.{Walked}
use Rattle.euler.proofs.Rounded.{eulerian_alike, round_picked, eulerian_round}

module _ (h : House) where
  -- a walk passes what its trail passes
  trail_passed : {s t : Spot} (w : Walk h s t) (p : Spot) → passes (house_graph h) (to_trail h w) p → Passes w p
  unfolding to_trail passes Passes
  trail_passed Walk.stay p e = e
  trail_passed (Walk.on w g) p (inl e) = inl e
  trail_passed (Walk.on w g) p (inr q) = inr (trail_passed w p q)

  module _ {us steps : List ℕ} {n : ℕ} (z : Closes h us steps n) where
    toured : {picks : List Spot} → Round h picks (uses_in h us) → Toured h picks (held_in h us)
    toured round =
        record {
          tour =
              record {
                walk = z.walk;
                all =
                    λ i d l.
                    trail_passed z.walk _
                    (walks_past (house_graph h) (house_laws h) (record { trail = to_trail h z.walk; uses = z.uses }) (round_picked h us round i d l));
              };
          uses = z.uses;
        }

    closes_round : Round h [] (uses_in h us)
    closes_round =
        eulerian_round h us
        (eulerian_alike (house_graph h) (house_laws h) z.uses (walked_is_eulerian (house_graph h) (house_laws h) (to_trail h z.walk)))
        (λ i d l. absurd (omega arith))

  module _ (us us' steps steps' : List ℕ) {w : Walked} (measured : Measured h us w) where
    settled_tours :
        Settled h us us' steps steps' w.steps → {picks : List Spot} → Round h picks (uses_in h us) → Tours h picks us us' steps steps' w
    unfolding toured
    settled_tours z round =
        let t = toured z.closes round in
        record {
          tour = t.tour;
          uses = t.uses;
          number = measured.number;
          long = measured.costs ∙ sym (toured_length h t);
          costs = measured.costs;
          written = sym z.closes.written;
          kept = z.kept;
          used_up = z.used_up;
          beyond = z.beyond;
        }

    pub settled_over : Settled h us us' steps steps' w.steps → WalksOver h us us' steps steps' w true
    settled_over z = (closes_round z.closes, λ picks round. settled_tours z round)
