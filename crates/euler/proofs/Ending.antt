-- The end of the pass: a closed walk with all uses, or a proof that they are not round. Assumes nothing.
use Rattle.std.proofs.Common.{◌≡◌, ℕ, ◌+◌, ◌-◌, ◌<◌, ◌≤◌, List, [], ◌++◌, length, take, drop, sym, ap, ◌∙◌, arith, take-add}
use Rattle.std.proofs.lemmas.List.{length_push}
use Rattle.graph.proofs.Sums.{sum_nothing, sum_zero_unused}
use Rattle.house.specs.House.{House, Spot, desk}
use Rattle.walk.specs.Walk.{Walk, byte_of, steps_of}
use Rattle.uses.specs.Edges.{Edge, In, degree, house_graph}
use Rattle.uses.specs.Layout.{held_in, uses_in}
use Rattle.uses.specs.Uses.{Round}
use Rattle.uses.specs.Walked.{to_trail}
use Rattle.uses.proofs.Laws.{size, house_laws}
use Rattle.euler.specs.Passing.{Closes}
use Rattle.euler.proofs.Halfway.{Halfway, stuck_at_tail, nothing_left}
use Rattle.euler.proofs.Joined.{join, steps_of_join, counted_join}
use Rattle.euler.proofs.Progress.{Progress}
use Rattle.euler.proofs.Rounded.{round_eulerian}

module _ (h : House) (us : List ℕ) (n : ℕ) where
  module _ {left steps : List ℕ} {top tail : ℕ} {x o : Spot} (p : Progress h us n left steps top tail x o) where
    -- with no place between stack and tail nothing is left over
    unused : tail ≤ top → (e : Edge) → In h e → held_in h left e ≡ 0
    unused met e i = sum_zero_unused (house_graph h) (house_laws h).count (held_in h left) e i (omega arith) (omega (arith, p.room))

    pub nothing_here : tail ≤ top → degree h (held_in h left) x ≡ 0
    nothing_here met = sum_nothing (house_graph h) ((house_laws h).degree x) (held_in h left) (unused met)

    -- stuck elsewhere than where the tail begins
    pub odd_spot : degree h (held_in h left) x ≡ 0 → ¬ (x ≡ o) → Round h [] (uses_in h us) → ⊥
    odd_spot stuck other round = other (sym (stuck_at_tail (house_graph h) (house_laws h) p.half (round_eulerian h us round).even stuck))

  -- stack and tail meet at a spot, and together they are the walk
  pub whole_walk : {left steps : List ℕ} {top tail : ℕ} {x : Spot} → Progress h us n left steps top tail x x → tail ≤ top → Closes h us steps n
  whole_walk {left} {steps} {top} {tail} p met =
      let same : tail ≡ top = omega (arith, p.room) in
      let sum : top + (n - tail) ≡ n = omega (arith, p.fits) in
      record {
        walk = join p.stack p.rest;
        written =
            steps_of_join p.stack p.rest ∙ (λ i. p.stacked i ++ p.finished i)
            ∙ ap (λ (k : ℕ). take top steps ++ take (n - tail) (drop k steps)) same
            ∙ sym (take-add top (n - tail) steps) ∙ ap (λ (k : ℕ). take k steps) sum;
        uses = λ e i. omega (arith, counted_join p.stack p.rest e, p.half.splits e i, unused p met e i);
      }

  -- a tail that is closed, with something left over elsewhere
  parted :
      (left : List ℕ) {x : Spot} (stack : Walk h desk x) (rest : Walk h x desk) → length (steps_of stack) ≡ 0 →
      Halfway (house_graph h) (to_trail h stack) (to_trail h rest) (held_in h us) (held_in h left) → degree h (held_in h left) x ≡ 0 →
      0 < size h (held_in h left) → Round h [] (uses_in h us) → ⊥
  unfolding steps_of to_trail
  parted left Walk.stay rest none half stuck some round =
      omega (
        arith,
        sum_nothing (house_graph h) (house_laws h).count (held_in h left)
            (nothing_left (house_graph h) (house_laws h) half stuck (round_eulerian h us round)),
      )
  parted left (Walk.on w g) rest none half stuck some round = absurd (omega (arith, length_push (steps_of w) (byte_of g)))

  pub parted_uses :
      {left steps : List ℕ} {tail : ℕ} {x : Spot} → Progress h us n left steps 0 tail x x → degree h (held_in h left) x ≡ 0 → 0 < tail →
      Round h [] (uses_in h us) → ⊥
  parted_uses {left} p stuck some = parted left p.stack p.rest (ap length p.stacked) p.half stuck (omega (arith, p.room))
