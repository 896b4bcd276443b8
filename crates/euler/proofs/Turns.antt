-- The turns of the pass in the terms of the code. Assumes nothing.
use Rattle.std.proofs.Common.{◌≡◌, ℕ, ◌+◌, ◌-◌, ◌<◌, ◌≤◌, Bool, true, false, ◌⊎◌, List, [], length, get_or, set, sym, refl, ap, ◌∙◌, subst, subst₂, inl, inr, arith}
use mathlib.Core.Path.{subst₃}
use Rattle.std.proofs.lemmas.Bool.Decides.{nat_tests}
use Rattle.house.specs.House.{House, Spot, spot}
use Rattle.house.specs.Reading.{spot_of}
use Rattle.house.specs.declared.layout.Spot as code
use Rattle.walk.specs.Checking.{same}
use Rattle.uses.specs.Held.{held}
use Rattle.uses.specs.Edges.{degree}
use Rattle.uses.specs.Layout.{places, held_in, uses_in}
use Rattle.uses.specs.Uses.{Round}
use Rattle.euler.specs.Choosing.{Shut}
use Rattle.euler.specs.Passing.{begun, retreated, origin, Ran, Decides}
use Rattle.euler.specs.declared.pass.Pass.{Pass}
use Rattle.euler.proofs.Ending.{nothing_here, odd_spot, whole_walk, parted_uses}
use Rattle.euler.proofs.Progress.{Progress, progress_none, progress_off}
use Rattle.euler.proofs.Running.{progress_run}
use Rattle.euler.proofs.Stuck.{stuck_degree}
use Rattle.euler.proofs.Total.{held_zero, size_held}

same_spot : (p q : Spot) → same p q ≡ true → p ≡ q
same_spot p q e = let (a, y) : (p.aisle ≡ q.aisle) × (p.depth ≡ q.depth) = grind (arith, nat_tests) in λ i. spot (a i) (y i)

other_spot : (p q : Spot) → same p q ≡ false → ¬ (p ≡ q)
other_spot p q e f =
    let a : p.aisle ≡ q.aisle = ap (λ (s : Spot). s.aisle) f in
    let y : p.depth ≡ q.depth = ap (λ (s : Spot). s.depth) f in
    grind (arith, nat_tests)

module _ (h : House) (us : List ℕ) (n : ℕ) where
  abbrev pub Passing : List ℕ → List ℕ → Pass → Type 0
  Passing left steps p = Progress h us n left steps p.top p.tail (spot_of p.at) (spot_of p.end)

  pub passing_none : (steps : List ℕ) {p : Pass} → 1 ≤ h.aisles → n ≡ held us 0 (places h) → p ≡ begun n → Passing us steps p
  passing_none steps some e is = subst (Passing us steps) (sym is) (progress_none h us n steps some (e ∙ size_held h us))

  module _ {left steps : List ℕ} {p : Pass} (now : Passing left steps p) where
    pub passing_ran : {left' steps' : List ℕ} {q : Pass} → Ran h left left' steps steps' p q → places h ≤ length left → n ≤ length steps → Passing left' steps' q
    passing_ran {left'} {steps'} {q} r few fits =
        let first = subst (λ z. Progress h us n left steps p.top p.tail z (spot_of p.end)) (sym r.from) now in
        subst
        (λ z. Progress h us n left' steps' q.top q.tail z (spot_of q.end))
        r.to
        (rw (r.written, r.top, r.tail, r.end) (progress_run us n first few fits r.long r.leads r.worn))

    pub passing_off :
        {steps' : List ℕ} {q : Pass} {from : code.Spot} → ((b : ℕ) → Shut h left (spot_of p.at) b) → 0 < p.top →
        same (spot_of p.at) (spot_of p.end) ≡ true → n ≤ length steps →
        steps' ≡ set steps (p.tail - 1) (get_or steps (p.top - 1) 0) → q ≡ retreated p from →
        spot_of from ≡ origin (spot_of p.at) (get_or steps (p.top - 1) 0) → Passing left steps' q
    passing_off shut some here long written is start =
        let x = spot_of p.at in
        let top : p.top ≡ p.top - 1 + 1 = omega arith in
        let tail : p.tail ≡ p.tail - 1 + 1 = omega (arith, now.room) in
        let closed = subst₃ (λ i j z. Progress h us n left steps i j x z) top tail (sym (same_spot x (spot_of p.end) here)) now in
        rw (written, is) (
        subst
        (λ z. Progress h us n left (set steps (p.tail - 1) (get_or steps (p.top - 1) 0)) (p.top - 1) (p.tail - 1) z z)
        (sym start)
        (progress_off h us n closed long (stuck_degree h left x shut))
        )

    -- stuck where the tail does not begin
    passing_strays : degree h (held_in h left) (spot_of p.at) ≡ 0 → same (spot_of p.at) (spot_of p.end) ≡ false → Round h [] (uses_in h us) → ⊥
    passing_strays stuck other = odd_spot h us n now stuck (other_spot (spot_of p.at) (spot_of p.end) other)

    -- or stuck with no step to go back
    pub passing_fails :
        ((b : ℕ) → Shut h left (spot_of p.at) b) → p.top < p.tail → (p.top ≡ 0) ⊎ (same (spot_of p.at) (spot_of p.end) ≡ false) →
        Round h [] (uses_in h us) → ⊥
    passing_fails shut room why = at why (same (spot_of p.at) (spot_of p.end)) refl
      where
        stuck : degree h (held_in h left) (spot_of p.at) ≡ 0
        stuck = stuck_degree h left (spot_of p.at) shut

        at : (p.top ≡ 0) ⊎ (same (spot_of p.at) (spot_of p.end) ≡ false) → (b : Bool) → same (spot_of p.at) (spot_of p.end) ≡ b → Round h [] (uses_in h us) → ⊥
        at (inr other) b e = passing_strays stuck other
        at (inl none) false e = passing_strays stuck e
        at (inl none) true e =
            let closed = subst₂ (λ k z. Progress h us n left steps k p.tail (spot_of p.at) z) none (sym (same_spot (spot_of p.at) (spot_of p.end) e)) now in
            parted_uses h us n closed stuck (omega arith)

    pub passing_empties : p.tail ≤ p.top → (k : ℕ) → k < places h → get_or left k 0 ≡ 0
    passing_empties met = let none : held left 0 (places h) ≡ 0 = omega (arith, size_held h left, now.room) in held_zero left (places h) none

    pub passing_ends : {r : Bool} → p.tail ≤ p.top → r ≡ same (spot_of p.at) (spot_of p.end) → Decides h us steps n r
    passing_ends {r = true} met is =
        let here = same_spot (spot_of p.at) (spot_of p.end) (sym is) in
        whole_walk h us n (subst (Progress h us n left steps p.top p.tail (spot_of p.at)) (sym here) now) met
    passing_ends {r = false} met is = passing_strays (nothing_here h us n now met) (sym is)
