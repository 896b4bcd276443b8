-- A walk is its row of step bytes: the row leads where the walk ends, is as long and passes the same spots; and each row that stays in the house is a walk's. Assumes nothing.
use Rattle.std.proofs.Common.{◌≡◌, ℕ, ◌⊎◌, ◌↔◌, List, [], ◌∷◌, ◌++◌, Some, sym, refl, ap, ◌∙◌, subst, inl, inr, ⊎_elim, append_assoc, append-nil, arith}
use mathlib.Core.Logic.Iff
use Rattle.house.specs.House.{House, Spot}
use Rattle.walk.specs.Walk.{byte_of, Walk, long, steps_of, Passes}
use Rattle.walk.specs.Steps.{Within, follow, measure, reached, trace, Among}
use Rattle.walk.proofs.Lands.{landing_of_step, step_of_landing, end_within}
use Rattle.walk.proofs.Follow.{follow_push, measure_push, trace_push, first, stays}
use Rattle.walk.proofs.Among.{among_push}

-- what the row of a walk tells
pub record Followed {h : House} {s t : Spot} (w : Walk h s t) (bs : List ℕ) : Type 0 where
  pub row : steps_of w ≡ bs
  pub leads : follow h s bs ≡ Some t
  pub length_is : long w ≡ measure h bs
  pub passes : (p : Spot) → Passes w p ↔ Among p (trace h s bs)

pub follow_of_walk : {h : House} {s t : Spot} (w : Walk h s t) → Followed w (steps_of w)
unfolding steps_of long Passes follow measure reached
follow_of_walk (Walk.stay) =
    record { row = refl; leads = refl; length_is = refl; passes = λ p. (inl, elim [ inl e ↦ e | inr m ↦ absurd m ]) }
follow_of_walk {h} {s} (Walk.on {u = u} w g) =
    let v = follow_of_walk w in
    let l = landing_of_step g in
    let xs = steps_of w in
    record {
      row = refl;
      leads = follow_push h s xs (byte_of g) v.leads ∙ l.leads;
      length_is = omega (arith, v.length_is, l.worth_is, measure_push h xs (byte_of g));
      passes =
          λ p.
          subst
          (λ qs. ((u ≡ p) ⊎ Passes w p) ↔ Among p qs)
          (sym (trace_push h s xs (byte_of g) v.leads l.leads))
          (Iff.trans (⊎_elim inl (λ m. inr ((v.passes p).0 m)), ⊎_elim inl (λ m. inr ((v.passes p).1 m))) (Iff.symm (among_push p u (trace h s xs))));
    }

-- a walk with this row
pub record Walked (h : House) (s t : Spot) (bs : List ℕ) : Type 0 where
  pub walk : Walk h s t
  pub told : Followed walk bs

-- a walk goes on by a row of steps
go_on : {h : House} {s t u : Spot} (w : Walk h s t) (bs : List ℕ) → Within h t → follow h t bs ≡ Some u → (v : Walk h s u) × (steps_of v ≡ steps_of w ++ bs)
unfolding steps_of
go_on {h} {s} {t} w [] k e = subst (λ q. (v : Walk h s q) × (steps_of v ≡ steps_of w ++ [])) (stays h t e) (w, sym (append-nil (steps_of w)))
go_on {h} {s} {t} w (b ∷ bs) k e =
    let f = first h t b bs e in
    let g = step_of_landing b k f.leads in
    let r = go_on {t = f.on} (Walk.on w g.step) bs (end_within g.step) f.rest in
    (r.0, r.1 ∙ append_assoc (steps_of w) (byte_of g.step ∷ []) bs ∙ ap (λ c. steps_of w ++ (c ∷ bs)) g.byte)

pub walk_of_follow : {h : House} {s t : Spot} (bs : List ℕ) → Within h s → follow h s bs ≡ Some t → Walked h s t bs
unfolding steps_of
walk_of_follow bs k e = let r = go_on Walk.stay bs k e in record { walk = r.0; told = subst (Followed r.0) r.1 (follow_of_walk r.0) }

-- walks that end at one spot, are as long and pass the same spots
pub record Alike {h : House} {s t u : Spot} (w : Walk h s t) (v : Walk h s u) : Type 0 where
  pub ends : t ≡ u
  pub lengths : long w ≡ long v
  pub passes : (p : Spot) → Passes w p ↔ Passes v p
