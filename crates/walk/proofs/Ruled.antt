-- Which rule decides of a way: a byte that is no step, a step that leads out, or the verdict where it leads somewhere. Assumes nothing.
use Rattle.std.proofs.Common.{◌≡◌, ℕ, ◌≤◌, List, [], ◌∷◌, length, Some, Ok, Err, Option, ap, ◌∙◌, arith}
use Rattle.house.specs.House.{House, Spot, desk}
use Rattle.house.specs.Rules.{at_pick}
use Rattle.house.specs.declared.refusal.Refusal.TheVariants.{NoStep, LeadsOut}
use Rattle.walk.specs.Walk.{Goes, byte_of}
use Rattle.walk.specs.Steps.{Within, follow}
use Rattle.walk.specs.Checking.{stray_from, exit_from, exit_rule, verdict_of, refused_or, judge_of}
use Rattle.walk.specs.Promise.{StepsBefore}
use Rattle.walk.proofs.Lands.{step_of_landing, landing_within}
use Rattle.walk.proofs.Follow.{first}
use Rattle.walk.proofs.Stray.{one_more, no_stray}
use Rattle.walk.proofs.Exit.{no_exit}

byte_small : {h : House} {s t : Spot} {n : ℕ} (g : Goes h s t n) → byte_of g ≤ 5
unfolding byte_of
byte_small (Goes.inward i j) = omega arith
byte_small (Goes.outward i j) = omega arith
byte_small (Goes.front_on i) = omega arith
byte_small (Goes.front_off i) = omega arith
byte_small (Goes.back_on i) = omega arith
byte_small (Goes.back_off i) = omega arith

-- a row that leads somewhere is of steps
follow_steps : {h : House} (s : Spot) (bs : List ℕ) {t : Spot} → Within h s → follow h s bs ≡ Some t → StepsBefore (length bs) bs
follow_steps s [] k e = λ i l. absurd (omega arith)
follow_steps {h} s (b ∷ bs) k e =
    let f = first h s b bs e in
    let g = step_of_landing b k f.leads in
    one_more (length bs) b bs (omega (arith, byte_small g.step, g.byte)) (follow_steps f.on bs (landing_within b k f.leads) f.rest)

module _ (h : House) (picks : List Spot) (way : List ℕ) where
  -- the three ways through the rules
  pub judge_stray : {i : ℕ} → stray_from 0 way ≡ Some i → judge_of h picks way ≡ Err (NoStep i)
  judge_stray e = ap (λ (o : Option ℕ). refused_or (at_pick NoStep o) (refused_or (exit_rule h way) (Ok (verdict_of h picks way)))) e

  pub judge_steps : StepsBefore (length way) way → {o : Option ℕ} → exit_from h 0 desk way ≡ o → judge_of h picks way ≡ refused_or (at_pick LeadsOut o) (Ok (verdict_of h picks way))
  judge_steps steps e =
      ap (λ (o : Option ℕ). refused_or (at_pick NoStep o) (refused_or (exit_rule h way) (Ok (verdict_of h picks way)))) (no_stray 0 way steps)
      ∙ ap (λ (o : Option ℕ). refused_or (at_pick LeadsOut o) (Ok (verdict_of h picks way))) e

  pub judge_leads : {t : Spot} → Within h desk → follow h desk way ≡ Some t → judge_of h picks way ≡ Ok (verdict_of h picks way)
  judge_leads k e = judge_steps (follow_steps desk way k e) (no_exit h 0 desk way e)
