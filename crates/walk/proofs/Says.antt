-- The answer of the checker says what is so of the way, and no other answer does. Assumes nothing.
use Rattle.std.proofs.Common.{◌≡◌, ℕ, not, List, get_or, Some, None, Ok, Decides, Option, Result, sym, refl, ap, ◌∙◌, subst, inl, inr, arith}
use Rattle.std.proofs.lemmas.List.{get_or_default}
use Rattle.std.proofs.lemmas.Bool.Decides.{Decides-like, Decides-not}
use Rattle.std.proofs.lemmas.Bool.{not-false}
use Rattle.house.specs.House.{House, Spot, desk}
use Rattle.house.specs.Bounds.{picks_of}
use Rattle.house.specs.Rules.{first_from}
use Rattle.house.specs.Reading.{house_in, claimed_list, claimed_way, claim_refusal_of}
use Rattle.house.specs.declared.refusal.Refusal.{Refusal}
use Rattle.house.proofs.Found.{Finds, first_finds}
use Rattle.walk.specs.Walk.{Walk, steps_of, Passes}
use Rattle.walk.specs.Steps.{Within, measure, trace}
use Rattle.walk.specs.Checking.{passed, missed, tour_or, verdict_of, refused_or, judge_of, check_of}
use Rattle.walk.specs.Promise.{Says, CheckingIsExact}
use Rattle.walk.specs.declared.verdict.Verdict.{Verdict}
use Rattle.walk.specs.declared.verdict.Verdict.TheVariants.{Way, Misses}
use Rattle.walk.proofs.Lands.{desk_within}
use Rattle.walk.proofs.Follow.{follow_within}
use Rattle.walk.proofs.Rows.{Followed, follow_of_walk, Walked, walk_of_follow}
use Rattle.walk.proofs.Unique.{spot_discrete}
use Rattle.walk.proofs.Stray.{stray_first, stray_or_steps}
use Rattle.walk.proofs.Exit.{no_way, leads_nowhere, out_or_leads, exit_at}
use Rattle.walk.proofs.Same.{passed_decides}
use Rattle.walk.proofs.Judge.{verdict_home, verdict_elsewhere}
use Rattle.walk.proofs.Found.{first_none, first_some}
use Rattle.walk.proofs.Ruled.{judge_stray, judge_steps, judge_leads}
use Rattle.house.proofs.Accept.{claims_are_exact}

module _ {h : House} {way : List ℕ} where
  passes_decides : {t : Spot} {w : Walk h desk t} → Followed w way → (p : Spot) → Decides (passed (trace h desk way) p) (Passes w p)
  passes_decides f p = Decides-like (passed (trace h desk way) p) (f.passes p).1 (f.passes p).0 (passed_decides (trace h desk way) p)

  misses_decides : {t : Spot} {w : Walk h desk t} → Followed w way → (p : Spot) → Decides (missed (trace h desk way) p) (Passes w p → ⊥)
  misses_decides f p = Decides-not (passed (trace h desk way) p) (passes_decides f p)

  -- the walk with this row
  told : {t : Spot} (w : Walk h desk t) → steps_of w ≡ way → Followed w way
  told w e = subst (Followed w) e (follow_of_walk w)

module _ (h : House) (picks : List Spot) (way : List ℕ) where
  -- a way home is a tour, or misses the first pick that is found
  home_says : (v : Walked h desk desk way) (o : Option ℕ) → Finds (missed (trace h desk way)) 0 picks o → Says h picks way (Ok (tour_or (measure h way) o))
  home_says v None f =
      Says.tour
      (record {
        walk = v.walk;
        all = λ i d k. subst (Passes v.walk) (get_or_default picks i desk d k) ((passes_decides v.told (get_or picks i desk)).0 (not-false _ (f i k)));
      })
      v.told.row
      v.told.length_is
  home_says v (Some n) (j, e, k, holds, before) =
      let z : j ≡ n = omega arith in
      subst (λ (m : ℕ). Says h picks way (Ok (Misses m))) z
      (Says.misses v.walk v.told.row k (λ i l. (passes_decides v.told (get_or picks i desk)).0 (not-false _ (before i l))) ((misses_decides v.told (get_or picks j desk)).0 holds))

  -- a walk over the whole way
  walked_says : {t : Spot} → Within h desk → Walked h desk t way → Says h picks way (judge_of h picks way)
  walked_says {t} k v =
      elim (spot_discrete t desk) [
        | yes e ↦
            subst (Says h picks way)
            (sym (judge_leads h picks way k v.told.leads ∙ ap Ok (verdict_home h picks way v.told.leads e refl)))
            (home_says (subst (λ (u : Spot). Walked h desk u way) e v) _ (first_finds (missed (trace h desk way)) 0 picks))
        | no e ↦
            subst (Says h picks way)
            (sym (judge_leads h picks way k v.told.leads ∙ ap Ok (verdict_elsewhere h picks way v.told.leads e)))
            (Says.elsewhere v.walk v.told.row e)
      ]

  judged_says : Within h desk → Says h picks way (judge_of h picks way)
  judged_says k =
      elim (stray_or_steps way) [
        | inl s ↦
            subst (Says h picks way) (sym (judge_stray h picks way (stray_first way s.before s.within s.no_step))) (Says.no_step s.before s.within s.no_step)
        | inr steps ↦
            elim (out_or_leads h desk way) [
              | inl o ↦
                  let v = walk_of_follow _ k o.leads in
                  subst (Says h picks way) (sym (judge_steps h picks way steps (exit_at h desk way o.place o.within o.leads o.out))) (Says.leads_out steps o.within v.walk v.told.row (no_way o.out))
              | inr (t, e) ↦ walked_says k (walk_of_follow way k e)
            ]
      ]

  -- the answer of each walk
  walk_judged : {t : Spot} {w : Walk h desk t} → Within h desk → Followed w way → judge_of h picks way ≡ Ok (verdict_of h picks way)
  walk_judged k f = judge_leads h picks way k f.leads

  home_judged : {w : Walk h desk desk} {o : Option ℕ} → Within h desk → Followed w way → first_from (missed (trace h desk way)) 0 picks ≡ o → judge_of h picks way ≡ Ok (tour_or (measure h way) o)
  home_judged k f e = walk_judged k f ∙ ap Ok (verdict_home h picks way f.leads refl e)

  says_judged : {r : Result Verdict Refusal} → Within h desk → Says h picks way r → judge_of h picks way ≡ r
  says_judged k (Says.tour t row long_is) =
      let f = told t.walk row in
      home_judged k f (first_none (missed (trace h desk way)) picks (λ i l. ap not ((passes_decides f (get_or picks i desk)).1 (t.all i desk l))))
      ∙ ap (λ (n : ℕ). Ok (Way n)) (sym f.length_is ∙ long_is)
  says_judged k (Says.elsewhere w row away) = let f = told w row in walk_judged k f ∙ ap Ok (verdict_elsewhere h picks way f.leads away)
  says_judged k (Says.misses {p = p} w row l before not_here) =
      let f = told w row in
      home_judged k f
      (first_some (missed (trace h desk way)) picks p l
      ((misses_decides f (get_or picks p desk)).1 not_here)
      (λ i m. ap not ((passes_decides f (get_or picks i desk)).1 (before i m))))
  says_judged k (Says.no_step before l b) = judge_stray h picks way (stray_first way before l b)
  says_judged k (Says.leads_out {i = i} steps l w row none) =
      let f = told w row in
      judge_steps h picks way steps (exit_at h desk way i l f.leads (leads_nowhere (follow_within h desk _ k f.leads) none))

module _ (file : List ℕ) where
  abbrev answer : Result Verdict Refusal
  answer = judge_of (house_in file) (picks_of (claimed_list file)) (claimed_way file)

  accepted_desk : claim_refusal_of file ≡ None → Within (house_in file) desk
  accepted_desk s = desk_within ((claims_are_exact file).1 s).0.some_aisle

  ruled : {o : Option Refusal} → claim_refusal_of file ≡ o → check_of file ≡ refused_or o answer
  ruled s = ap (λ (o : Option Refusal). refused_or o answer) s

pub checking_is_exact : CheckingIsExact
checking_is_exact file = (
  λ e s. ruled file s,
  λ s r. (
    λ e. subst (Says _ _ _) (sym (ruled file s) ∙ e) (judged_says _ _ _ (accepted_desk file s)),
    λ z. ruled file s ∙ says_judged _ _ _ (accepted_desk file s) z,
  ),
)
