-- What the checker answers of a file that claims a way: a refusal, or a verdict on the way.
-- Assumes nothing: these are definitions.
use Rattle.std.specs.Prelude.{ℕ, suc, Bool, false, cond, not, ◌&&◌, ◌||◌, List, [], ◌∷◌, Some, None, Ok, Err, Option, Result, ◌==◌, nat_lt}
use Rattle.house.specs.House.{House, Spot, desk}
use Rattle.house.specs.Bounds.{picks_of}
use Rattle.house.specs.Rules.{first_from, at_pick}
use Rattle.house.specs.Reading.{house_in, claimed_list, claimed_way, claim_refusal_of}
use Rattle.house.specs.declared.refusal.Refusal.{Refusal}
use Rattle.house.specs.declared.refusal.Refusal.TheVariants.{NoStep, LeadsOut}
use Rattle.walk.specs.Steps.{landing, follow, measure, trace}
use Rattle.walk.specs.declared.verdict.Verdict.{Verdict}
use Rattle.walk.specs.declared.verdict.Verdict.TheVariants.{Way, EndsElsewhere, Misses}

-- the first byte of a row, counted from i, that is no step
unfoldable pub stray_from : ℕ → List ℕ → Option ℕ
stray_from i [] = None
stray_from i (b ∷ bs) = cond (nat_lt b 6) (stray_from (suc i) bs) (Some i)

-- the first step of a row from a spot, counted from i, that leads out
unfoldable pub exit_from : House → ℕ → Spot → List ℕ → Option ℕ
exit_from h i s [] = None
exit_from h i s (b ∷ bs) = elim (landing h s b) [ Some t ↦ exit_from h (suc i) t bs | None ↦ Some i ]

-- refusal 7, at the first byte that is no step
abbrev pub step_rule : List ℕ → Option Refusal
step_rule way = at_pick NoStep (stray_from 0 way)

-- refusal 8, at the first step that leads out
abbrev pub exit_rule : House → List ℕ → Option Refusal
exit_rule h way = at_pick LeadsOut (exit_from h 0 desk way)

-- two spots are one
abbrev pub same : Spot → Spot → Bool
same p q = p.aisle == q.aisle && p.depth == q.depth

-- a spot is one of a list, or none of it
unfoldable pub passed : List Spot → Spot → Bool
passed [] p = false
passed (q ∷ qs) p = same q p || passed qs p

abbrev pub missed : List Spot → Spot → Bool
missed spots p = not (passed spots p)

-- a row of steps ends at the desk
abbrev pub home : Option Spot → Bool
home None = false
home (Some t) = same t desk

-- a way home of length n, with the first pick that it misses, if there is one
abbrev pub tour_or : ℕ → Option ℕ → Verdict
tour_or n None = Way n
tour_or n (Some p) = Misses p

abbrev pub verdict_of : House → List Spot → List ℕ → Verdict
verdict_of h picks way = cond (home (follow h desk way)) (tour_or (measure h way) (first_from (missed (trace h desk way)) 0 picks)) EndsElsewhere

-- a refusal, or else what comes after it
abbrev pub refused_or : Option Refusal → Result Verdict Refusal → Result Verdict Refusal
refused_or (Some e) next = Err e
refused_or None next = next

-- all bytes are held to the six steps before any step is held to the house
abbrev pub judge_of : House → List Spot → List ℕ → Result Verdict Refusal
judge_of h picks way = refused_or (step_rule way) (refused_or (exit_rule h way) (Ok (verdict_of h picks way)))

-- the house and the list of a claim are held to their rules before its way is judged
abbrev pub check_of : List ℕ → Result Verdict Refusal
check_of file = refused_or (claim_refusal_of file) (judge_of (house_in file) (picks_of (claimed_list file)) (claimed_way file))
