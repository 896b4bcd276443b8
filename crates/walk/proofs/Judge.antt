-- The verdict on a way, by where it ends and by the first pick that it misses. Assumes nothing.
use Rattle.std.proofs.Common.{◌≡◌, ℕ, ◌*◌, Bool, true, false, cond, ◌≢◌, List, replicate, Some, Option, sym, ap, ◌∙◌, arith}
use Rattle.std.proofs.lemmas.Bool.Decides.{Decides-not}
use Rattle.std.proofs.lemmas.Bool.{not-true}
use Rattle.house.specs.House.{House, Spot, desk}
use Rattle.house.specs.Bounds.{picks_of}
use Rattle.house.specs.Rules.{first_from}
use Rattle.house.specs.Reading.{house_of}
use Rattle.house.specs.declared.picks.PickList.{PickList}
use Rattle.walk.specs.Steps.{follow, measure, trace}
use Rattle.walk.specs.Marking.{all_marked, unmarked}
use Rattle.walk.specs.Checking.{same, home, missed, tour_or, verdict_of}
use Rattle.walk.specs.declared.verdict.Verdict.TheVariants.{EndsElsewhere}
use Rattle.walk.proofs.Marked.{first_unmarked}
use Rattle.walk.proofs.Same.{same_decides}

module _ (h : House) (picks : List Spot) (way : List ℕ) {end : Spot} (leads : follow h desk way ≡ Some end) where
  by_home : (b : Bool) → same end desk ≡ b → verdict_of h picks way ≡ cond b (tour_or (measure h way) (first_from (missed (trace h desk way)) 0 picks)) EndsElsewhere
  by_home b e = ap (λ (c : Bool). cond c (tour_or (measure h way) (first_from (missed (trace h desk way)) 0 picks)) EndsElsewhere) (ap home leads ∙ e)

  pub verdict_home : {o : Option ℕ} → end ≡ desk → first_from (missed (trace h desk way)) 0 picks ≡ o → verdict_of h picks way ≡ tour_or (measure h way) o
  verdict_home at f = by_home true (ap (λ (s : Spot). same s desk) at) ∙ ap (tour_or (measure h way)) f

  pub verdict_elsewhere : end ≢ desk → verdict_of h picks way ≡ EndsElsewhere
  verdict_elsewhere k = by_home false (not-true (same end desk) ((Decides-not (same end desk) (same_decides end desk)).1 k))

-- the verdict on a way home, by the first pick that is not marked
module _ (picks : PickList) (way : List ℕ) where
  abbrev h : House
  h = house_of picks.house

  abbrev ps : List Spot
  ps = picks_of picks.bytes.now

  pub verdict_by_marks :
      {end : Spot} {flags : List Bool} → follow h desk way ≡ Some end → flags ≡ all_marked (replicate (201 * 64) false) (trace h desk way) → end ≡ desk → {r o : Option ℕ} → r ≡ first_from (unmarked flags) 0 ps → r ≡ o →
      tour_or (measure h way) o ≡ verdict_of h ps way
  verdict_by_marks leads marks at {o = o} found is = sym (verdict_home h ps way leads at missed_is)
    where
      missed_is : first_from (missed (trace h desk way)) 0 ps ≡ o
      missed_is =
          sym
          (first_unmarked 64 h way ps picks.house.few_aisles picks.house.little_depth picks.house.some_aisle (λ i k. record { aisle_in = picks.in_aisles i k; depth_in = omega (arith, (picks.on_shelves i k).1) }))
          ∙ ap (λ (fs : List Bool). first_from (unmarked fs) 0 ps) (sym marks)
          ∙ sym found
          ∙ is
