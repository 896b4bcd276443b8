-- What a plan lays down up to its last aisle is of the plan's class. Assumes nothing.
use Rattle.std.proofs.Common.{◌≡◌, ℕ, false, List}
use borrow.Author.Tests.{both_ways}
use Rattle.house.specs.House.{House, Spot}
use Rattle.uses.specs.Edges.{Edge, use_of, uses_of}
use Rattle.uses.proofs.Links.{use_of_uses}
use Rattle.classes.specs.Classes.{Class, is_closed}
use Rattle.planner.specs.Plans.{laid, KeepsTo}
use Rattle.planner.specs.Promise.{PlansHaveClasses}
use Rattle.planner.proofs.Beginnings.{BeginsIn, StandsAt, going, ended}
use Rattle.planner.proofs.ClassParts.{part_has_class}
use Rattle.planner.proofs.Laid.{keeps_alike, laid_keeps}
use Rattle.planner.proofs.RoundPlans.{plan_stands}

-- uses by edge, told again
still_going : {h : House} {picks : List Spot} {f : Edge → ℕ} {a : ℕ} {c : Class} → is_closed c ≡ false → StandsAt h picks f a c → BeginsIn h picks f a c
still_going open_yet (going z part) = part
still_going {c = c} open_yet (ended shut whole) = absurd (both_ways (is_closed c) open_yet shut)

pub plans_have_classes : PlansHaveClasses
plans_have_classes h picks ds a c w plan sound by_aisle i open_yet =
    part_has_class sound (by_aisle.depths a i).some_step i (uses_of (laid plan)) c (still_going open_yet (plan_stands by_aisle plan i keeps).stands)
  where
    keeps : KeepsTo plan (use_of (uses_of (laid plan)))
    keeps = keeps_alike plan (laid plan) _ (λ x l. use_of_uses (laid plan) x) (laid_keeps plan)
