-- One turn of the loop that lays down the uses of a plan: the next aisle's part of the picks, and its uses. Assumes nothing.
use Rattle.std.proofs.Common.{◌≡◌, ℕ, ◌+◌, ◌-◌, ◌*◌, ◌<◌, ◌≤◌, List, length, get_or, take, drop, Option, sym, refl, ap, ◌∙◌, subst, add-one}
use Rattle.house.specs.House.{House}
use Rattle.house.specs.declared.layout.Spot.{Spot as Entry}
use Rattle.uses.specs.Layout.{places}
use Rattle.aisle.specs.Costs.{Effect, Use, best}
use Rattle.aisle.specs.Order.{run}
use Rattle.aisle.specs.Reach.{depths_of}
use Rattle.aisle.specs.Values.{effect_of, spots_of}
use Rattle.classes.specs.Classes.{Passage}
use Rattle.classes.specs.Values.{class_of, passage_of}
use Rattle.partial.specs.Choice.{number_of, StandsFor}
use Rattle.partial.specs.declared.choice.Choice.{Choice}
use Rattle.partial.specs.Filling.{part_depths, after_part}
use Rattle.partial.specs.Tracing.{choice_passage, choice_effect}
use Rattle.partial.proofs.ChoiceParts.{effect_of_number, passage_of_number}
use Rattle.planner.specs.Laying.{Painted, Laid, Adds, reached, at, part_at, picks_from}
use Rattle.planner.proofs.LaidOut.{laid_none, laid_more}
use Rattle.partial.proofs.Parted.{part_within, part_spots, rest_spots}

module _ (choice : Choice) where
  effect_told : choice_effect (number_of choice) ≡ effect_of choice.effect
  effect_told = effect_of_number (class_of choice.class) (passage_of choice.passage) (effect_of choice.effect)

  passage_told : choice_passage (number_of choice) ≡ passage_of choice.passage
  passage_told = passage_of_number (class_of choice.class) (passage_of choice.passage) (effect_of choice.effect)

-- the aisle's uses are the cheapest with its choice's effect, and the passages to it are its choice's
pub adds_choice :
    (h : House) (a : ℕ) (choice : Choice) (ds : List ℕ) (way : Option Use) (was between is : List ℕ) → length between ≡ length was →
    Painted (a * h.deep) h.deep way was between → way ≡ best h.deep ds (effect_of choice.effect) → is ≡ reached h a (passage_of choice.passage) between →
    Adds h a (number_of choice) ds was is
adds_choice h a choice ds way was between is long painted cheapest crossed =
    record {
      between = between;
      long = long;
      steps = subst (λ (w : Option Use). Painted (a * h.deep) h.deep w was between) (cheapest ∙ ap (best h.deep ds) (sym (effect_told choice))) painted;
      passages = crossed ∙ ap (λ (p : Passage). reached h a p between) (sym (passage_told choice));
    }

-- what a choice adds, a number that stands for it adds
adds_number : (h : House) (a : ℕ) (choice : Choice) (n : ℕ) (ds was is : List ℕ) → StandsFor n choice → Adds h a (number_of choice) ds was is → Adds h a n ds was is
adds_number h a choice n ds was is stands adds =
    record {
      between = adds.between;
      long = adds.long;
      steps = subst (λ (e : Effect). Painted (a * h.deep) h.deep (best h.deep ds e) was adds.between) (effect_told choice ∙ stands.effect) adds.steps;
      passages = adds.passages ∙ ap (λ (p : Passage). reached h a p adds.between) (passage_told choice ∙ stands.passage);
    }

module _ (h : House) (numbers : List ℕ) (picks : List Entry) (was : List ℕ) where
  -- what the loop keeps
  abbrev Kept : ℕ → ℕ → List ℕ → Type 0
  Kept from a us = (from ≤ length picks) × (spots_of (drop from picks) ≡ picks_from (spots_of picks) a) × Laid h (at numbers) (part_at (spots_of picks)) a was us

  pub lay_none : 0 ≤ length picks → Kept 0 0 was
  unfolding picks_from
  lay_none l = (l, refl, laid_none h (at numbers) (part_at (spots_of picks)) was)

  pub lay_turn :
      (from to a : ℕ) (us is : List ℕ) (choice : Choice) → a < h.aisles → places h ≤ length us → to ≡ from + run a (spots_of (drop from picks)) →
      StandsFor (get_or numbers a 0) choice → Adds h a (number_of choice) (depths_of (spots_of (take (to - from) (drop from picks)))) us is → Kept from a us →
      Kept to (a + 1) is
  unfolding picks_from
  lay_turn from to a us is choice l room end stands adds (within, left, laid) = (
    part_within a picks from to end within,
    rest_spots a picks from to end ∙ ap (after_part a) left ∙ ap (picks_from (spots_of picks)) (sym (add-one a)),
    subst (λ n. Laid h (at numbers) (part_at (spots_of picks)) n was is) (sym (add-one a)) (laid_more h (at numbers) (part_at (spots_of picks)) was a us is l room own laid),
  )
    where
      own : Adds h a (get_or numbers a 0) (part_at (spots_of picks) a) us is
      own =
          subst (λ ds. Adds h a (get_or numbers a 0) ds us is) (ap depths_of (part_spots a picks from to end) ∙ ap (part_depths a) left)
          (adds_number h a choice (get_or numbers a 0) _ us is stands adds)
