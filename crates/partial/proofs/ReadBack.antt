-- The choices that the numbers of a plan stand for have these numbers. Assumes nothing.
use Rattle.std.proofs.Common.{◌≡◌, ℕ, ◌-◌, ◌<◌, ◌≤◌, List, length, get_or, sym, ◌∙◌, subst, arith}
use native.Mathlib.Decide.{dec_lt}
use Rattle.std.proofs.lemmas.List.{ext_get_or, get_or-map, length-map}
use Rattle.house.specs.House.{House, Spot}
use Rattle.aisle.specs.declared.kinds.Effect.TheVariants.{Nothing}
use Rattle.classes.specs.declared.class.Class.TheVariants.{Closed}
use Rattle.classes.specs.declared.class.Passage.TheVariants.{None}
use Rattle.partial.specs.Choice.{number_of, numbers, StandsFor}
use Rattle.partial.specs.Choosing.{Chosen}
use Rattle.partial.specs.Ending.{ending}
use Rattle.partial.specs.Table.{cell, Tables}
use Rattle.partial.specs.Tracing.{class_back, EachChoice}
use Rattle.partial.specs.declared.choice.Choice.{Choice}
use Rattle.partial.proofs.ChoiceParts.{number_stands}
use Rattle.partial.proofs.Numbered.{filled_small}

-- some choice, to be read where a list has none
none_there : Choice
none_there = record { class = Closed; passage = None; effect = Nothing }

module _ (h : House) (ss : List Spot) (was is : Tables) (ns : List ℕ) (chosen_here : Chosen h ss was is ns) where
  each_choice : EachChoice h.aisles is.came
  each_choice a c l =
      subst (λ (t : Tables). get_or t.came (cell a c) 0 ≤ 209) (sym chosen_here.table) (filled_small h h.aisles 0 ss was a c (omega arith) (λ m. absurd (omega arith)))

  each_number_small : (a : ℕ) → get_or ns a 0 ≤ 209
  each_number_small a =
      elim (dec_lt a h.aisles) [
        | yes l ↦ omega (arith, chosen_here.each a l, each_choice a (class_back h.aisles is.came (ending is.lengths (h.aisles - 1)) (h.aisles - 1 - a)) l)
        | no n ↦ omega (arith, chosen_here.others a (omega arith))
      ]

  pub chosen_read :
      (cs : List Choice) → length ns ≡ 64 → length cs ≡ 64 → ((a : ℕ) (c : Choice) → a < 64 → StandsFor (get_or ns a 0) (get_or cs a c)) → Chosen h ss was is (numbers cs)
  chosen_read cs m n stands =
      subst (Chosen h ss was is)
      (sym (ext_get_or 0 (numbers cs) ns (length-map cs number_of ∙ n ∙ sym m)
      (λ a l. get_or-map number_of cs a none_there 0 (omega (arith, length-map cs number_of))
      ∙ number_stands (get_or ns a 0) (get_or cs a none_there) (each_number_small a) (stands a none_there (omega (arith, length-map cs number_of))))))
      chosen_here
