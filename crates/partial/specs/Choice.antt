-- Choices as the code has them, and the numbers that stand for them. Assumes nothing: these are definitions.
use Rattle.std.specs.Prelude.{◌≡◌, ℕ, List, map, Ok, Err, Result}
use Rattle.house.specs.declared.refusal.Refusal.{Refusal}
use Rattle.aisle.specs.Values.{effect_of}
use Rattle.classes.specs.Values.{class_of, passage_of}
use Rattle.partial.specs.Table.{choice_number}
use Rattle.partial.specs.Tracing.{choice_class, choice_passage, choice_effect}
use Rattle.partial.specs.declared.choice.Choice.{Choice}

abbrev pub number_of : Choice → ℕ
number_of c = choice_number (class_of c.class) (passage_of c.passage) (effect_of c.effect)

-- the choice that a number stands for
pub record StandsFor (n : ℕ) (c : Choice) : Type 0 where
  pub class : class_of c.class ≡ choice_class n
  pub passage : passage_of c.passage ≡ choice_passage n
  pub effect : effect_of c.effect ≡ choice_effect n

abbrev pub numbers : List Choice → List ℕ
numbers cs = map number_of cs

-- what is answered with choices, by their numbers
abbrev pub numbered : Result (List Choice) Refusal → Result (List ℕ) Refusal
numbered (Ok cs) = Ok (numbers cs)
numbered (Err e) = Err e
