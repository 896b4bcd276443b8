-- Some steps tried one after the other: onto none of them a use is left over. Assumes nothing.
use Rattle.std.proofs.Common.{◌≡◌, ℕ, suc, ◌+◌, ◌<◌, List, [], ◌∷◌, length, map, get_or, None, ◌∙◌, ap, subst, arith}
use Rattle.std.proofs.lemmas.List.{get_or_default}
use native.Mathlib.Decide.{dec_lt}
use Rattle.house.specs.House.{House, Spot}
use Rattle.walk.specs.Codes.{byte_of}
use Rattle.walk.specs.declared.step.Step.{Step}
use Rattle.euler.specs.Choosing.{AllShut, Tries}

module _ (h : House) (left : List ℕ) (s : Spot) where
  -- nothing is left over where this step goes
  abbrev pub Closed : Step → Type 0
  Closed step = Tries h left s (byte_of step ∷ []) None

  pub all_shut : (steps : List Step) → ((k : ℕ) (d : Step) → k < length steps → Closed (get_or steps k d)) → AllShut h left s (map byte_of steps)
  all_shut [] none = tt
  all_shut (step ∷ steps) none = ((none 0 step (omega arith)).0, all_shut steps (λ k d l. none (suc k) d (omega arith)))

  pub closed_more :
      (steps : List Step) (i : ℕ) (e : Step) → i < length steps → ((k : ℕ) (d : Step) → k < i → Closed (get_or steps k d)) → Closed (get_or steps i e) →
      (k : ℕ) (d : Step) → k < i + 1 → Closed (get_or steps k d)
  closed_more steps i e there before here k d l =
      elim (dec_lt k i) [
        | yes m ↦ before k d m
        | no m ↦
            let last : i ≡ k = omega arith in
            subst Closed (ap (λ j. get_or steps j e) last ∙ get_or_default steps k e d (omega arith)) here
      ]
