-- The first pick that a test finds, by a search through the picks of a list. Assumes nothing.
use Rattle.std.proofs.Common.{◌≡◌, ℕ, ◌+◌, Bool, cond, List, [], ◌∷◌, Some, Option, length, sym, ap, ◌∙◌, subst, refl, add-one}
use Rattle.std.proofs.lemmas.Iterator.{YieldsList}
use Rattle.std.proofs.lemmas.Iterator.Adapters.{position_from-zero}
use Rattle.std.proofs.lemmas.Iterator.Consumers.{YieldsList-from_shown}
use Rattle.std.proofs.lemmas.Iterator.Search.{position_from_yields_List}
use denote.Param.Members.{Mut}
use Rattle.std.specs.Fn.{Called}
use Rattle.std.specs.Iterator.{FindsPosition}
use Rattle.std.specs.List.{position, position_from}
use Rattle.house.specs.House as ideal
use Rattle.house.specs.Bounds.{picks_of}
use Rattle.house.specs.Reading.{spot_of, TakesPick}
use Rattle.house.specs.Rules.{first_from}
use Rattle.house.specs.declared.entries.Picks.{Picks}
use Rattle.house.specs.declared.layout.Spot.{Spot}

-- a list's iterator gives the picks of its bytes
pub picks_given : (s : Picks) (picks : List ideal.Spot) → picks_of s.bytes.now ≡ picks → YieldsList TakesPick spot_of s picks
picks_given s picks e = subst (YieldsList TakesPick spot_of s) e (YieldsList-from_shown TakesPick spot_of (λ s. picks_of s.bytes.now) (λ s t h. ap length h.0.0) (λ s x t h. h.0) s)

-- the first pick that a test finds, as `position` finds it
module _ (test : ideal.Spot → Bool) where
  from_place : (i : ℕ) (picks : List ideal.Spot) → first_from test i picks ≡ position_from test i picks
  unfolding first_from
  from_place i [] = refl
  from_place i (p ∷ picks) = rw (← add-one i) (ap (cond (test p) (Some i)) (from_place (i + 1) picks))

  first_position : (picks : List ideal.Spot) → first_from test 0 picks ≡ position test picks
  first_position picks = from_place 0 picks ∙ sym (position_from-zero test picks)

  pub first_found :
      {F : Type 0} {g : Mut F (Spot × Unit {0}) Bool} {f : F} (s u : Picks) (r : Option ℕ) (picks : List ideal.Spot) → picks_of s.bytes.now ≡ picks → FindsPosition TakesPick g s f r u →
      ((x : Spot) (b : Bool) (q : F) → Called g f (x, tt) b q → (q ≡ f) × (b ≡ test (spot_of x))) → first_from test 0 picks ≡ r
  first_found {F} {g} {f} s u r picks same ran tests =
      first_position picks ∙ sym (position_from_yields_List test u f r ran (picks_given s picks same) tests)
