-- Picks in order, part by part: the run of an aisle holds exactly the picks of this aisle, and what follows it those of the aisles after. Assumes nothing.
use Rattle.std.proofs.Common.{◌≡◌, ℕ, suc, ◌<◌, ◌≤◌, Bool, true, false, cond, eqb, List, [], ◌∷◌, take, drop, sym, refl, ap, ◌∙◌, arith, ne_eqb, eqb-true}
use borrow.Author.Tests.{eqb-false}
use Rattle.std.proofs.lemmas.Bool.Decides.{nat_tests}
use Rattle.house.specs.House.{Spot}
use Rattle.aisle.specs.Order.{before, NoneBefore, InOrder, depths_in, run}
use Rattle.aisle.specs.Reach.{depths_of}

-- no aisle before a is named
abbrev pub FromAisle : ℕ → List Spot → Type 0
FromAisle a [] = Unit
FromAisle a (s ∷ ss) = (a ≤ s.aisle) × FromAisle a ss

aisles_rise : (s t : Spot) → before t s ≡ false → s.aisle ≤ t.aisle
aisles_rise s t e = grind (arith, nat_tests)

-- from a spot on, only its aisle and later ones are named
later_aisles : (a : ℕ) (s : Spot) (ss : List Spot) → a ≤ s.aisle → NoneBefore s ss → FromAisle a ss
later_aisles a s [] l n = tt
later_aisles a s (t ∷ ts) l n = (omega (arith, aisles_rise s t n.0), later_aisles a s ts l n.1)

-- the depths with and without a spot of another aisle
depths_other : (s : Spot) (ss : List Spot) (a : ℕ) → (s.aisle ≡ a → ⊥) → depths_in (s ∷ ss) a ≡ depths_in ss a
unfolding depths_in
depths_other s ss a n = ap (λ (b : Bool). cond b (s.depth ∷ depths_in ss a) (depths_in ss a)) (ne_eqb _ _ n)

no_depths : (a b : ℕ) (ss : List Spot) → a < b → FromAisle b ss → depths_in ss a ≡ []
unfolding depths_in
no_depths a b [] l f = refl
no_depths a b (s ∷ ss) l f = depths_other s ss a (λ e. omega (arith, f.0)) ∙ no_depths a b ss l f.1

-- the first k spots are those of aisle a, and those after them stand in later aisles
record Splits (a : ℕ) (ss : List Spot) (k : ℕ) : Type 0 where
  part : depths_of (take k ss) ≡ depths_in ss a
  order : InOrder (drop k ss)
  later : FromAisle (suc a) (drop k ss)
  others : (b : ℕ) → a < b → depths_in (drop k ss) b ≡ depths_in ss b

run_splits : (a : ℕ) (ss : List Spot) → InOrder ss → FromAisle a ss → Splits a ss (run a ss)
unfolding run depths_in
run_splits a [] o f = record { part = refl; order = tt; later = tt; others = λ b l. refl }
run_splits a (s ∷ ss) o f = by (eqb s.aisle a) refl (run_splits a ss o.1 f.1)
  where
    by : (t : Bool) → eqb s.aisle a ≡ t → Splits a ss (run a ss) → Splits a (s ∷ ss) (cond t (suc (run a ss)) 0)
    by true e r =
        record {
          part = ap (λ (ds : List ℕ). s.depth ∷ ds) r.part ∙ ap (λ (b : Bool). cond b (s.depth ∷ depths_in ss a) (depths_in ss a)) (sym e);
          order = r.order;
          later = r.later;
          others = λ b l. r.others b l ∙ sym (depths_other s ss b (λ g. omega (arith, eqb-true _ _ e)));
        }
    by false e r =
        let past : a < s.aisle = omega (arith, f.0, eqb-false _ _ e) in
        let beyond : FromAisle (suc a) (s ∷ ss) = (past, later_aisles (suc a) s ss past o.0) in
        record { part = sym (no_depths a (suc a) (s ∷ ss) (omega arith) beyond); order = o; later = beyond; others = λ b l. refl }

-- the picks from a place on are those of aisle a and of the aisles after it
pub record FromPlace (sorted : List Spot) (a : ℕ) (rest : List Spot) : Type 0 where
  pub order : InOrder rest
  pub later : FromAisle a rest
  pub same : (b : ℕ) → a ≤ b → depths_in rest b ≡ depths_in sorted b

every_aisle : (ss : List Spot) → FromAisle 0 ss
every_aisle [] = tt
every_aisle (s ∷ ss) = (omega arith, every_aisle ss)

pub from_start : (ss : List Spot) → InOrder ss → FromPlace ss 0 ss
from_start ss o = record { order = o; later = every_aisle ss; same = λ b l. refl }

module _ (ss : List Spot) (a : ℕ) (rest : List Spot) (from : FromPlace ss a rest) where
  pub run_is_part : depths_of (take (run a rest) rest) ≡ depths_in ss a
  run_is_part = (run_splits a rest from.order from.later).part ∙ from.same a (omega arith)

  pub from_next : FromPlace ss (suc a) (drop (run a rest) rest)
  from_next =
      let r = run_splits a rest from.order from.later in
      record { order = r.order; later = r.later; same = λ b l. r.others b (omega arith) ∙ from.same b (omega arith) }
