-- Rows that hold the least length of the ways to each class are linked as plans are, and their lengths stay small. Assumes nothing.
use Rattle.std.proofs.Common.{◌≡◌, ℕ, suc, ◌+◌, ◌*◌, ◌<◌, ◌≤◌, Bool, true, false, cond, ltb, ◌⊎◌, List, Some, None, Option, sym, refl, ap, ◌∙◌, subst, inl, inr, arith, ltb-true, lt-ltb}
use native.Mathlib.Decide.{dec_lt}
use Rattle.house.specs.House.{House}
use Rattle.aisle.specs.Costs.{Use, once, twice, leaving, use_cost, Effect, best}
use Rattle.aisle.proofs.CodeCosts.{total_is_cost}
use Rattle.planner.specs.Came.{length_in, FirstChoice, LaterChoice}
use Rattle.classes.specs.Classes.{Class, nothing_yet, Passage, none, one_each, two_front, two_back, two_each, transition, opening}
use Rattle.partial.specs.Prices.{never, cost_or_never, price}
use Rattle.partial.specs.Table.{choice_number, plus, toll}
use Rattle.planner.specs.Tables.{HoldsLeast, FirstOffer, Offer}
use Rattle.partial.specs.Tracing.{choice_class, choice_passage, choice_effect}
use Rattle.partial.proofs.ChoiceParts.{class_of_number, passage_of_number, effect_of_number}
use Rattle.partial.proofs.RowsMade.{FirstWay, NextWay}

-- a row holds for each class the least length of the ways to it, and the number of a choice by which it came
pub record RowHolds (Way : Class → ℕ → ℕ → Type 0) (lengths came : Class → ℕ) : Type 0 where
  pub at_most_never : (d : Class) → lengths d ≤ never
  pub reached : (d : Class) → lengths d < never → Way d (lengths d) (came d)
  pub least : (d : Class) (w k : ℕ) → Way d w k → lengths d ≤ w

-- every length of a row is never, or at most a bound
abbrev pub Small : ℕ → (Class → ℕ) → Type 0
Small bound lengths = (c : Class) → (lengths c ≡ never) ⊎ (lengths c ≤ bound)

-- the lengths of a row, or none where they are never
abbrev pub row_in : (Class → ℕ) → Class → Option ℕ
row_in lengths c = length_in (lengths c)

-- a length is read only where it is not never
length_told : (w v : ℕ) → length_in w ≡ Some v → (w < never) × (w ≡ v)
length_told w v e = by_test (ltb w never) refl e
  where
    by_test : (b : Bool) → ltb w never ≡ b → cond b (Some w) None ≡ Some v → (w < never) × (w ≡ v)
    by_test true t e = (ltb-true w never t, cc)
    by_test false t e = absurd (let z : ◌≡◌ {A = ℕ} 0 1 = cc in omega arith)

length_is : (w : ℕ) → w < never → length_in w ≡ Some w
length_is w l = ap (λ (b : Bool). cond b (Some w) None) (lt-ltb w never l)

-- no step is used more than twice
use_cost_small : (deep : ℕ) (u : Use) → use_cost deep u ≤ 2 * deep
use_cost_small deep once = omega (arith, total_is_cost deep once)
use_cost_small deep twice = omega (arith, total_is_cost deep twice)
use_cost_small deep (leaving lo hi) = omega (arith, total_is_cost deep (leaving lo hi))

toll_small : (apart : ℕ) (p : Passage) → toll apart p ≤ 4 * apart
toll_small apart none = omega arith
toll_small apart one_each = omega arith
toll_small apart two_front = omega arith
toll_small apart two_back = omega arith
toll_small apart two_each = omega arith

-- an aisle that has a price has a use of that cost
record Priced (deep : ℕ) (ds : List ℕ) (e : Effect) : Type 0 where
  way : Use
  is_best : best deep ds e ≡ Some way
  is_cost : price deep ds e ≡ use_cost deep way

priced : (deep : ℕ) (ds : List ℕ) (e : Effect) → price deep ds e < never → Priced deep ds e
priced deep ds e less = by_best (best deep ds e) refl
  where
    by_best : (o : Option Use) → best deep ds e ≡ o → Priced deep ds e
    by_best None is = absurd (omega (arith, ap (cost_or_never deep) is))
    by_best (Some u) is = record { way = u; is_best = is; is_cost = ap (cost_or_never deep) is }

module _ (h : House) (ds : ℕ → List ℕ) (shallow : h.deep ≤ 200) where
  module _ {lengths came : Class → ℕ} (holds : RowHolds (FirstWay (price h.deep (ds 0))) lengths came) where
    pub first_choice : (c : Class) (w : ℕ) → row_in lengths c ≡ Some w → FirstChoice h ds (came c) c w
    first_choice c w is =
        let (less, same) = length_told (lengths c) w is in
        let f = holds.reached c less in
        let p = priced h.deep (ds 0) f.effect (omega (arith, f.total)) in
        let told : choice_effect (came c) ≡ f.effect = ap choice_effect (sym f.number) ∙ effect_of_number nothing_yet none f.effect in
        record {
          way = p.way;
          opens = ap opening told ∙ f.opens;
          is_best = ap (best h.deep (ds 0)) told ∙ p.is_best;
          costs = sym same ∙ sym f.total ∙ p.is_cost;
        }

    pub first_small : Small 1200 lengths
    first_small c =
        elim (dec_lt (lengths c) never) [
          | yes l ↦ let f = first_choice c (lengths c) (length_is (lengths c) l) in inr (omega (arith, f.costs, use_cost_small h.deep f.way))
          | no l ↦ inl (omega (arith, holds.at_most_never c))
        ]

    pub first_linked : HoldsLeast (FirstOffer h ds) (row_in lengths)
    first_linked =
        record {
          reached = λ d w is.
              let f = first_choice d w is in
              record { effect = choice_effect (came d); way = f.way; opens = f.opens; is_best = f.is_best; costs = f.costs };
          least = λ d w o. within d w o (beaten d w o);
        }
      where
        beaten : (d : Class) (w : ℕ) → FirstOffer h ds d w → lengths d ≤ w
        beaten d w o =
            holds.least d w (choice_number nothing_yet none o.effect)
            (record { effect = o.effect; opens = o.opens; total = ap (cost_or_never h.deep) o.is_best ∙ sym o.costs; number = refl })

        within : (d : Class) (w : ℕ) → FirstOffer h ds d w → lengths d ≤ w → (v : ℕ) × (row_in lengths d ≡ Some v) × (v ≤ w)
        within d w o less = (lengths d, length_is (lengths d) (omega (arith, o.costs, use_cost_small h.deep o.way)), less)

  module _
      (near : h.apart ≤ 200) (a bound : ℕ) (room : bound + 1200 < never) {old lengths came : Class → ℕ} (old_small : Small bound old)
      (holds : RowHolds (NextWay h.apart (price h.deep (ds (suc a))) old) lengths came)
    where
      -- a length of the row before that is not never
      finite : (c : Class) → old c < never → old c ≤ bound
      finite c less = elim (old_small c) [ inl e ↦ absurd (omega arith) | inr l ↦ l ]

      -- the choice of a way, by its number
      choice_of_way :
          (c : Class) (w n : ℕ) → w < never → (f : NextWay h.apart (price h.deep (ds (suc a))) old c w n) → Priced h.deep (ds (suc a)) f.effect →
          choice_class n ≡ f.class → choice_passage n ≡ f.passage → choice_effect n ≡ f.effect → LaterChoice h ds a (row_in old) n c w
      choice_of_way c w n less f p class_told passage_told effect_told =
          record {
            before = old f.class;
            in_row = ap (row_in old) class_told ∙ length_is (old f.class) (omega (arith, f.total));
            way = p.way;
            leads = (λ i. transition (class_told i) (passage_told i) (effect_told i)) ∙ f.leads;
            is_best = ap (best h.deep (ds (suc a))) effect_told ∙ p.is_best;
            costs = omega (arith, f.total, p.is_cost, ap (toll h.apart) passage_told);
          }

      numbered : (c : Class) (w n : ℕ) → w < never → NextWay h.apart (price h.deep (ds (suc a))) old c w n → LaterChoice h ds a (row_in old) n c w
      numbered c w n less f =
          choice_of_way c w n less f (priced h.deep (ds (suc a)) f.effect (omega (arith, f.total)))
          (ap choice_class (sym f.number) ∙ class_of_number f.class f.passage f.effect)
          (ap choice_passage (sym f.number) ∙ passage_of_number f.class f.passage f.effect)
          (ap choice_effect (sym f.number) ∙ effect_of_number f.class f.passage f.effect)

      pub later_choice : (c : Class) (w : ℕ) → row_in lengths c ≡ Some w → LaterChoice h ds a (row_in old) (came c) c w
      later_choice c w is =
          let (less, same) = length_told (lengths c) w is in
          subst (LaterChoice h ds a (row_in old) (came c) c) same (numbered c (lengths c) (came c) less (holds.reached c less))

      pub later_small : Small (bound + 1200) lengths
      later_small c =
          elim (dec_lt (lengths c) never) [
            | yes l ↦
                let f = later_choice c (lengths c) (length_is (lengths c) l) in
                let (less, same) = length_told (old (choice_class (came c))) f.before f.in_row in
                inr (omega (arith, f.costs, finite (choice_class (came c)) less, toll_small h.apart (choice_passage (came c)), use_cost_small h.deep f.way))
            | no l ↦ inl (omega (arith, holds.at_most_never c))
          ]

      -- the row is linked with the row before
      pub later_linked : HoldsLeast (Offer h ds a (row_in old)) (row_in lengths)
      later_linked =
          record {
            reached = λ d w is.
                let f = later_choice d w is in
                record {
                  class = choice_class (came d);
                  before = f.before;
                  in_row = f.in_row;
                  passage = choice_passage (came d);
                  effect = choice_effect (came d);
                  way = f.way;
                  leads = f.leads;
                  is_best = f.is_best;
                  costs = f.costs;
                };
            least = λ d w o. (lengths d, length_is (lengths d) (omega (arith, beaten d w o, bounded d w o)), beaten d w o);
          }
        where
          bounded : (d : Class) (w : ℕ) → Offer h ds a (row_in old) d w → w ≤ bound + 1200
          bounded d w o =
              let (less, same) = length_told (old o.class) o.before o.in_row in
              omega (arith, o.costs, finite o.class less, toll_small h.apart o.passage, use_cost_small h.deep o.way)

          summed : (d : Class) (w : ℕ) (o : Offer h ds a (row_in old) d w) → plus (plus (old o.class) (toll h.apart o.passage)) (price h.deep (ds (suc a)) o.effect) ≡ w
          summed d w o =
              let (less, same) = length_told (old o.class) o.before o.in_row in
              omega (arith, o.costs, bounded d w o, ap (cost_or_never h.deep) o.is_best)

          beaten : (d : Class) (w : ℕ) → Offer h ds a (row_in old) d w → lengths d ≤ w
          beaten d w o =
              holds.least d w (choice_number o.class o.passage o.effect)
              (record { class = o.class; passage = o.passage; effect = o.effect; leads = o.leads; total = summed d w o; number = refl })
