-- The choices that are read back from the table are those of a plan, and lay down what the plan does. Assumes nothing.
use Rattle.std.proofs.Common.{◌≡◌, ℕ, zero, suc, ◌+◌, ◌-◌, ◌<◌, ◌≤◌, Bool, eqb, List, get_or, Some, Option, sym, ap, ◌∙◌, subst, arith, eq-eqb, ne_eqb}
use native.Mathlib.Decide.{ℕ_discrete}
use Rattle.house.specs.House.{House}
use Rattle.uses.specs.Uses.{pick}
use Rattle.uses.specs.Edges.{Edge, lane, front, back}
use Rattle.aisle.specs.Costs.{Use, steps_of_use, use_cost, best}
use Rattle.planner.specs.Came.{row_of, FirstChoice, LaterChoice, CameFrom}
use Rattle.classes.specs.Classes.{Class, passage_front, passage_back}
use Rattle.planner.specs.Laying.{steps_or_none, laid_by}
use Rattle.planner.specs.Plans.{passage_cost, Plan, start, next, laid}
use Rattle.partial.specs.Table.{cell}
use Rattle.partial.specs.Tracing.{choice_class, choice_passage, choice_effect, class_back, chosen}

-- the first of two values where numbers are equal, the second where they are not
pick_same : (m n : ℕ) (x y : ℕ) → m ≡ n → pick (eqb m n) x y ≡ x
pick_same m n x y e = ap (λ (b : Bool). pick b x y) (eq-eqb m n e)

pick_else : (m n : ℕ) (x y : ℕ) → (m ≡ n → ⊥) → pick (eqb m n) x y ≡ y
pick_else m n x y e = ap (λ (b : Bool). pick b x y) (ne_eqb m n e)

module _ (came : List ℕ) where
  -- one aisle more at the end: the classes before it are those of the plan that it goes on from
  back_shifted : (a k : ℕ) (d : Class) → class_back (suc (suc a)) came d (suc k) ≡ class_back (suc a) came (choice_class (get_or came (cell (suc a) d) 0)) k
  unfolding class_back
  back_shifted a zero d = ap (λ (n : ℕ). choice_class (get_or came (cell n d) 0)) (omega arith)
  back_shifted a (suc k) d = λ i. choice_class (get_or came (cell (place i) (back_shifted a k d i)) 0)
    where
      place : suc (suc a) - 1 - suc k ≡ suc a - 1 - k
      place = omega arith

  chosen_before : (a b : ℕ) (d : Class) → b ≤ a → chosen (suc (suc a)) came d b ≡ chosen (suc a) came (choice_class (get_or came (cell (suc a) d) 0)) b
  chosen_before a b d l =
      let steps : suc (suc a) - 1 - b ≡ suc (suc a - 1 - b) = omega arith in
      ap (λ (k : ℕ). get_or came (cell b (class_back (suc (suc a)) came d k)) 0) steps ∙ ap (λ (c : Class). get_or came (cell b c) 0) (back_shifted a (suc a - 1 - b) d)

  chosen_last : (a : ℕ) (c : Class) → chosen (suc a) came c a ≡ get_or came (cell a c) 0
  unfolding class_back
  chosen_last a c =
      let none : suc a - 1 - a ≡ 0 = omega arith in
      ap (λ (k : ℕ). get_or came (cell a (class_back (suc a) came c k)) 0) none

-- an edge of the aisles up to a, or of a passage between them
abbrev pub Upto : ℕ → Edge → Type 0
Upto a (lane b y) = b ≤ a
Upto a (front b) = b < a
Upto a (back b) = b < a

module _ (h : House) (ds : ℕ → List ℕ) (lengths came : List ℕ) (from : CameFrom h ds lengths came) where
  -- a plan of a class at its cost in the table, with the choices that are read back
  pub record Traced (a : ℕ) (c : Class) (w : ℕ) : Type 0 where
    pub plan : Plan h ds a c w
    pub lays : (e : Edge) → Upto a e → laid plan e ≡ laid_by h (chosen (suc a) came c) ds e

  -- the steps of a use that is best for a choice
  best_steps : (b n m y : ℕ) (u : Use) → best h.deep (ds b) (choice_effect n) ≡ Some u → m ≡ n → steps_of_use u y ≡ steps_or_none (best h.deep (ds b) (choice_effect m)) y
  best_steps b n m y u is e =
      sym (ap (λ (o : Option Use). steps_or_none o y) is) ∙ ap (λ (k : ℕ). steps_or_none (best h.deep (ds b) (choice_effect k)) y) (sym e)

  module _ (c : Class) (w : ℕ) (f : FirstChoice h ds (get_or came (cell 0 c) 0) c w) where
    first_plan : Plan h ds 0 c (use_cost h.deep f.way)
    first_plan = start (choice_effect (get_or came (cell 0 c) 0)) f.way f.opens f.is_best

    first_lays : (e : Edge) → Upto 0 e → laid first_plan e ≡ laid_by h (chosen 1 came c) ds e
    unfolding laid first_plan
    first_lays (lane b y) l =
        let first : b ≡ 0 = omega arith in
        pick_same b 0 (steps_of_use f.way y) 0 first
        ∙ best_steps 0 (get_or came (cell 0 c) 0) (chosen 1 came c 0) y f.way f.is_best (chosen_last came 0 c)
        ∙ ap (λ (k : ℕ). laid_by h (chosen 1 came c) ds (lane k y)) (sym first)
    first_lays (front b) l = absurd (omega arith)
    first_lays (back b) l = absurd (omega arith)

    first_traced : Traced 0 c w
    first_traced = subst (Traced 0 c) (sym f.costs) (record { plan = first_plan; lays = first_lays })

  module _ (a : ℕ) (c : Class) (w : ℕ) (l : LaterChoice h ds a (row_of lengths a) (get_or came (cell (suc a) c) 0) c w)
      (before : Traced a (choice_class (get_or came (cell (suc a) c) 0)) l.before) where
    later_plan : Plan h ds (suc a) c (l.before + passage_cost h (choice_passage (get_or came (cell (suc a) c) 0)) + use_cost h.deep l.way)
    later_plan = next before.plan (choice_passage (get_or came (cell (suc a) c) 0)) (choice_effect (get_or came (cell (suc a) c) 0)) l.way l.leads l.is_best

    later_lays : (e : Edge) → Upto (suc a) e → laid later_plan e ≡ laid_by h (chosen (suc (suc a)) came c) ds e
    unfolding laid later_plan
    later_lays (lane b y) k = elim (ℕ_discrete b (suc a)) [
      | yes e ↦
          pick_same b (suc a) _ _ e ∙ best_steps (suc a) (get_or came (cell (suc a) c) 0) (chosen (suc (suc a)) came c (suc a)) y l.way l.is_best (chosen_last came (suc a) c)
          ∙ ap (λ (n : ℕ). laid_by h (chosen (suc (suc a)) came c) ds (lane n y)) (sym e)
      | no e ↦
          pick_else b (suc a) _ _ e ∙ before.lays (lane b y) (omega arith)
          ∙ ap (λ (n : ℕ). steps_or_none (best h.deep (ds b) (choice_effect n)) y) (sym (chosen_before came a b c (omega arith)))
    ]
    later_lays (front b) k = elim (ℕ_discrete b a) [
      | yes e ↦ pick_same b a _ _ e ∙ ap (λ (n : ℕ). passage_front (choice_passage n)) (sym (chosen_last came (suc a) c) ∙ ap (λ (n : ℕ). chosen (suc (suc a)) came c (suc n)) (sym e))
      | no e ↦
          pick_else b a _ _ e ∙ before.lays (front b) (omega arith)
          ∙ ap (λ (n : ℕ). passage_front (choice_passage n)) (sym (chosen_before came a (suc b) c (omega arith)))
    ]
    later_lays (back b) k = elim (ℕ_discrete b a) [
      | yes e ↦ pick_same b a _ _ e ∙ ap (λ (n : ℕ). passage_back (choice_passage n)) (sym (chosen_last came (suc a) c) ∙ ap (λ (n : ℕ). chosen (suc (suc a)) came c (suc n)) (sym e))
      | no e ↦
          pick_else b a _ _ e ∙ before.lays (back b) (omega arith)
          ∙ ap (λ (n : ℕ). passage_back (choice_passage n)) (sym (chosen_before came a (suc b) c (omega arith)))
    ]

    later_traced : Traced (suc a) c w
    later_traced = subst (Traced (suc a) c) (sym l.costs) (record { plan = later_plan; lays = later_lays })

  -- every entry of the table is the cost of the plan that is read back from it
  pub traced : (a : ℕ) (c : Class) (w : ℕ) → a < h.aisles → row_of lengths a c ≡ Some w → Traced a c w
  traced zero c w l is = first_traced c w (from.first c w is)
  traced (suc a) c w l is =
      let choice = from.later a c w l is in
      later_traced a c w choice (traced a (choice_class (get_or came (cell (suc a) c) 0)) choice.before (omega arith) choice.in_row)
