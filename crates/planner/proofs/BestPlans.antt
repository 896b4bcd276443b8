-- Up to each aisle and for each class there is no plan, or a cheapest one. Assumes nothing.
use Rattle.std.proofs.Common.{◌≡◌, ℕ, zero, suc, ◌+◌, ◌-◌, true, List, [], ◌∷◌, Some, None, Option, sym, refl, ap, subst, inl, inr, arith}
use mathlib.Core.Bool.{Bool-discrete}
use Rattle.house.specs.House.{House}
use Rattle.aisle.specs.Costs.{Use, use_cost, Effect, nothing, from_front, from_back, both_ends, through_once, through_twice, best}
use Rattle.classes.specs.Classes.{
  Class,
  odd_odd,
  even_back,
  even_front,
  even_one,
  even_two,
  nothing_yet,
  closed,
  class_dec,
  Passage,
  none,
  one_each,
  two_front,
  two_back,
  two_each,
  closes,
  transition,
  opening,
}
use Rattle.planner.specs.Plans.{passage_cost, Plan, start, next, Finished}
use Rattle.planner.proofs.Optima.{Optimum, optimum_alike, optimum_one, optimum_if, optimum_found, optimum_more, OneOf, optimum_over}

-- all classes, all passages and all effects
all_classes : List Class
all_classes = odd_odd ∷ even_back ∷ even_front ∷ even_one ∷ even_two ∷ nothing_yet ∷ closed ∷ []

each_class : (c : Class) → OneOf c all_classes
unfolding all_classes
each_class odd_odd = inl refl
each_class even_back = inr (inl refl)
each_class even_front = inr (inr (inl refl))
each_class even_one = inr (inr (inr (inl refl)))
each_class even_two = inr (inr (inr (inr (inl refl))))
each_class nothing_yet = inr (inr (inr (inr (inr (inl refl)))))
each_class closed = inr (inr (inr (inr (inr (inr (inl refl))))))

unfoldable pub all_passages : List Passage
all_passages = none ∷ one_each ∷ two_front ∷ two_back ∷ two_each ∷ []

pub each_passage : (p : Passage) → OneOf p all_passages
unfolding all_passages
each_passage none = inl refl
each_passage one_each = inr (inl refl)
each_passage two_front = inr (inr (inl refl))
each_passage two_back = inr (inr (inr (inl refl)))
each_passage two_each = inr (inr (inr (inr (inl refl))))

unfoldable pub all_effects : List Effect
all_effects = nothing ∷ from_front ∷ from_back ∷ both_ends ∷ through_once ∷ through_twice ∷ []

pub each_effect : (e : Effect) → OneOf e all_effects
unfolding all_effects
each_effect nothing = inl refl
each_effect from_front = inr (inl refl)
each_effect from_back = inr (inr (inl refl))
each_effect both_ends = inr (inr (inr (inl refl)))
each_effect through_once = inr (inr (inr (inr (inl refl))))
each_effect through_twice = inr (inr (inr (inr (inr (inl refl)))))

class_is : (o : Option Class) (d : Class) → Dec (o ≡ Some d)
class_is None d = no (λ e. let z : ◌≡◌ {A = ℕ} 0 1 = cc in omega arith)
class_is (Some c) d = elim (class_dec c d) [ yes e ↦ yes (ap Some e) | no n ↦ no (λ e. n (cc)) ]

module _ (h : House) (ds : ℕ → List ℕ) where
  -- the choice of an effect for aisle 0 and its costs
  abbrev pub Opens : Class → Effect → ℕ → Type 0
  Opens c e w = (opening e ≡ Some c) × ((u : Use) × (best h.deep (ds 0) e ≡ Some u) × (w ≡ use_cost h.deep u))

  -- the choice of passages and an effect for the aisle after a, from a class, and its costs
  abbrev pub Leads : ℕ → Class → Class → Passage → Effect → ℕ → Type 0
  Leads a d c p e w =
      (transition c p e ≡ Some d)
      × ((u : Use) × (best h.deep (ds (suc a)) e ≡ Some u) × ((v : ℕ) × Plan h ds a c v × (w ≡ v + (passage_cost h p + use_cost h.deep u))))

  to_start : (c : Class) (w : ℕ) → (e : Effect) × Opens c e w → Plan h ds 0 c w
  to_start c w (e, (opens, (u, is, same))) = subst (Plan h ds 0 c) (sym same) (start e u opens is)

  pub from_start : (c : Class) (w : ℕ) → Plan h ds 0 c w → (e : Effect) × Opens c e w
  from_start c w (start e u opens is) = (e, (opens, (u, is, refl)))

  to_next : (a : ℕ) (d : Class) (w : ℕ) → (c : Class) × ((p : Passage) × ((e : Effect) × Leads a d c p e w)) → Plan h ds (suc a) d w
  to_next a d w (c, (p, (e, (leads, (u, is, (v, plan, same)))))) = subst (Plan h ds (suc a) d) (omega arith) (next plan p e u leads is)

  pub from_next : (a : ℕ) (d : Class) (w : ℕ) → Plan h ds (suc a) d w → (c : Class) × ((p : Passage) × ((e : Effect) × Leads a d c p e w))
  from_next a d w (next {c = c} {w = v} plan p e u leads is) = (c, (p, (e, (leads, (u, is, (v, plan, omega arith))))))

  best_start : (c : Class) → Optimum (Plan h ds 0 c)
  best_start c =
      optimum_alike (to_start c) (from_start c)
      (optimum_over (Opens c) all_effects each_effect
      (λ e. optimum_if (class_is (opening e) c) (optimum_found _ (best h.deep (ds 0) e) (λ u. optimum_one (use_cost h.deep u)))))

  best_next : (a : ℕ) → ((c : Class) → Optimum (Plan h ds a c)) → (d : Class) → Optimum (Plan h ds (suc a) d)
  best_next a before d =
      optimum_alike (to_next a d) (from_next a d)
      (optimum_over _ all_classes each_class (λ c.
      optimum_over _ all_passages each_passage (λ p.
      optimum_over (Leads a d c p) all_effects each_effect (λ e.
      optimum_if (class_is (transition c p e) d)
      (optimum_found _ (best h.deep (ds (suc a)) e) (λ u. optimum_more (passage_cost h p + use_cost h.deep u) (before c)))))))

  pub best_plan : (a : ℕ) (c : Class) → Optimum (Plan h ds a c)
  best_plan zero c = best_start c
  best_plan (suc a) c = best_next a (best_plan a) c

  -- and so of the plans that close a tour
  pub best_finished : Optimum (Finished h ds)
  best_finished =
      optimum_alike
      (λ w z. record { class = z.0; plan = z.1.1; closes_tour = z.1.0 })
      (λ w f. (f.class, (f.closes_tour, f.plan)))
      (optimum_over (λ c w. (closes c ≡ true) × Plan h ds (h.aisles - 1) c w) all_classes each_class
      (λ c. optimum_if (Bool-discrete (closes c) true) (best_plan (h.aisles - 1) c)))
