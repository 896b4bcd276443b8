-- What a plan lays down is what it chose, aisle by aisle. Assumes nothing.
use Rattle.std.proofs.Common.{◌≡◌, ℕ, suc, ◌≤◌, List, refl, ◌∙◌, arith, eq-eqb, ne_eqb}
use Rattle.house.specs.House.{House}
use Rattle.uses.specs.Edges.{Edge, lane, front, back, dst}
use Rattle.aisle.specs.Costs.{Use}
use Rattle.classes.specs.Classes.{Class, Passage}
use Rattle.planner.specs.Plans.{Plan, start, next, lay_aisle, lay_passage, laid, KeepsTo}
use Rattle.classes.proofs.Tests.{pick_true, pick_false}

-- only the uses up to the plan's last aisle matter
pub keeps_alike :
    {h : House} {ds : ℕ → List ℕ} {a : ℕ} {c : Class} {w : ℕ} (plan : Plan h ds a c w) (f g : Edge → ℕ) →
    ((x : Edge) → (dst h x).aisle ≤ a → g x ≡ f x) → KeepsTo plan f → KeepsTo plan g
keeps_alike (start e u opens is) f g same keeps = λ y l. same (lane 0 y) (omega arith) ∙ keeps y l
keeps_alike (next {a = a} plan p e u leads is) f g same (keeps, i, k, steps) = (
  keeps_alike plan f g (λ x l. same x (omega arith)) keeps,
  same (front a) (omega arith) ∙ i,
  same (back a) (omega arith) ∙ k,
  λ y l. same (lane (suc a) y) (omega arith) ∙ steps y l,
)

-- what is laid for an aisle and the passages to it changes nothing before
lay_before : (h : House) (a : ℕ) (u : Use) (p : Passage) (f : Edge → ℕ) (x : Edge) → (dst h x).aisle ≤ a → lay_aisle (suc a) u (lay_passage a p f) x ≡ f x
lay_before h a u p f (lane b y) l = pick_false _ _ (ne_eqb b (suc a) (λ same. omega arith))
lay_before h a u p f (front b) l = pick_false _ _ (ne_eqb b a (λ same. omega arith))
lay_before h a u p f (back b) l = pick_false _ _ (ne_eqb b a (λ same. omega arith))

pub laid_keeps : {h : House} {ds : ℕ → List ℕ} {a : ℕ} {c : Class} {w : ℕ} (plan : Plan h ds a c w) → KeepsTo plan (laid plan)
unfolding laid
laid_keeps (start e u opens is) = λ y l. refl
laid_keeps {h} (next {a = a} plan p e u leads is) = (
  keeps_alike plan (laid plan) _ (lay_before h a u p (laid plan)) (laid_keeps plan),
  pick_true _ _ (eq-eqb a a refl),
  pick_true _ _ (eq-eqb a a refl),
  λ y l. pick_true _ _ (eq-eqb (suc a) (suc a) refl),
)
