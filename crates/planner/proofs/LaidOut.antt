-- The uses of a plan, laid down aisle by aisle. Assumes nothing.
use Rattle.std.proofs.Common.{◌≡◌, ℕ, zero, suc, ◌+◌, ◌*◌, ◌<◌, ◌≤◌, ◌⊎◌, List, length, get_or, set, sym, refl, ap, ◌∙◌, inl, inr, mul-le-mul_right, suc-mul, arith, length-set, get_or-set_other, get_or-set_same}
use native.Mathlib.Decide.{ℕ_discrete}
use lib.Arith.{digits_lt}
use Rattle.house.specs.House.{House}
use Rattle.uses.specs.Edges.{Edge, lane, front, back, In}
use Rattle.uses.specs.Layout.{place, places, held_in}
use Rattle.aisle.specs.Costs.{best}
use Rattle.classes.specs.Classes.{Passage, passage_front, passage_back}
use Rattle.planner.specs.Laying.{steps_or_none, laid_by, Before, Laid, crossed, reached, Adds}
use Rattle.partial.specs.Tracing.{choice_passage, choice_effect}

module _ (h : House) where
  -- the steps of the aisles stand before the passages, and those of one aisle before those of the next
  lane_below : (b m y : ℕ) → b < m → y < h.deep → b * h.deep + y < m * h.deep
  lane_below b m y l k = digits_lt l k

  pub aisle_end : (a m : ℕ) → a < m → a * h.deep + h.deep ≤ m * h.deep
  aisle_end a m l = omega (arith, mul-le-mul_right h.deep l, suc-mul a h.deep)

  -- what a passage holds after its aisle is laid down, and what other entries do
  crossed_front : (us : List ℕ) (a : ℕ) (p : Passage) → suc a < h.aisles → places h ≤ length us → get_or (crossed h a p us) (place h (front a)) 0 ≡ passage_front p
  crossed_front us a p l room =
      get_or-set_other (set us (place h (front a)) (passage_front p)) (place h (back a)) (place h (front a)) (passage_back p) 0 (λ e. omega arith)
      ∙ get_or-set_same us (place h (front a)) (passage_front p) 0 (omega arith)

  crossed_back : (us : List ℕ) (a : ℕ) (p : Passage) → suc a < h.aisles → places h ≤ length us → get_or (crossed h a p us) (place h (back a)) 0 ≡ passage_back p
  crossed_back us a p l room =
      get_or-set_same (set us (place h (front a)) (passage_front p)) (place h (back a)) (passage_back p) 0
      (omega (arith, length-set us (place h (front a)) (passage_front p)))

  crossed_other : (us : List ℕ) (a i : ℕ) (p : Passage) → (i ≡ place h (front a) → ⊥) → (i ≡ place h (back a) → ⊥) → get_or (crossed h a p us) i 0 ≡ get_or us i 0
  crossed_other us a i p f b =
      get_or-set_other (set us (place h (front a)) (passage_front p)) (place h (back a)) i (passage_back p) 0 b
      ∙ get_or-set_other us (place h (front a)) i (passage_front p) 0 f

  -- an entry of the aisles is not touched by passages, nor one beyond the house
  reached_lane : (us : List ℕ) (a i : ℕ) (p : Passage) → a < h.aisles → i < h.aisles * h.deep → get_or (reached h a p us) i 0 ≡ get_or us i 0
  reached_lane us zero i p l k = refl
  reached_lane us (suc a) i p l k = crossed_other us a i p (λ e. omega arith) (λ e. omega arith)

  reached_beyond : (us : List ℕ) (a i : ℕ) (p : Passage) → a < h.aisles → places h ≤ i → get_or (reached h a p us) i 0 ≡ get_or us i 0
  reached_beyond us zero i p l k = refl
  reached_beyond us (suc a) i p l k = crossed_other us a i p (λ e. omega arith) (λ e. omega arith)

  -- the passages to an aisle, and those before
  reached_front : (us : List ℕ) (a b : ℕ) (p : Passage) → a < h.aisles → places h ≤ length us → suc b < suc a →
      ((suc b ≡ a) × (get_or (reached h a p us) (place h (front b)) 0 ≡ passage_front p)) ⊎ ((suc b < a) × (get_or (reached h a p us) (place h (front b)) 0 ≡ get_or us (place h (front b)) 0))
  reached_front us zero b p l room k = absurd (omega arith)
  reached_front us (suc a) b p l room k = elim (ℕ_discrete b a) [
    | yes e ↦ inl (ap suc e, ap (λ (n : ℕ). get_or (crossed h a p us) (place h (front n)) 0) e ∙ crossed_front us a p l room)
    | no e ↦ inr (omega arith, crossed_other us a (place h (front b)) p (λ z. e (omega arith)) (λ z. omega arith))
  ]

  reached_back : (us : List ℕ) (a b : ℕ) (p : Passage) → a < h.aisles → places h ≤ length us → suc b < suc a →
      ((suc b ≡ a) × (get_or (reached h a p us) (place h (back b)) 0 ≡ passage_back p)) ⊎ ((suc b < a) × (get_or (reached h a p us) (place h (back b)) 0 ≡ get_or us (place h (back b)) 0))
  reached_back us zero b p l room k = absurd (omega arith)
  reached_back us (suc a) b p l room k = elim (ℕ_discrete b a) [
    | yes e ↦ inl (ap suc e, ap (λ (n : ℕ). get_or (crossed h a p us) (place h (back n)) 0) e ∙ crossed_back us a p l room)
    | no e ↦ inr (omega arith, crossed_other us a (place h (back b)) p (λ z. omega arith) (λ z. e (omega arith)))
  ]

  module _ (choice : ℕ → ℕ) (ds : ℕ → List ℕ) (was : List ℕ) where
    pub laid_none : Laid h choice ds 0 was was
    laid_none = record { laid = λ e i b. none e b; beyond = λ i l. refl }
      where
        none : (e : Edge) → Before 0 e → held_in h was e ≡ laid_by h choice ds e
        none (lane b y) l = absurd (omega arith)
        none (front b) l = absurd (omega arith)
        none (back b) l = absurd (omega arith)

    pub laid_more : (a : ℕ) (us is : List ℕ) → a < h.aisles → places h ≤ length us → Adds h a (choice a) (ds a) us is → Laid h choice ds a was us → Laid h choice ds (suc a) was is
    laid_more a us is l room adds so_far = record { laid = all; beyond = λ i k. entry i ∙ reached_beyond mid a i p l k ∙ adds.steps.outside i (inr (past i k)) ∙ so_far.beyond i k }
      where
        mid : List ℕ
        mid = adds.between

        p : Passage
        p = choice_passage (choice a)

        room_between : places h ≤ length mid
        room_between = omega (arith, adds.long)

        entry : (i : ℕ) → get_or is i 0 ≡ get_or (reached h a p mid) i 0
        entry i = ap (λ (xs : List ℕ). get_or xs i 0) adds.passages

        -- this aisle's steps end with the aisle
        own_end : a * h.deep + h.deep ≤ h.aisles * h.deep
        own_end = aisle_end a h.aisles l

        past : (i : ℕ) → places h ≤ i → a * h.deep + h.deep ≤ i
        past i k = omega (arith, own_end)

        own : (y : ℕ) → y < h.deep → get_or is (a * h.deep + y) 0 ≡ steps_or_none (best h.deep (ds a) (choice_effect (choice a))) y
        own y k = entry (a * h.deep + y) ∙ reached_lane mid a (a * h.deep + y) p l (lane_below a h.aisles y l k) ∙ adds.steps.inside y k

        all : (e : Edge) → In h e → Before (suc a) e → held_in h is e ≡ laid_by h choice ds e
        all (lane b y) (i, k) b_in = elim (ℕ_discrete b a) [
          | yes e ↦ ap (λ (n : ℕ). get_or is (n * h.deep + y) 0) e ∙ own y k ∙ sym (ap (λ (n : ℕ). laid_by h choice ds (lane n y)) e)
          | no e ↦
              entry (b * h.deep + y) ∙ reached_lane mid a (b * h.deep + y) p l (lane_below b h.aisles y i k)
              ∙ adds.steps.outside (b * h.deep + y) (inl (lane_below b a y (omega arith) k)) ∙ so_far.laid (lane b y) (i, k) (omega arith)
        ]
        all (front b) i b_in = entry (place h (front b)) ∙ front_by (reached_front mid a b p l room_between b_in)
          where
            front_by :
                ((suc b ≡ a) × (get_or (reached h a p mid) (place h (front b)) 0 ≡ passage_front p)) ⊎ ((suc b < a) × (get_or (reached h a p mid) (place h (front b)) 0 ≡ get_or mid (place h (front b)) 0)) →
                get_or (reached h a p mid) (place h (front b)) 0 ≡ laid_by h choice ds (front b)
            front_by (inl (e, is_new)) = is_new ∙ ap (λ (n : ℕ). passage_front (choice_passage (choice n))) (sym e)
            front_by (inr (k, is_old)) = is_old ∙ adds.steps.outside (place h (front b)) (inr (omega (arith, own_end))) ∙ so_far.laid (front b) i k
        all (back b) i b_in = entry (place h (back b)) ∙ back_by (reached_back mid a b p l room_between b_in)
          where
            back_by :
                ((suc b ≡ a) × (get_or (reached h a p mid) (place h (back b)) 0 ≡ passage_back p)) ⊎ ((suc b < a) × (get_or (reached h a p mid) (place h (back b)) 0 ≡ get_or mid (place h (back b)) 0)) →
                get_or (reached h a p mid) (place h (back b)) 0 ≡ laid_by h choice ds (back b)
            back_by (inl (e, is_new)) = is_new ∙ ap (λ (n : ℕ). passage_back (choice_passage (choice n))) (sym e)
            back_by (inr (k, is_old)) = is_old ∙ adds.steps.outside (place h (back b)) (inr (omega (arith, own_end))) ∙ so_far.laid (back b) i k
