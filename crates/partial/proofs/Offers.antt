-- Offers to the table: what a shut definition says where its cases are known. Assumes nothing.
use Rattle.std.proofs.Common.{◌≡◌, ℕ, ◌+◌, ◌<◌, ◌≤◌, min, Bool, cond, List, get_or, set, Some, None, Option, ap, ◌∙◌, le-ltb, lt-ltb}
use Rattle.aisle.specs.Costs.{Effect}
use Rattle.classes.specs.Classes.{Class, nothing_yet, Passage, none, transition, opening}
use Rattle.partial.specs.Table.{Tables, tables, cell, plus, toll, choice_number, offer, go, opened}

-- an offer that is taken, and one that is not
pub offer_taken : (i w k : ℕ) (t : Tables) → w < get_or t.lengths i 0 → offer i w k t ≡ tables (set t.lengths i w) (set t.came i k)
unfolding offer
offer_taken i w k t h = ap (λ (b : Bool). cond b (tables (set t.lengths i w) (set t.came i k)) t) (lt-ltb _ _ h)

pub offer_left : (i w k : ℕ) (t : Tables) → get_or t.lengths i 0 ≤ w → offer i w k t ≡ t
unfolding offer
offer_left i w k t h = ap (λ (b : Bool). cond b (tables (set t.lengths i w) (set t.came i k)) t) (le-ltb _ _ h)

module _ (apart : ℕ) (prices : Effect → ℕ) (a : ℕ) (c : Class) (p : Passage) (e : Effect) where
  -- the step of `go` by what the transition is
  going : Option Class → Tables → Tables
  going o t = elim o [
    | None ↦ t
    | Some d ↦ offer (cell (a + 1) d) (plus (plus (get_or t.lengths (cell a c) 0) (toll apart p)) (prices e)) (choice_number c p e) t
  ]

  pub go_nowhere : (t : Tables) → None ≡ transition c p e → t ≡ go apart prices a c p e t
  unfolding go going
  go_nowhere t h = ap (λ (o : Option Class). going o t) h

  pub go_to : (d : Class) (t : Tables) (i w k : ℕ) → Some d ≡ transition c p e → i ≡ cell (a + 1) d →
      w ≡ plus (plus (get_or t.lengths (cell a c) 0) (toll apart p)) (prices e) → k ≡ choice_number c p e → offer i w k t ≡ go apart prices a c p e t
  unfolding go going
  go_to d t i w k h at total number =
      (λ j. offer (at j) (total j) (number j) t) ∙ ap (λ (o : Option Class). going o t) h

-- two sums that stop at never, with each part known by an equation
pub total_of : (xs : List ℕ) (r q i at t x u y : ℕ) → r ≡ min (q + u) 4294967295 → q ≡ min (get_or xs i 0 + t) 4294967295 → i ≡ at → t ≡ x → u ≡ y → r ≡ plus (plus (get_or xs at 0) x) y
total_of xs r q i at t x u y e f g h k = cc

module _ (prices : Effect → ℕ) where
  -- the step of `opened` by what the opening is
  opening_by : Effect → Option Class → Tables → Tables
  opening_by e o t = elim o [ None ↦ t | Some c ↦ offer (cell 0 c) (prices e) (choice_number nothing_yet none e) t ]

  pub opened_to : (e : Effect) (c : Class) (t : Tables) (i w k : ℕ) → Some c ≡ opening e → i ≡ cell 0 c → w ≡ prices e → k ≡ choice_number nothing_yet none e →
      offer i w k t ≡ opened prices e t
  unfolding opened opening_by
  opened_to e c t i w k h at total number = (λ j. offer (at j) (total j) (number j) t) ∙ ap (λ (o : Option Class). opening_by e o t) h
