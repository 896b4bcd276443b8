-- The choices of a plan, read back from the last aisle to the first: what each turn of that loop keeps. Assumes nothing.
use Rattle.std.proofs.Common.{◌≡◌, ℕ, zero, suc, ◌+◌, ◌-◌, ◌<◌, ◌≤◌, List, length, get_or, set, replicate, sym, refl, ap, ◌∙◌, add-one, arith, length-set, get_or-set_other, get_or-set_same}
use native.Mathlib.Decide.{ℕ_discrete}
use Rattle.classes.specs.Classes.{Class}
use Rattle.partial.specs.Table.{cell}
use Rattle.partial.specs.Tracing.{choice_class, class_back, chosen}

-- nothing but 0
pub all_zero : (n a : ℕ) → ◌≡◌ {A = ℕ} (get_or (replicate n 0) a 0) 0
all_zero zero a = refl
all_zero (suc n) zero = refl
all_zero (suc n) (suc a) = all_zero n a

module _ (m : ℕ) (came : List ℕ) (end : Class) where
  -- k choices are read, and the next class is known
  abbrev pub Read : List ℕ → Class → ℕ → Type 0
  Read choices c k =
      (length choices ≡ 64) × (c ≡ class_back m came end k) × ((a : ℕ) → m ≤ a → get_or choices a 0 ≡ 0)
      × ((j : ℕ) → j < k → get_or choices (m - 1 - j) 0 ≡ get_or came (cell (m - 1 - j) (class_back m came end j)) 0)

  pub read_none : (choices : List ℕ) (k : ℕ) → length choices ≡ 64 → ((a : ℕ) → get_or choices a 0 ≡ 0) → k ≡ 0 → Read choices end k
  unfolding class_back
  read_none choices k e z none = (e, ap (class_back m came end) (sym none), λ a l. z a, λ j h. absurd (omega arith))

  pub read_more :
      (choices : List ℕ) (c d : Class) (k i x next_k : ℕ) → m ≤ 64 → k < m → i ≡ m - 1 - k → next_k ≡ k + 1 → x ≡ get_or came (cell i c) 0 → d ≡ choice_class x →
      Read choices c k → Read (set choices i x) d next_k
  unfolding class_back
  read_more choices c d k i x next_k few l at one is next (long, class, beyond, earlier) = (
    length-set choices i x ∙ long,
    next ∙ ap choice_class (is ∙ behind) ∙ ap (class_back m came end) (sym (add-one k) ∙ sym one),
    λ a h. get_or-set_other choices i a x 0 (λ z. omega arith) ∙ beyond a h,
    λ j h. all j (omega arith),
  )
    where
      behind : get_or came (cell i c) 0 ≡ get_or came (cell (m - 1 - k) (class_back m came end k)) 0
      behind = λ z. get_or came (cell (at z) (class z)) 0

      here : (j : ℕ) → j ≡ k → get_or (set choices i x) (m - 1 - j) 0 ≡ get_or came (cell (m - 1 - j) (class_back m came end j)) 0
      here j e =
          ap (λ (n : ℕ). get_or (set choices i x) n 0) (omega arith) ∙ get_or-set_same choices i x 0 (omega arith) ∙ is ∙ behind
          ∙ ap (λ (n : ℕ). get_or came (cell (m - 1 - n) (class_back m came end n)) 0) (sym e)

      all : (j : ℕ) → j < k + 1 → get_or (set choices i x) (m - 1 - j) 0 ≡ get_or came (cell (m - 1 - j) (class_back m came end j)) 0
      all j h = elim (ℕ_discrete j k) [
        | yes e ↦ here j e
        | no e ↦ get_or-set_other choices i (m - 1 - j) x 0 (λ z. e (omega arith)) ∙ earlier j (omega arith)
      ]

  -- all choices are read
  pub read_all : (choices : List ℕ) (c : Class) (k : ℕ) → m ≤ k → Read choices c k → (a : ℕ) → a < m → get_or choices a 0 ≡ chosen m came end a
  read_all choices c k l (long, class, beyond, earlier) a h =
      let back : m - 1 - (m - 1 - a) ≡ a = omega arith in
      ap (λ (n : ℕ). get_or choices n 0) (sym back) ∙ earlier (m - 1 - a) (omega arith) ∙ ap (λ (n : ℕ). get_or came (cell n (class_back m came end (m - 1 - a))) 0) back
