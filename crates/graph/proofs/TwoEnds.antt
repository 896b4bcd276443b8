-- Parts of a tour with two ends: the state is three numbers, one for each end and one that is positive iff the ends are linked. Assumes nothing.
use mathlib.Core.Path.{◌≡◌, refl, ap}
use mathlib.Core.Logic.{◌⊎◌, inl, inr, ◌↔◌, ◌≢◌, ⊎_swap}
use Prim.Native.Nat.{ℕ, ◌%◌, ◌<◌}
use native.Mathlib.Omega.{arith}
use Rattle.graph.specs.Graph.{Graph, Laws, Linked, here}
use Rattle.graph.proofs.Links.{linked_sym, linked_same}
use Rattle.graph.proofs.Class.{SameClass}
use Rattle.graph.proofs.State.{IsEnd, State, load, state_alike}

pub data Two : Type 0 where
  front : Two
  back : Two
  deriving Discrete as two_dec

pub front_not_back : front ≢ back
front_not_back e = let z : ◌≡◌ {A = ℕ} 0 1 = cc in omega arith

-- one for each end
abbrev pub each : {A : Type 0} → A → A → Two → A
each a b front = a
each a b back = b

-- an end is linked with itself, and with the other one if the number is positive
abbrev pub joined_by : ℕ → Two → Two → Type 0
joined_by j p q = (p ≡ q) ⊎ (0 < j)

pub joined_positive : (j : ℕ) → (0 < j) ↔ joined_by j front back
joined_positive j = (λ z. inr z, λ l. elim l [ inl same ↦ absurd (front_not_back same) | inr z ↦ z ])

module _ (G : Graph) where
  -- uses u with needs n between the ends P and Q, in the state (f, b, j)
  pub record PartialTour (n : G.Spot → ℕ) (u : G.Edge → ℕ) (P Q : G.Spot) (f b j : ℕ) : Type 0 where
    pub at_front : SameClass (load G n u P) f
    pub at_back : SameClass (load G n u Q) b
    pub even : (x : G.Spot) → x ≢ P → x ≢ Q → load G n u x % 2 ≡ 0
    pub held : (x : G.Spot) → 0 < load G n u x → Linked G u x P ⊎ Linked G u x Q
    pub joined : (0 < j) ↔ Linked G u P Q

  -- a part with two ends as a state over them
  pub part_state :
      {n : G.Spot → ℕ} {u : G.Edge → ℕ} {P Q : G.Spot} {f b j : ℕ} → PartialTour n u P Q f b j → State G n u (each P Q) (each f b) (joined_by j)
  part_state {n} {u} {P} {Q} {f} {b} {j} part = record { at_end = at_end; even = even; held = λ x p. held (part.held x p); linked = linked }
    where
      at_end : (i : Two) → SameClass (load G n u (each P Q i)) (each f b i)
      at_end front = part.at_front
      at_end back = part.at_back

      even : (x : G.Spot) → (load G n u x % 2 ≡ 0) ⊎ IsEnd G (each P Q) x
      even x =
          elim (G.spot_dec x P) [
            | yes same ↦ inr (front, same)
            | no a ↦ elim (G.spot_dec x Q) [ yes same ↦ inr (back, same) | no b ↦ inl (part.even x a b) ]
          ]

      held : {x : G.Spot} → Linked G u x P ⊎ Linked G u x Q → (i : Two) × Linked G u x (each P Q i)
      held (inl l) = (front, l)
      held (inr l) = (back, l)

      there : (p q : Two) → joined_by j p q → Linked G u (each P Q p) (each P Q q)
      there p q (inl same) = linked_same G (ap (each P Q) same)
      there front front (inr z) = here
      there front back (inr z) = part.joined.0 z
      there back front (inr z) = linked_sym G (part.joined.0 z)
      there back back (inr z) = here

      again : (p q : Two) → Linked G u (each P Q p) (each P Q q) → joined_by j p q
      again front front l = inl refl
      again front back l = inr (part.joined.1 l)
      again back front l = inr (part.joined.1 (linked_sym G l))
      again back back l = inl refl

      linked : (p q : Two) → joined_by j p q ↔ Linked G u (each P Q p) (each P Q q)
      linked p q = (there p q, again p q)

  -- and back, where the number says whether the state links the ends
  pub state_part :
      {n : G.Spot → ℕ} {u : G.Edge → ℕ} {ends : Two → G.Spot} {f : Two → ℕ} {k : Two → Two → Type 0} {j : ℕ} → State G n u ends f k →
      (0 < j) ↔ k front back → PartialTour n u (ends front) (ends back) (f front) (f back) j
  state_part {n} {u} {ends} {f} {k} {j} st iff =
      record {
        at_front = st.at_end front;
        at_back = st.at_end back;
        even = λ x a b. even a b (st.even x);
        held = λ x p. held (st.held x p);
        joined = (λ z. (st.linked front back).0 (iff.0 z), λ l. iff.1 ((st.linked front back).1 l));
      }
    where
      even : {x : G.Spot} → x ≢ ends front → x ≢ ends back → (load G n u x % 2 ≡ 0) ⊎ IsEnd G ends x → load G n u x % 2 ≡ 0
      even a b (inl e) = e
      even a b (inr (front, same)) = absurd (a same)
      even a b (inr (back, same)) = absurd (b same)

      held : {x : G.Spot} → (i : Two) × Linked G u x (ends i) → Linked G u x (ends front) ⊎ Linked G u x (ends back)
      held (front, l) = inl l
      held (back, l) = inr l

  -- the other end first
  pub part_swap : {n : G.Spot → ℕ} {u : G.Edge → ℕ} {P Q : G.Spot} {f b j : ℕ} → PartialTour n u P Q f b j → PartialTour n u Q P b f j
  part_swap part =
      record {
        at_front = part.at_back;
        at_back = part.at_front;
        even = λ x p q. part.even x q p;
        held = λ x p. ⊎_swap (part.held x p);
        joined = (λ z. linked_sym G (part.joined.0 z), λ l. part.joined.1 (linked_sym G l));
      }

  -- other numbers of the same classes
  pub part_class :
      {n : G.Spot → ℕ} {u : G.Edge → ℕ} {P Q : G.Spot} {f b j g c k : ℕ} → SameClass f g → SameClass b c → (0 < j) ↔ (0 < k) →
      PartialTour n u P Q f b j → PartialTour n u P Q g c k
  part_class {n} {u} {P} {Q} {f} {b} {j} {g} {c} {k} same_front same_back same_link part =
      record {
        at_front = omega (arith, part.at_front);
        at_back = omega (arith, part.at_back);
        even = part.even;
        held = part.held;
        joined = (λ z. part.joined.0 (same_link.1 z), λ l. same_link.0 (part.joined.1 l));
      }

module _ (G : Graph) {size : (G.Edge → ℕ) → ℕ} (laws : Laws G size) where
  -- only the edges that are there count, and needs count by their values
  pub part_alike :
      {n m : G.Spot → ℕ} {u v : G.Edge → ℕ} {P Q : G.Spot} {f b j : ℕ} → ((x : G.Spot) → m x ≡ n x) →
      ((e : G.Edge) → G.In e → v e ≡ u e) → PartialTour G n u P Q f b j → PartialTour G m v P Q f b j
  part_alike {n} {m} {u} {v} {P} {Q} {f} {b} {j} needs uses part = state_part G (state_alike G laws needs uses (part_state G part)) (joined_positive j)
