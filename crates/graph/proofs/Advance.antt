-- Going on to the next aisle: both ends move over their passages, then the aisle joins. Which passages are accepted, and what state follows. Assumes nothing.
use mathlib.Core.Path.{◌≡◌, refl, ◌∙◌, ap}
use mathlib.Core.Logic.{◌⊎◌, inl, inr, ◌≢◌, Ne-symm}
use Prim.Native.Nat.{ℕ, ◌+◌, ◌%◌, ◌<◌, min}
use native.Mathlib.Omega.{arith}
use native.Mathlib.Decide.{dec_lt}
use Rattle.graph.specs.Graph.{Graph, Laws}
use Rattle.graph.proofs.Links.{Meets}
use Rattle.graph.proofs.Rules.{Accepted}
use Rattle.graph.proofs.Weight.{weight, weight_none}
use Rattle.graph.proofs.Many.{many}
use Rattle.graph.proofs.State.{Whole, load}
use Rattle.graph.proofs.Together.{Together}
use Rattle.graph.proofs.Split.{Split}
use Rattle.graph.proofs.Passage.{Passage, old_new, passage_start, passage_end, passage_done, passage_beyond}
use Rattle.graph.proofs.TwoEnds.{PartialTour, part_swap}
use Rattle.graph.proofs.TwoSteps.{FrontMove, part_move, part_union, part_behind}

module _ (G : Graph) where
  -- the beginning with needs n and uses u goes on from its ends P and Q, over i uses of the edge e and k uses of the edge g,
  -- to the ends P' and Q' of the part with needs l and uses v; Done are the spots of the beginning
  pub record Onward
      (Done : G.Spot → Type 0) (n l needed : G.Spot → ℕ) (u v w : G.Edge → ℕ) (P Q P' Q' : G.Spot) (e g : G.Edge) (i k : ℕ) : Type 0 where
    pub front : Passage G Done e P P'
    pub back : Passage G Done g Q Q'
    pub old_apart : P ≢ Q
    pub new_apart : P' ≢ Q'
    pub needs : (x : G.Spot) → needed x ≡ n x + l x
    pub uses : (x : G.Edge) → G.In x → w x ≡ u x + many G e i x + many G g k x + v x
    pub parts : Split G Done n l u v

  -- a spot that can't be away from both of two is one of them
  one_of : {x P Q : G.Spot} → (x ≢ P → x ≢ Q → ⊥) → (x ≡ P) ⊎ (x ≡ Q)
  one_of {x} {P} {Q} near =
      elim (G.spot_dec x P) [
        | yes same ↦ inl same
        | no a ↦ elim (G.spot_dec x Q) [ yes same ↦ inr same | no b ↦ absurd (near a b) ]
      ]

module _ (G : Graph) {size : (G.Edge → ℕ) → ℕ} (laws : Laws G size)
    {Done : G.Spot → Type 0} {n l needed : G.Spot → ℕ} {u v w : G.Edge → ℕ} {P Q P' Q' : G.Spot} {e g : G.Edge} {i k : ℕ}
    (on : Onward G Done n l needed u v w P Q P' Q' e g i k) where
  -- the uses of the beginning with the front passage, and with both
  abbrev with_front : G.Edge → ℕ
  with_front x = u x + many G e i x

  abbrev with_both : G.Edge → ℕ
  with_both x = with_front x + many G g k x

  -- the uses that are left from the back passage on, and from both on
  abbrev from_back : G.Edge → ℕ
  from_back x = many G g k x + v x

  abbrev from_both : G.Edge → ℕ
  from_both x = many G e i x + from_back x

  degree_with_front : (x : G.Spot) → G.deg with_front x ≡ G.deg u x + G.deg (many G e i) x
  degree_with_front x = (laws.degree x).add u (many G e i) with_front (λ y there. refl)

  degree_with_both : (x : G.Spot) → G.deg with_both x ≡ G.deg with_front x + G.deg (many G g k) x
  degree_with_both x = (laws.degree x).add with_front (many G g k) with_both (λ y there. refl)

  degree_from_back : (x : G.Spot) → G.deg from_back x ≡ G.deg (many G g k) x + G.deg v x
  degree_from_back x = (laws.degree x).add (many G g k) v from_back (λ y there. refl)

  degree_from_both : (x : G.Spot) → G.deg from_both x ≡ G.deg (many G e i) x + G.deg from_back x
  degree_from_both x = (laws.degree x).add (many G e i) from_back from_both (λ y there. refl)

  total : (x : G.Spot) → load G needed w x ≡ load G n u x + G.deg (many G e i) x + G.deg (many G g k) x + load G l v x
  total x = omega (arith, on.needs x, degree_with_front x, degree_with_both x, (laws.degree x).add with_both v w on.uses)

  -- beyond the beginning the front passage reaches its end only
  bare_with_front : (x : G.Spot) → ¬ Done x → x ≢ P' → load G n with_front x ≡ 0
  bare_with_front x new a = omega (arith, degree_with_front x, on.parts.beginning x new, passage_beyond G laws on.front i x new a)

  -- in the beginning what is left reaches the back end only, from both passages on the front end too
  bare_from_back : (x : G.Spot) → Done x → x ≢ Q → G.deg from_back x ≡ 0
  bare_from_back x done b = omega (arith, degree_from_back x, on.parts.beyond x done, passage_done G laws on.back k x done b)

  bare_from_both : (x : G.Spot) → Done x → x ≢ P → x ≢ Q → G.deg from_both x ≡ 0
  bare_from_both x done a b = omega (arith, degree_from_both x, bare_from_back x done b, passage_done G laws on.front i x done a)

  -- what is used so far meets what is left at the ends only, before the passages, between them and after them
  meets_before : Meets G P Q u from_both
  meets_before = record { at = λ x p q. one_of G (λ a b. old x p (λ done. omega (arith, bare_from_both x done a b))) }
    where
      old : (x : G.Spot) → 0 < G.deg u x → ¬ ¬ Done x
      old x p new = omega (arith, on.parts.beginning x new)

  meets_between : Meets G Q P' with_front from_back
  meets_between = record { at = λ x p q. one_of G (λ b a. old x p a (λ done. omega (arith, bare_from_back x done b))) }
    where
      old : (x : G.Spot) → 0 < G.deg with_front x → x ≢ P' → ¬ ¬ Done x
      old x p a new = omega (arith, bare_with_front x new a)

  meets_after : Meets G P' Q' with_both v
  meets_after = record { at = λ x p q. one_of G (λ a b. old x p a b (λ done. omega (arith, on.parts.beyond x done))) }
    where
      old : (x : G.Spot) → 0 < G.deg with_both x → x ≢ P' → x ≢ Q' → ¬ ¬ Done x
      old x p a b new = omega (arith, degree_with_both x, bare_with_front x new a, passage_beyond G laws on.back k x new b)

  -- where a passage is used there is something live beyond the beginning
  pub live_beyond : 0 < i + k → (y : G.Spot) × (¬ Done y) × (0 < load G needed w y)
  live_beyond some =
      elim (dec_lt 0 i) [
        | yes p ↦ (P', on.front.new, omega (arith, total P', passage_end G laws on.front i))
        | no p ↦ (Q', on.back.new, omega (arith, total Q', passage_end G laws on.back k))
      ]

  -- where no passage is used there is nothing between the beginning and what is beyond it
  pub without_passages : i ≡ 0 → k ≡ 0 → Together G n l needed u v w
  without_passages no_front no_back =
      record { needs = on.needs; uses = λ x there. omega (arith, on.uses x there, unused e x no_front, unused g x no_back) }
    where
      unused : {m : ℕ} (a x : G.Edge) → m ≡ 0 → many G a m x ≡ 0
      unused a x none = ap (weight (G.edge_dec a x)) none ∙ weight_none (G.edge_dec a x)

  front_move : FrontMove G n u with_front P Q P' e i
  front_move =
      record {
        there = on.front.there;
        leads = on.front.leads;
        uses = λ x there. refl;
        bare = on.parts.beginning P' on.front.new;
        apart = on.old_apart;
        fresh = old_new Done on.front.old on.front.new;
        clear = old_new Done on.back.old on.front.new;
      }

  back_move : FrontMove G n with_front with_both Q P' Q' g k
  back_move =
      record {
        there = on.back.there;
        leads = on.back.leads;
        uses = λ x there. refl;
        bare = bare_with_front Q' on.back.new (Ne-symm on.new_apart);
        apart = old_new Done on.back.old on.front.new;
        fresh = old_new Done on.back.old on.back.new;
        clear = on.new_apart;
      }

  module _ {f b j : ℕ} (part : PartialTour G n u P Q f b j) where
    past_front : (f + i) % 2 ≡ 0 → (0 < f → 0 < i + j) → PartialTour G n with_front Q P' b i (min i j)
    past_front even goes_on = part_swap G (part_move G laws front_move even goes_on part)

    past_both : Accepted f b j i k → PartialTour G n with_both P' Q' i k (min k (min i j))
    past_both ok =
        part_swap G (part_move G laws back_move ok.back_even ok.back_goes_on (past_front ok.front_even ok.front_goes_on))

    -- accepted passages and the next part lead to this state
    pub advance :
        {x y t : ℕ} → Accepted f b j i k → PartialTour G l v P' Q' x y t → PartialTour G needed w P' Q' (i + x) (k + y) (min k (min i j) + t)
    advance ok next = part_union G laws (record { needs = on.needs; uses = on.uses }) meets_after (past_both ok) next

    -- the passages of a whole tour with something live beyond the beginning are accepted
    pub accepted : Whole G needed w → (y : G.Spot) → ¬ Done y → 0 < load G needed w y → Accepted f b j i k
    accepted whole y new live =
        record { front_even = front_even; back_even = back_even; front_goes_on = front_goes_on; back_goes_on = back_goes_on }
      where
        front_at_back : G.deg (many G e i) Q ≡ 0
        front_at_back = passage_done G laws on.front i Q on.back.old (Ne-symm on.old_apart)

        back_at_front : G.deg (many G g k) P ≡ 0
        back_at_front = passage_done G laws on.back k P on.front.old on.old_apart

        at_front : load G needed w P ≡ load G n u P + i
        at_front = omega (arith, total P, passage_start G laws on.front i, back_at_front, on.parts.beyond P on.front.old)

        at_back : load G needed w Q ≡ load G n u Q + k
        at_back = omega (arith, total Q, passage_start G laws on.back k, front_at_back, on.parts.beyond Q on.back.old)

        front_even : (f + i) % 2 ≡ 0
        front_even = omega (arith, part.at_front, whole.even P, at_front)

        back_even : (b + k) % 2 ≡ 0
        back_even = omega (arith, part.at_back, whole.even Q, at_back)

        front_goes_on : 0 < f → 0 < i + j
        front_goes_on some = elim (dec_lt 0 i) [ yes p ↦ omega arith | no p ↦ omega (arith, joined p) ]
          where
            left : Together G n l needed u from_both w
            left = record { needs = on.needs; uses = λ x there. omega (arith, on.uses x there) }

            nothing : ¬ (0 < i) → G.deg from_both P ≡ 0
            nothing p =
                omega (arith, degree_from_both P, passage_start G laws on.front i, bare_from_back P on.front.old on.old_apart)

            elsewhere : (y ≡ Q) ⊎ ((y ≢ P) × (G.deg u y ≡ 0))
            elsewhere = inr (Ne-symm (old_new Done on.front.old new), omega (arith, on.parts.beginning y new))

            joined : ¬ (0 < i) → 0 < j
            joined p = part_behind G laws left meets_before whole some (nothing p) y live elsewhere part

        back_goes_on : 0 < b → 0 < k + min i j
        back_goes_on some = elim (dec_lt 0 k) [ yes p ↦ omega arith | no p ↦ omega (arith, joined p) ]
          where
            left : Together G n l needed with_front from_back w
            left = record { needs = on.needs; uses = λ x there. omega (arith, on.uses x there) }

            nothing : ¬ (0 < k) → G.deg from_back Q ≡ 0
            nothing p = omega (arith, degree_from_back Q, passage_start G laws on.back k, on.parts.beyond Q on.back.old)

            elsewhere : (y ≡ P') ⊎ ((y ≢ Q) × (G.deg with_front y ≡ 0))
            elsewhere =
                elim (G.spot_dec y P') [
                  | yes same ↦ inl same
                  | no a ↦ inr (Ne-symm (old_new Done on.back.old new), omega (arith, bare_with_front y new a))
                ]

            joined : ¬ (0 < k) → 0 < min i j
            joined p = part_behind G laws left meets_between whole some (nothing p) y live elsewhere (past_front front_even front_goes_on)
