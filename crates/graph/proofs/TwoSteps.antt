-- The steps for parts of a tour with two ends, in numbers: "and" is min, "or" is +. Assumes nothing.
use mathlib.Core.Path.{◌≡◌, refl, sym, ◌∙◌}
use mathlib.Core.Logic.{◌⊎◌, inl, inr, ◌≢◌, Ne-symm}
use Prim.Native.Nat.{ℕ, ◌+◌, ◌%◌, ◌<◌, min}
use native.Mathlib.Omega.{arith}
use native.Mathlib.Decide.{dec_lt}
use Rattle.graph.specs.Graph.{Graph, Laws, Ends}
use Rattle.graph.proofs.Links.{Meets}
use Rattle.graph.proofs.Rules.{Closed}
use Rattle.graph.proofs.Many.{many}
use Rattle.graph.proofs.State.{ButAt, IsEnd, Whole, load}
use Rattle.graph.proofs.Together.{Together, MeetAt}
use Rattle.graph.proofs.Begin.{Wish, wish}
use Rattle.graph.proofs.Union.{Chain, none, more, union}
use Rattle.graph.proofs.Move.{Move, MayLeave, Across, move}
use Rattle.graph.proofs.Close.{close}
use Rattle.graph.proofs.Behind.{behind}
use Rattle.graph.proofs.Exchange.{exchange}
use Rattle.graph.proofs.TwoEnds.{Two, front, back, two_dec, front_not_back, each, joined_by, joined_positive, PartialTour, part_state, state_part}

-- another one at the front leaves the back as it is
back_same : {A : Type 0} (a c b : A) (k : Two) → k ≢ front → each a b k ≡ each c b k
back_same a c b front z = absurd (z refl)
back_same a c b back z = refl

but_front : (m f b : ℕ) → ButAt front m (each f b) (each m b)
but_front m f b = record { here = refl; others = back_same m f b }

-- two ends that are apart, said for either of them
apart_front : {A : Type 0} {P Q : A} → P ≢ Q → (k : Two) → k ≢ front → each P Q k ≢ P
apart_front apart front z same = z refl
apart_front apart back z same = apart (sym same)

-- links of two parts, one after the other, are made by one of the numbers
chain_joined : {j k : ℕ} {p q : Two} → Chain (joined_by j) (joined_by k) p q → joined_by (j + k) p q
chain_joined none = inl refl
chain_joined {j} {k} (more c s) = onto (chain_joined c) s
  where
    onto : {p q r : Two} → joined_by (j + k) p q → joined_by j q r ⊎ joined_by k q r → joined_by (j + k) p r
    onto (inr z) s = inr z
    onto (inl same) (inl (inl again)) = inl (same ∙ again)
    onto (inl same) (inr (inl again)) = inl (same ∙ again)
    onto (inl same) (inl (inr z)) = inr (omega arith)
    onto (inl same) (inr (inr z)) = inr (omega arith)

module _ (G : Graph) where
  -- the uses w go on from u: the front end P over m uses of the edge e to the fresh spot P', the back end stays
  pub record FrontMove (n : G.Spot → ℕ) (u w : G.Edge → ℕ) (P Q P' : G.Spot) (e : G.Edge) (m : ℕ) : Type 0 where
    pub there : G.In e
    pub leads : Ends G e P P'
    pub uses : (x : G.Edge) → G.In x → w x ≡ u x + many G e m x
    pub bare : load G n u P' ≡ 0
    pub apart : P ≢ Q
    pub fresh : P ≢ P'
    pub clear : Q ≢ P'

  front_move :
      {n : G.Spot → ℕ} {u w : G.Edge → ℕ} {P Q P' : G.Spot} {e : G.Edge} {m : ℕ} → FrontMove n u w P Q P' e m →
      Move G n u w (each P Q) (each P' Q) front e m
  front_move {P = P} {Q = Q} {P' = P'} mv =
      record {
        there = mv.there;
        leads = mv.leads;
        uses = mv.uses;
        bare = mv.bare;
        fresh = fresh;
        apart = apart_front mv.apart;
        others = back_same P' P Q;
      }
    where
      fresh : (k : Two) → P' ≢ each P Q k
      fresh front = Ne-symm mv.fresh
      fresh back = Ne-symm mv.clear

  -- one of two spots is an end
  end_of : {P Q x : G.Spot} → (x ≡ P) ⊎ (x ≡ Q) → IsEnd G (each P Q) x
  end_of (inl same) = (front, same)
  end_of (inr same) = (back, same)

  meet_each : {P Q : G.Spot} {u v : G.Edge → ℕ} → Meets G P Q u v → MeetAt G (each P Q) u v
  meet_each meets = record { at = λ x p q. end_of (meets.at x p q) }

module _ (G : Graph) {size : (G.Edge → ℕ) → ℕ} (laws : Laws G size) where
  -- k more at the front end
  pub part_wish :
      {n m : G.Spot → ℕ} {u : G.Edge → ℕ} {P Q : G.Spot} {f b j : ℕ} (k : ℕ) → P ≢ Q → m P ≡ n P + k →
      ((x : G.Spot) → x ≢ P → m x ≡ n x) → PartialTour G n u P Q f b j → PartialTour G m u P Q (f + k) b j
  part_wish {n} {m} {u} {P} {Q} {f} {b} {j} k apart here others part =
      state_part G (wish G two_dec more (but_front (f + k) f b) (part_state G part)) (joined_positive j)
    where
      more : Wish G n m (each P Q) front k
      more = record { more = here; others = others; apart = apart_front apart }

  -- the front end is left over m uses of an edge
  pub part_move :
      {n : G.Spot → ℕ} {u w : G.Edge → ℕ} {P Q P' : G.Spot} {e : G.Edge} {f b j m : ℕ} → FrontMove G n u w P Q P' e m →
      (f + m) % 2 ≡ 0 → (0 < f → 0 < m + j) → PartialTour G n u P Q f b j → PartialTour G n w P' Q m b (min m j)
  part_move {f = f} {b = b} {j = j} {m = m} mv even goes_on part =
      state_part G (move G laws two_dec (front_move G mv) may (but_front m f b) (part_state G part)) (there, again)
    where
      may : MayLeave front m (each f b) (joined_by j)
      may = record { even = even; goes_on = λ p. on (goes_on p) }
        where
          on : 0 < m + j → (0 < m) ⊎ ((k : Two) × (k ≢ front) × joined_by j front k)
          on p = elim (dec_lt 0 m) [ yes q ↦ inl q | no q ↦ inr (back, Ne-symm front_not_back, inr (omega arith)) ]

      there : 0 < min m j → Across front m (joined_by j) front back
      there p = (inr (omega arith), inr (inl (omega arith), inl (omega arith)))

      again : Across front m (joined_by j) front back → 0 < min m j
      again (l, inl same) = absurd (front_not_back same)
      again (l, inr (inr z, b)) = absurd (z refl)
      again (l, inr (inl z, b)) = omega (arith, (joined_positive j).1 l)

  -- two parts that meet at their ends only
  pub part_union :
      {n m l : G.Spot → ℕ} {u v w : G.Edge → ℕ} {P Q : G.Spot} {f b j g c k : ℕ} → Together G n m l u v w → Meets G P Q u v →
      PartialTour G n u P Q f b j → PartialTour G m v P Q g c k → PartialTour G l w P Q (f + g) (b + c) (j + k)
  part_union {j = j} {k = k} both meets first second =
      state_part G (union G laws both (meet_each G meets) (part_state G first) (part_state G second)) (there, λ c. (joined_positive (j + k)).1 (chain_joined c))
    where
      there : 0 < j + k → Chain (joined_by j) (joined_by k) front back
      there p = elim (dec_lt 0 j) [ yes q ↦ more none (inl (inr q)) | no q ↦ more none (inr (inr (omega arith))) ]

  -- a part in a closed state is whole
  pub part_close : {n : G.Spot → ℕ} {u : G.Edge → ℕ} {P Q : G.Spot} {f b j : ℕ} → Closed f b j → PartialTour G n u P Q f b j → Whole G n u
  part_close {n} {u} {P} {Q} {f} {b} {j} closed part = close G laws (part_state G part) even joined
    where
      even : (i : Two) → each f b i % 2 ≡ 0
      even front = closed.front_even
      even back = closed.back_even

      joined : (i k : Two) → 0 < each f b i → 0 < each f b k → joined_by j i k
      joined front front p q = inl refl
      joined front back p q = inr (closed.joined p q)
      joined back front p q = inr (closed.joined q p)
      joined back back p q = inl refl

  -- and only such a part is
  pub part_closed : {n : G.Spot → ℕ} {u : G.Edge → ℕ} {P Q : G.Spot} {f b j : ℕ} → PartialTour G n u P Q f b j → Whole G n u → Closed f b j
  part_closed {P = P} {Q = Q} part whole =
      record {
        front_even = omega (arith, part.at_front, whole.even P);
        back_even = omega (arith, part.at_back, whole.even Q);
        joined = λ p q. part.joined.1 (whole.linked P Q (omega (arith, part.at_front)) (omega (arith, part.at_back)));
      }

  -- a part of a whole tour that has something at the front, where the rest uses nothing: if there is something live elsewhere, the ends are linked
  pub part_behind :
      {n m l : G.Spot → ℕ} {u r w : G.Edge → ℕ} {P Q : G.Spot} {f b j : ℕ} → Together G n m l u r w → Meets G P Q u r → Whole G l w →
      0 < f → G.deg r P ≡ 0 → (y : G.Spot) → 0 < load G l w y → (y ≡ Q) ⊎ ((y ≢ P) × (G.deg u y ≡ 0)) → PartialTour G n u P Q f b j → 0 < j
  part_behind {u = u} {P = P} {Q = Q} {j = j} both meets whole some nothing y live elsewhere part =
      number (behind G laws (part_state G part) both (meet_each G meets) whole front some nothing y live (place elsewhere))
    where
      place : (y ≡ Q) ⊎ ((y ≢ P) × (G.deg u y ≡ 0)) → ((k : Two) × (k ≢ front) × (y ≡ each P Q k)) ⊎ ((y ≢ P) × (G.deg u y ≡ 0))
      place (inl same) = inl (back, Ne-symm front_not_back, same)
      place (inr away) = inr away

      number : (k : Two) × (k ≢ front) × joined_by j front k → 0 < j
      number (k, other, inl same) = absurd (other (sym same))
      number (k, other, inr z) = z

  -- two beginnings of one state are completed in the same ways
  pub part_exchange :
      {n m c l k : G.Spot → ℕ} {u v r w z : G.Edge → ℕ} {P Q : G.Spot} {f b j : ℕ} → PartialTour G n u P Q f b j →
      PartialTour G m v P Q f b j → ((x : G.Spot) → 0 < G.deg u x → 0 < load G c r x → (x ≡ P) ⊎ (x ≡ Q)) → Together G n c l u r w →
      Together G m c k v r z → Whole G l w → Whole G k z
  part_exchange first second meets old new whole =
      exchange G laws (part_state G first) (part_state G second) (record { at = λ x p q. end_of G (meets x p q) }) old new whole
