-- An end of a part of a tour moves over an edge to a fresh spot: what is accepted, and the state that it leads to. Assumes nothing.
use mathlib.Core.Path.{◌≡◌, refl, sym, ◌∙◌, ap, subst}
use mathlib.Core.Logic.{◌⊎◌, inl, inr, ◌↔◌, ◌≢◌, Ne-symm, ite, if_pos, if_neg}
use Prim.Native.Nat.{ℕ, ◌+◌, ◌%◌, ◌<◌}
use native.Mathlib.Omega.{arith}
use native.Mathlib.Decide.{dec_lt}
use Rattle.graph.specs.Graph.{Graph, Laws, Ends, Linked}
use Rattle.graph.proofs.Sums.{degree_at_start, degree_at_end}
use Rattle.graph.proofs.Links.{maps, linked_more, linked_by, linked_trans, linked_sym, linked_same, alone}
use Rattle.graph.proofs.Class.{SameClass}
use Rattle.graph.proofs.Weight.{weight_yes, weight_no}
use Rattle.graph.proofs.Many.{many, degree_many_start, degree_many_end, degree_many_else}
use Rattle.graph.proofs.State.{ButAt, IsEnd, State, load, live_along}

-- an end that is not cut off by the move of end i over m uses
abbrev pub Stays : {I : Type 0} → I → ℕ → I → Type 0
Stays i m p = (0 < m) ⊎ (p ≢ i)

-- ends that are linked after the move of end i over m uses
abbrev pub Across : {I : Type 0} → I → ℕ → (I → I → Type 0) → I → I → Type 0
Across i m j p q = j p q × ((p ≡ q) ⊎ (Stays i m p × Stays i m q))

-- when end i may be left with m uses: an even number in all; and if there is something, it goes on over the edge or by another end
pub record MayLeave {I : Type 0} (i : I) (m : ℕ) (f : I → ℕ) (j : I → I → Type 0) : Type 0 where
  pub even : (f i + m) % 2 ≡ 0
  pub goes_on : 0 < f i → (0 < m) ⊎ ((k : I) × (k ≢ i) × j i k)

module _ (G : Graph) where
  -- the uses w go on from u: the end i over m uses of the edge e to a fresh spot, the other ends stay
  pub record Move {I : Type 0} (n : G.Spot → ℕ) (u w : G.Edge → ℕ) (old new : I → G.Spot) (i : I) (e : G.Edge) (m : ℕ) : Type 0 where
    pub there : G.In e
    pub leads : Ends G e (old i) (new i)
    pub uses : (x : G.Edge) → G.In x → w x ≡ u x + many G e m x
    pub bare : load G n u (new i) ≡ 0
    pub fresh : (k : I) → new i ≢ old k
    pub apart : (k : I) → k ≢ i → old k ≢ old i
    pub others : (k : I) → k ≢ i → new k ≡ old k

module _ (G : Graph) {size : (G.Edge → ℕ) → ℕ} (laws : Laws G size) {I : Type 0} (dec : Discrete I)
    {n : G.Spot → ℕ} {u w : G.Edge → ℕ} {old new : I → G.Spot} {i : I} {e : G.Edge} {m : ℕ} (mv : Move G n u w old new i e m) where
  degree_moved : (x : G.Spot) → G.deg w x ≡ G.deg u x + G.deg (many G e m) x
  degree_moved x = (laws.degree x).add u (many G e m) w mv.uses

  degree_at_new : G.deg w (new i) ≡ m
  degree_at_new = omega (arith, degree_moved (new i), degree_many_end G laws e mv.there mv.leads (Ne-symm (mv.fresh i)) m, mv.bare)

  load_at_old : load G n w (old i) ≡ load G n u (old i) + m
  load_at_old = omega (arith, degree_moved (old i), degree_many_start G laws e mv.there mv.leads (Ne-symm (mv.fresh i)) m)

  load_else : (x : G.Spot) → x ≢ old i → x ≢ new i → load G n w x ≡ load G n u x
  load_else x a b = omega (arith, degree_moved x, degree_many_else G laws e mv.there mv.leads x a b m)

  linked_moved : {s t : G.Spot} → Linked G u s t → Linked G w s t
  linked_moved l = linked_more G (λ x j p. omega (arith, mv.uses x j)) l

  -- every spot where it is, but the new end pulled back to the old one
  pulled : G.Spot → G.Spot
  pulled x = ite (G.spot_dec x (new i)) (old i) x

  pulled_new : (x : G.Spot) → x ≡ new i → pulled x ≡ old i
  unfolding pulled
  pulled_new x same = if_pos (G.spot_dec x (new i)) same (old i) x

  pulled_else : (x : G.Spot) → x ≢ new i → pulled x ≡ x
  unfolding pulled
  pulled_else x other = if_neg (G.spot_dec x (new i)) other (old i) x

  pulled_old : (x : G.Spot) → x ≡ old i → pulled x ≡ old i
  pulled_old x same = pulled_else x (λ z. mv.fresh i (sym z ∙ same)) ∙ same

  pulled_end : (k : I) → pulled (new k) ≡ old k
  pulled_end k =
      elim (dec k i) [
        | yes same ↦ pulled_new (new k) (ap new same) ∙ ap old (sym same)
        | no other ↦ pulled_else (new k) (λ z. mv.fresh k (sym z ∙ mv.others k other)) ∙ mv.others k other
      ]

  -- a spot that u touches is not the new end
  not_new : (x : G.Spot) → 0 < G.deg u x → x ≢ new i
  not_new x p same = omega (arith, rw same at p, mv.bare)

  -- links after the move were links before it, once the new end is pulled back
  linked_before : {s t : G.Spot} → Linked G w s t → Linked G u (pulled s) (pulled t)
  linked_before l = maps G pulled edge l
    where
      moved_edge : Ends G e (old i) (new i) → pulled (G.src e) ≡ pulled (G.dst e)
      moved_edge (inl (a, b)) = pulled_old (G.src e) a ∙ sym (pulled_new (G.dst e) b)
      moved_edge (inr (a, b)) = pulled_new (G.src e) a ∙ sym (pulled_old (G.dst e) b)

      other_edge : (x : G.Edge) → G.In x → 0 < u x → Linked G u (pulled (G.src x)) (pulled (G.dst x))
      other_edge x j q =
          let from = not_new (G.src x) (degree_at_start G laws u x j q (inl (refl, refl))) in
          let to = not_new (G.dst x) (degree_at_end G laws u x j q (inl (refl, refl))) in
          rw (pulled_else (G.src x) from, pulled_else (G.dst x) to) (linked_by G x j q (inl (refl, refl)))

      edge : (x : G.Edge) → G.In x → 0 < w x → Linked G u (pulled (G.src x)) (pulled (G.dst x))
      edge x j p =
          elim (G.edge_dec e x) [
            | yes same ↦ linked_same G (subst (λ y. pulled (G.src y) ≡ pulled (G.dst y)) same (moved_edge mv.leads))
            | no other ↦ other_edge x j (omega (arith, mv.uses x j, weight_no (G.edge_dec e x) other m))
          ]

  -- the edge links the old end with the new one
  linked_over : 0 < m → Linked G w (old i) (new i)
  linked_over q = linked_by G e mv.there (omega (arith, mv.uses e mv.there, weight_yes (G.edge_dec e e) refl m)) mv.leads

  -- an end that is not cut off is linked with where it was
  near : (p : I) → Stays i m p → Linked G w (old p) (new p)
  near p (inr other) = linked_same G (sym (mv.others p other))
  near p (inl q) =
      elim (dec p i) [
        | yes same ↦ rw same (linked_over q)
        | no other ↦ linked_same G (sym (mv.others p other))
      ]

  -- an end that is linked with another one is not cut off
  linked_stays : (p q : I) → p ≢ q → Linked G w (new p) (new q) → Stays i m p
  linked_stays p q apart l =
      elim (dec p i) [
        | no other ↦ inr other
        | yes same ↦ elim (dec_lt 0 m) [ yes some ↦ inl some | no none ↦ absurd (meet same none) ]
      ]
    where
      meet : p ≡ i → ¬ (0 < m) → ⊥
      meet same none =
          let bare : G.deg w (new p) ≡ 0 = rw same (omega (arith, degree_at_new)) in
          mv.fresh q (ap new (sym same) ∙ alone G laws bare l ∙ mv.others q (λ z. apart (same ∙ sym z)))

  module _ {f g : I → ℕ} {j : I → I → Type 0} (may : MayLeave i m f j) (numbers : ButAt i m f g) (st : State G n u old f j) where
    moved_end : (k : I) → SameClass (load G n w (new k)) (g k)
    moved_end k =
        elim (dec k i) [
          | yes same ↦ rw same (omega (arith, degree_at_new, mv.bare, numbers.here))
          | no other ↦
              let kept = load_else (old k) (mv.apart k other) (Ne-symm (mv.fresh k)) in
              rw (mv.others k other) (omega (arith, kept, numbers.others k other, st.at_end k))
        ]

    moved_even : (x : G.Spot) → (load G n w x % 2 ≡ 0) ⊎ IsEnd G new x
    moved_even x =
        elim (G.spot_dec x (new i)) [
          | yes same ↦ inr (i, same)
          | no other ↦
              elim (G.spot_dec x (old i)) [
                | yes same ↦ inl (rw same (omega (arith, load_at_old, may.even, st.at_end i)))
                | no apart ↦ elim (st.even x) [ inl even ↦ inl (omega (arith, load_else x apart other)) | inr (k, same) ↦ inr (k, still same apart) ]
              ]
        ]
      where
        still : {k : I} → x ≡ old k → x ≢ old i → x ≡ new k
        still {k} same apart = same ∙ sym (mv.others k (λ z. apart (same ∙ ap old z)))

    reached : {x : G.Spot} (k : I) → Linked G u x (old k) → Stays i m k → (k : I) × Linked G w x (new k)
    reached k l stays = (k, linked_trans G (linked_moved l) (near k stays))

    -- what was held by the end that moves goes on over the edge, or by another end
    goes_on : {x : G.Spot} → 0 < load G n u x → Linked G u x (old i) → (k : I) × Linked G w x (new k)
    goes_on {x} p l = on (may.goes_on (omega (arith, st.at_end i, live_along G laws n p l)))
      where
        on : (0 < m) ⊎ ((k : I) × (k ≢ i) × j i k) → (k : I) × Linked G w x (new k)
        on (inl some) = reached i l (inl some)
        on (inr (k, other, joined)) = reached k (linked_trans G l ((st.linked i k).0 joined)) (inr other)

    moved_held : (x : G.Spot) → 0 < load G n w x → (k : I) × Linked G w x (new k)
    moved_held x p =
        elim (G.spot_dec x (new i)) [
          | yes same ↦ (i, linked_same G same)
          | no other ↦
              elim (dec_lt 0 (load G n u x)) [
                | yes live ↦ was_live live (st.held x live)
                | no bare ↦
                    elim (G.spot_dec x (old i)) [
                      | yes same ↦ reached i (linked_same G same) (inl (omega (arith, load_at_old, ap (load G n u) same, ap (load G n w) same)))
                      | no apart ↦ absurd (omega (arith, load_else x apart other))
                    ]
              ]
        ]
      where
        was_live : 0 < load G n u x → (k : I) × Linked G u x (old k) → (k : I) × Linked G w x (new k)
        was_live live (k, l) =
            elim (dec k i) [ yes same ↦ goes_on live (rw same at l) | no other ↦ reached k l (inr other) ]

    moved_linked : (p q : I) → Across i m j p q ↔ Linked G w (new p) (new q)
    moved_linked p q = (there, back)
      where
        there : Across i m j p q → Linked G w (new p) (new q)
        there (l, inl same) = linked_same G (ap new same)
        there (l, inr (a, b)) =
            linked_trans G (linked_sym G (near p a)) (linked_trans G (linked_moved ((st.linked p q).0 l)) (near q b))

        stay : Linked G w (new p) (new q) → (p ≡ q) ⊎ (Stays i m p × Stays i m q)
        stay l =
            elim (dec p q) [
              | yes same ↦ inl same
              | no apart ↦ inr (linked_stays p q apart l, linked_stays q p (Ne-symm apart) (linked_sym G l))
            ]

        back : Linked G w (new p) (new q) → Across i m j p q
        back l = ((st.linked p q).1 (rw (pulled_end p, pulled_end q) at (linked_before l)), stay l)

    -- the state after the move
    pub move : State G n w new g (Across i m j)
    move = record { at_end = moved_end; even = moved_even; held = moved_held; linked = moved_linked }
