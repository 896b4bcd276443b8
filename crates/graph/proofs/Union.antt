-- Two parts of a tour that meet at their ends only make one: numbers add, and ends are linked by chains of links of either part. Assumes nothing.
use mathlib.Core.Path.{◌≡◌, sym}
use mathlib.Core.Logic.{◌⊎◌, inl, inr}
use Prim.Native.Nat.{ℕ, ◌+◌, ◌%◌, ◌<◌}
use native.Mathlib.Omega.{arith}
use native.Mathlib.Decide.{dec_lt}
use Rattle.graph.specs.Graph.{Graph, Laws, Ends, Linked, here, along}
use Rattle.graph.proofs.Sums.{degree_at_start}
use Rattle.graph.proofs.Links.{linked_trans, linked_same, touched_end, OnePart}
use Rattle.graph.proofs.Class.{class_sum}
use Rattle.graph.proofs.State.{IsEnd, State, load}
use Rattle.graph.proofs.Together.{Together, MeetAt, meet_swap, linked_first, linked_second, used_in, load_together}

-- steps of either of two relations, one after the other
pub data Chain {I : Type 0} (j k : I → I → Type 0) (s : I) : I → Type 0 where
  none : Chain j k s s
  more : {t v : I} → Chain j k s t → j t v ⊎ k t v → Chain j k s v

module _ (G : Graph) where
  -- two ends linked by uses
  abbrev EndsLinked : {I : Type 0} → (G.Edge → ℕ) → (I → G.Spot) → I → I → Type 0
  EndsLinked u ends i k = Linked G u (ends i) (ends k)

  -- a link of two parts together that begins at an end: a chain of ends, then one part alone
  record Glued {I : Type 0} (ends : I → G.Spot) (u v : G.Edge → ℕ) (i : I) (t : G.Spot) : Type 0 where
    last : I
    chain : Chain (EndsLinked u ends) (EndsLinked v ends) i last
    link : OnePart G u v (ends last) t

module _ (G : Graph) {size : (G.Edge → ℕ) → ℕ} (laws : Laws G size) where
  -- a link of one part leads on into the other part at an end only
  onward :
      {I : Type 0} {ends : I → G.Spot} {u v : G.Edge → ℕ} {t x : G.Spot} → MeetAt G ends u v → (i : I) → Linked G u (ends i) t →
      (e : G.Edge) → G.In e → 0 < v e → Ends G e t x → (k : I) × Linked G u (ends i) (ends k) × Linked G v (ends k) x
  onward {I} {ends} {u} {v} {t} {x} meets i l e there p leads = from (touched_end G laws l)
    where
      from_end : IsEnd G ends t → (k : I) × Linked G u (ends i) (ends k) × Linked G v (ends k) x
      from_end (k, same) = (k, rw same at l, along (linked_same G (sym same)) e there p leads)

      from : (ends i ≡ t) ⊎ (0 < G.deg u t) → (k : I) × Linked G u (ends i) (ends k) × Linked G v (ends k) x
      from (inl same) = from_end (i, sym same)
      from (inr q) = from_end (meets.at t q (degree_at_start G laws v e there p leads))

  module _ {I : Type 0} {n m l : G.Spot → ℕ} {u v w : G.Edge → ℕ} {ends : I → G.Spot} (both : Together G n m l u v w) (meets : MeetAt G ends u v) where
    -- every link of both together that begins at an end comes apart so
    glue_chain : (i : I) {t : G.Spot} → Linked G w (ends i) t → Glued G ends u v i t
    glue_chain i here = record { last = i; chain = none; link = inl here }
    glue_chain i (along {t = t} {v = x} l e there p leads) = after (glue_chain i l)
      where
        on :
            (k : I) → Chain (EndsLinked G u ends) (EndsLinked G v ends) i k → OnePart G u v (ends k) t → (0 < u e) ⊎ (0 < v e) → Glued G ends u v i x
        on k c (inl a) (inl q) = record { last = k; chain = c; link = inl (along a e there q leads) }
        on k c (inr b) (inr q) = record { last = k; chain = c; link = inr (along b e there q leads) }
        on k c (inl a) (inr q) =
            let (p, a, b) = onward meets k a e there q leads in
            record { last = p; chain = more c (inl a); link = inr b }
        on k c (inr b) (inl q) =
            let (p, b, a) = onward (meet_swap G meets) k b e there q leads in
            record { last = p; chain = more c (inr b); link = inl a }

        after : Glued G ends u v i t → Glued G ends u v i x
        after g = on g.last g.chain g.link (used_in G both e there p)

    -- the states of two parts make the state of both together
    pub union :
        {f g : I → ℕ} {j k : I → I → Type 0} → State G n u ends f j → State G m v ends g k → State G l w ends (λ i. f i + g i) (Chain j k)
    union {f} {g} {j} {k} first second =
        record {
          at_end = λ i. rw (loads (ends i)) (class_sum (first.at_end i) (second.at_end i));
          even = λ x. both_even x (first.even x) (second.even x);
          held = λ x p. elim (dec_lt 0 (load G n u x)) [ yes q ↦ by_first (first.held x q) | no q ↦ by_second (second.held x (omega (arith, loads x))) ];
          linked = λ p q. (chained, λ c. unglued (glue_chain p c));
        }
      where
        loads : (x : G.Spot) → load G l w x ≡ load G n u x + load G m v x
        loads = load_together G both laws

        both_even :
            (x : G.Spot) → (load G n u x % 2 ≡ 0) ⊎ IsEnd G ends x → (load G m v x % 2 ≡ 0) ⊎ IsEnd G ends x → (load G l w x % 2 ≡ 0) ⊎ IsEnd G ends x
        both_even x (inl a) (inl b) = inl (omega (arith, loads x))
        both_even x (inl a) (inr b) = inr b
        both_even x (inr a) b = inr a

        by_first : {x : G.Spot} → (i : I) × Linked G u x (ends i) → (i : I) × Linked G w x (ends i)
        by_first (i, a) = (i, linked_first G both a)

        by_second : {x : G.Spot} → (i : I) × Linked G v x (ends i) → (i : I) × Linked G w x (ends i)
        by_second (i, b) = (i, linked_second G both b)

        step : {p q : I} → j p q ⊎ k p q → Linked G w (ends p) (ends q)
        step {p} {q} (inl a) = linked_first G both ((first.linked p q).0 a)
        step {p} {q} (inr b) = linked_second G both ((second.linked p q).0 b)

        chained : {p q : I} → Chain j k p q → Linked G w (ends p) (ends q)
        chained none = here
        chained (more c s) = linked_trans G (chained c) (step s)

        known : {p q : I} → OnePart G u v (ends p) (ends q) → j p q ⊎ k p q
        known {p} {q} (inl a) = inl ((first.linked p q).1 a)
        known {p} {q} (inr b) = inr ((second.linked p q).1 b)

        known_chain : {p q : I} → Chain (EndsLinked G u ends) (EndsLinked G v ends) p q → Chain j k p q
        known_chain none = none
        known_chain (more c s) = more (known_chain c) (known s)

        unglued : {p q : I} → Glued G ends u v p (ends q) → Chain j k p q
        unglued g = more (known_chain g.chain) (known g.link)
