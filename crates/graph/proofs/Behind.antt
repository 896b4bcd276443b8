-- If a part of a whole tour has something at an end where the rest uses nothing, and more is live, it links that end with another. Assumes nothing.
use mathlib.Core.Path.{◌≡◌, sym, ◌∙◌, ap}
use mathlib.Core.Logic.{◌⊎◌, inl, inr, ◌≢◌}
use Prim.Native.Nat.{ℕ, ◌<◌}
use native.Mathlib.Omega.{arith}
use Rattle.graph.specs.Graph.{Graph, Laws, Ends, Linked, here, along}
use Rattle.graph.proofs.Sums.{degree_at_start}
use Rattle.graph.proofs.Links.{keeps, touched_end}
use Rattle.graph.proofs.State.{IsEnd, State, Whole, load}
use Rattle.graph.proofs.Together.{Together, MeetAt, used_in, load_together}

module _ (G : Graph) where
  -- another end, or a spot that a part does not touch
  abbrev pub Elsewhere : {I : Type 0} → (I → G.Spot) → (G.Edge → ℕ) → I → G.Spot → Type 0
  Elsewhere {I} ends u i y = ((k : I) × (k ≢ i) × (y ≡ ends k)) ⊎ ((y ≢ ends i) × (G.deg u y ≡ 0))

module _ (G : Graph) {size : (G.Edge → ℕ) → ℕ} (laws : Laws G size)
    {I : Type 0} {n : G.Spot → ℕ} {u : G.Edge → ℕ} {ends : I → G.Spot} {f : I → ℕ} {j : I → I → Type 0} (st : State G n u ends f j) where
  pub behind :
      {m l : G.Spot → ℕ} {r w : G.Edge → ℕ} → Together G n m l u r w → MeetAt G ends u r → Whole G l w → (i : I) → 0 < f i →
      G.deg r (ends i) ≡ 0 → (y : G.Spot) → 0 < load G l w y → Elsewhere G ends u i y → (k : I) × (k ≢ i) × j i k
  behind {m} {l} {r} {w} both meets whole i some nothing y live elsewhere =
      let live_end : 0 < load G l w (ends i) = omega (arith, st.at_end i, load_together G both laws (ends i)) in
      reached (keeps G Inside carries (whole.linked (ends i) y live_end live) (inl here)) elsewhere
    where
      Other : Type 0
      Other = (k : I) × (k ≢ i) × j i k

      Inside : G.Spot → Type 0
      Inside x = Linked G u (ends i) x ⊎ Other

      met : {x : G.Spot} → Linked G u (ends i) x → 0 < G.deg r x → IsEnd G ends x → Other
      met l p (k, same) = (k, λ z. omega (arith, rw (same ∙ ap ends z) at p), (st.linked i k).1 (rw same at l))

      leave : {x : G.Spot} → Linked G u (ends i) x → 0 < G.deg r x → (ends i ≡ x) ⊎ (0 < G.deg u x) → Other
      leave l p (inl same) = absurd (omega (arith, rw (sym same) at p))
      leave {x} l p (inr q) = met l p (meets.at x q p)

      carries : (e : G.Edge) (s t : G.Spot) → G.In e → 0 < w e → Ends G e s t → Inside s → Inside t
      carries e s t there p leads (inr other) = inr other
      carries e s t there p leads (inl l) =
          elim (used_in G both e there p) [
            | inl q ↦ inl (along l e there q leads)
            | inr q ↦ inr (leave l (degree_at_start G laws r e there q leads) (touched_end G laws l))
          ]

      reached : Inside y → Elsewhere G ends u i y → Other
      reached (inr other) e = other
      reached (inl l) (inl (k, apart, same)) = (k, apart, (st.linked i k).1 (rw same at l))
      reached (inl l) (inr (apart, bare)) = elim (touched_end G laws l) [ inl same ↦ absurd (apart (sym same)) | inr q ↦ absurd (omega arith) ]
