-- Two beginnings of one state are completed in the same ways: what makes one of them a whole tour makes the other one too. Assumes nothing.
use mathlib.Core.Path.{◌≡◌, refl, sym}
use mathlib.Core.Logic.{◌⊎◌, inl, inr}
use Prim.Native.Nat.{ℕ, ◌%◌, ◌<◌}
use native.Mathlib.Omega.{arith}
use native.Mathlib.Decide.{dec_lt}
use Rattle.graph.specs.Graph.{Graph, Laws, Ends, Linked, here, along}
use Rattle.graph.proofs.Sums.{degree_at_start, degree_at_end}
use Rattle.graph.proofs.Links.{keeps, linked_trans, linked_sym, linked_same, linked_by, touched_end}
use Rattle.graph.proofs.State.{IsEnd, State, Whole, load, held_live}
use Rattle.graph.proofs.Together.{Together, linked_first, linked_second, used_in, load_together}

module _ (G : Graph) where
  -- a completion with needs c and uses r: where it is live, the beginning u touches nothing but ends
  pub record Completes {I : Type 0} (ends : I → G.Spot) (u : G.Edge → ℕ) (c : G.Spot → ℕ) (r : G.Edge → ℕ) : Type 0 where
    pub at : (x : G.Spot) → 0 < G.deg u x → 0 < load G c r x → IsEnd G ends x

module _ (G : Graph) {size : (G.Edge → ℕ) → ℕ} (laws : Laws G size)
    {I : Type 0} {n m c l k : G.Spot → ℕ} {u v r w z : G.Edge → ℕ} {ends : I → G.Spot} {f : I → ℕ} {j : I → I → Type 0}
    (first : State G n u ends f j) (second : State G m v ends f j) (completes : Completes G ends u c r)
    (old : Together G n c l u r w) (new : Together G m c k v r z) where
  -- on the side of the completion
  abbrev Side : G.Spot → Type 0
  Side x = IsEnd G ends x ⊎ (0 < load G c r x)

  -- the beginning touches the completion's side at ends only
  side_end : {x : G.Spot} → Side x → 0 < G.deg u x → IsEnd G ends x
  side_end (inl at) p = at
  side_end {x} (inr live) p = completes.at x p live

  -- what the first beginning links on this side, the second one links too
  across : {x : G.Spot} (i : I) → Side x → Linked G u (ends i) x → Linked G z (ends i) x
  across {x} i side a = from (touched_end G laws a)
    where
      to_end : IsEnd G ends x → Linked G z (ends i) x
      to_end (p, same) =
          let again = (second.linked i p).0 ((first.linked i p).1 (rw same at a)) in
          linked_trans G (linked_first G new again) (linked_same G (sym same))

      from : (ends i ≡ x) ⊎ (0 < G.deg u x) → Linked G z (ends i) x
      from (inl same) = linked_same G same
      from (inr q) = to_end (side_end side q)

  -- how far a link from s has come: to a spot on this side, or to an end and from there within the first beginning
  abbrev Carried : G.Spot → G.Spot → Type 0
  Carried s x = (Side x × Linked G z s x) ⊎ ((i : I) × Linked G z s (ends i) × Linked G u (ends i) x)

  settled : {s x : G.Spot} → Side x → Carried s x → Linked G z s x
  settled side (inl (at, a)) = a
  settled side (inr (i, a, b)) = linked_trans G a (across i side b)

  -- a link of the first whole between two spots on this side is one of the second whole
  carry : {s t : G.Spot} → Side s → Side t → Linked G w s t → Linked G z s t
  carry {s} from to a = settled to (keeps G (Carried s) carries a (inl (from, here)))
    where
      enter : {x y : G.Spot} (e : G.Edge) → G.In e → 0 < u e → Ends G e x y → Linked G z s x → IsEnd G ends x → Carried s y
      enter e there q leads a (i, same) = inr (i, rw same at a, along (linked_same G (sym same)) e there q leads)

      within : {x y : G.Spot} (e : G.Edge) → G.In e → 0 < u e → Ends G e x y → Carried s x → Carried s y
      within e there q leads (inl (side, a)) = enter e there q leads a (side_end side (degree_at_start G laws u e there q leads))
      within e there q leads (inr (i, a, b)) = inr (i, a, along b e there q leads)

      beyond : {x y : G.Spot} (e : G.Edge) → G.In e → 0 < r e → Ends G e x y → Carried s x → Carried s y
      beyond {x} {y} e there q leads a =
          let from : 0 < load G c r x = omega (arith, degree_at_start G laws r e there q leads) in
          let to : 0 < load G c r y = omega (arith, degree_at_end G laws r e there q leads) in
          inl (inr to, linked_trans G (settled (inr from) a) (linked_second G new (linked_by G e there q leads)))

      carries : (e : G.Edge) (x y : G.Spot) → G.In e → 0 < w e → Ends G e x y → Carried s x → Carried s y
      carries e x y there p leads a =
          elim (used_in G old e there p) [ inl q ↦ within e there q leads a | inr q ↦ beyond e there q leads a ]

  -- a spot on this side, live in the first whole, in the place of one that is live in the second
  record Stand (x : G.Spot) : Type 0 where
    spot : G.Spot
    side : Side spot
    live : 0 < load G l w spot
    link : Linked G z x spot

  stand : (x : G.Spot) → 0 < load G k z x → Stand x
  stand x p = elim (dec_lt 0 (load G m v x)) [ yes q ↦ by_end (held_live G laws second x q) | no q ↦ itself q ]
    where
      by_end : (i : I) × (0 < f i) × Linked G v x (ends i) → Stand x
      by_end (i, q, a) =
          record {
            spot = ends i;
            side = inl (i, refl);
            live = omega (arith, first.at_end i, load_together G old laws (ends i));
            link = linked_first G new a;
          }

      itself : ¬ (0 < load G m v x) → Stand x
      itself q =
          let here_live : 0 < load G c r x = omega (arith, load_together G new laws x) in
          record { spot = x; side = inr here_live; live = omega (arith, load_together G old laws x); link = here }

  -- what completes the first beginning to a whole tour completes the second one
  pub exchange : Whole G l w → Whole G k z
  exchange whole = record { even = λ x. all_even x (first.even x) (second.even x); linked = λ x y p q. between (stand x p) (stand y q) }
    where
      at_end : {x : G.Spot} → IsEnd G ends x → load G k z x % 2 ≡ 0
      at_end (i, same) =
          let before = load_together G old laws (ends i) in
          let after = load_together G new laws (ends i) in
          rw same (omega (arith, first.at_end i, second.at_end i, whole.even (ends i), before, after))

      all_even : (x : G.Spot) → (load G n u x % 2 ≡ 0) ⊎ IsEnd G ends x → (load G m v x % 2 ≡ 0) ⊎ IsEnd G ends x → load G k z x % 2 ≡ 0
      all_even x (inl a) (inl b) = omega (arith, whole.even x, load_together G old laws x, load_together G new laws x)
      all_even x (inl a) (inr at) = at_end at
      all_even x (inr at) b = at_end at

      between : {x y : G.Spot} → Stand x → Stand y → Linked G z x y
      between a b =
          let link = carry a.side b.side (whole.linked a.spot b.spot a.live b.live) in
          linked_trans G a.link (linked_trans G link (linked_sym G b.link))
