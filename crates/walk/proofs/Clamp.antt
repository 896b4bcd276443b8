-- No shortest tour goes beyond the last aisle with a pick: clamped to that aisle it is still a tour, and shorter. Assumes nothing.
use Rattle.std.proofs.Common.{◌≡◌, ℕ, suc, ◌<◌, ◌≤◌, min, max, get_or, sym, refl, ap, subst, subst₂, inl, inr, ⊎_elim, arith}
use native.Mathlib.Decide.{dec_le}
use Rattle.house.specs.House.{House, Spot, spot, desk}
use Rattle.walk.specs.Walk.{Goes, Walk, long, Passes, Tour}
use Rattle.walk.specs.Promise.{NotBeyond}

end_passed : {h : House} {s t : Spot} (w : Walk h s t) → Passes w t
unfolding Passes
end_passed (Walk.stay) = refl
end_passed (Walk.on w g) = inl refl

-- a spot beyond aisle a is taken to aisle a, at the same depth
abbrev clamp : ℕ → Spot → Spot
clamp a s = spot (min a s.aisle) s.depth

clamp_within : (a : ℕ) (s : Spot) → s.aisle ≤ a → clamp a s ≡ s
clamp_within a s k = let e : min a s.aisle ≡ s.aisle = omega arith in λ i. spot (e i) s.depth

-- what becomes of a step: it is kept, and if it ends beyond aisle a it began there; or it was a passage, and its ends fall together
data Clamped (h : House) (a : ℕ) (s t : Spot) (n : ℕ) : Type 0 where
  kept : Goes h (clamp a s) (clamp a t) n → (a < t.aisle → a < s.aisle) → Clamped h a s t n
  gone : clamp a s ≡ clamp a t → n ≡ h.apart → Clamped h a s t n

module _ {h : House} (a : ℕ) where
  -- a passage between neighbouring aisles b and c
  clamp_passage : (b c y : ℕ) → b ≤ suc c → c ≤ suc b → Goes h (spot b y) (spot c y) h.apart → Clamped h a (spot b y) (spot c y) h.apart
  clamp_passage b c y k l g =
      elim (dec_le (max b c) a) [
        | yes m ↦
            let e : b ≡ min a b = omega arith in
            let f : c ≡ min a c = omega arith in
            kept (subst₂ (λ d d'. Goes h (spot d y) (spot d' y) h.apart) e f g) (λ o. omega arith)
        | no m ↦ let e : min a b ≡ min a c = omega arith in gone (λ i. spot (e i) y) refl
      ]

  clamp_step : {s t : Spot} {n : ℕ} → Goes h s t n → Clamped h a s t n
  clamp_step (Goes.inward i j) = kept (Goes.inward (omega arith) j) (λ l. l)
  clamp_step (Goes.outward i j) = kept (Goes.outward (omega arith) j) (λ l. l)
  clamp_step (Goes.front_on {a = b} i) = clamp_passage b (suc b) 0 (omega arith) (omega arith) (Goes.front_on i)
  clamp_step (Goes.front_off {a = b} i) = clamp_passage (suc b) b 0 (omega arith) (omega arith) (Goes.front_off i)
  clamp_step (Goes.back_on {a = b} i) = clamp_passage b (suc b) h.deep (omega arith) (omega arith) (Goes.back_on i)
  clamp_step (Goes.back_off {a = b} i) = clamp_passage (suc b) b h.deep (omega arith) (omega arith) (Goes.back_off i)

-- a walk from b to e past what w passes, clamped: no longer than w, and shorter if w begins in the aisles up to a and goes beyond
record Shade {h : House} {s t : Spot} (a : ℕ) (w : Walk h s t) (b e : Spot) : Type 0 where
  walk : Walk h b e
  passed : (p : Spot) → Passes w p → Passes walk (clamp a p)
  no_longer : long walk ≤ long w
  shorter : (p : Spot) → s.aisle ≤ a → 0 < h.apart → a < p.aisle → Passes w p → long walk < long w

module _ {h : House} (a : ℕ) {s t u : Spot} {n : ℕ} (w : Walk h s t) (g : Goes h t u n) where
  shade_kept : Goes h (clamp a t) (clamp a u) n → (a < u.aisle → a < t.aisle) → Shade a w (clamp a s) (clamp a t) → Shade a (Walk.on w g) (clamp a s) (clamp a u)
  unfolding Passes long
  shade_kept g' out v =
      record {
        walk = Walk.on v.walk g';
        passed = λ p. ⊎_elim (λ e. inl (ap (clamp a) e)) (λ m. inr (v.passed p m));
        no_longer = omega arith;
        shorter =
            λ p k l m.
            ⊎_elim
            (λ e. let o = v.shorter t k l (out (subst (λ (q : Spot). a < q.aisle) (sym e) m)) (end_passed w) in omega arith)
            (λ q. let o = v.shorter p k l m q in omega arith);
      }

  shade_gone : n ≡ h.apart → Shade a w (clamp a s) (clamp a u) → Shade a (Walk.on w g) (clamp a s) (clamp a u)
  unfolding Passes long
  shade_gone f v =
      record {
        walk = v.walk;
        passed = λ p. ⊎_elim (λ e. subst (λ q. Passes v.walk (clamp a q)) e (end_passed v.walk)) (v.passed p);
        no_longer = omega arith;
        shorter = λ p k l m q. omega arith;
      }

  shade_on : Clamped h a t u n → Shade a w (clamp a s) (clamp a t) → Shade a (Walk.on w g) (clamp a s) (clamp a u)
  shade_on (kept g' out) v = shade_kept g' out v
  shade_on (gone e f) v = shade_gone f (subst (Shade a w (clamp a s)) e v)

shade : {h : House} {s t : Spot} (a : ℕ) (w : Walk h s t) → Shade a w (clamp a s) (clamp a t)
unfolding Passes long
shade a (Walk.stay) =
    record {
      walk = Walk.stay;
      passed = λ p e. ap (clamp a) e;
      no_longer = omega arith;
      shorter = λ p k l m e. let o = ap (λ (q : Spot). q.aisle) e in omega arith;
    }
shade a (Walk.on w g) = shade_on a w g (clamp_step a g) (shade a w)

pub not_beyond : NotBeyond
not_beyond h picks t a sound short far last p m =
    elim (dec_le p.aisle a) [ yes k ↦ k | no k ↦ let l = v.shorter p (omega arith) far (omega arith) m in let o = short.least tour in omega arith ]
  where
    v : Shade a t.walk desk desk
    v = subst (λ s. Shade a t.walk s s) (clamp_within a desk (omega arith)) (shade a t.walk)

    tour : Tour h picks
    tour =
        record {
          walk = v.walk;
          all = λ i d k. subst (Passes v.walk) (clamp_within a (get_or picks i d) (last i d k)) (v.passed (get_or picks i d) (t.all i d k));
        }
