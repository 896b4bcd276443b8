-- A spot that is offered to a flood: if it was not seen it is marked and waits. Assumes nothing.
use Rattle.std.proofs.Common.{◌≡◌, ℕ, suc, ◌+◌, ◌*◌, ◌/◌, ◌%◌, ◌<◌, ◌≤◌, Bool, true, false, cond, not, ◌&&◌, ltb, ◌⊎◌, List, [], ◌∷◌, ◌++◌, length, get_or, sym, refl, ap, ◌∙◌, subst, inl, inr, arith, ltb-false, ltb-true, length-append}
use native.Mathlib.Decide.{ℕ_discrete}
use lib.Arith.{digits_div, digits_mod}
use Rattle.std.proofs.lemmas.List.{length-set, get_or-set_same, get_or-set_other, get_or_append_left}
use Rattle.std.proofs.Math.Seq.{get_or-append_seam}
use Rattle.house.specs.House.{House, Spot, spot, desk}
use Rattle.house.specs.Reading.{spot_of}
use Rattle.walk.specs.Steps.{Within}
use Rattle.walk.specs.Marking.{cell, marked, has}
use Rattle.uses.specs.Flood.{Flooding, unseen, code_of, offered}
use Rattle.uses.proofs.Floods.{Seen, spot_at, Reaches, Good, Grows, grows_none}
use Rattle.uses.proofs.Unseen.{unseen_set}

-- spots of depth at most 200 have cells of their own
pub cell_alone : (s t : Spot) → s.depth ≤ 200 → t.depth ≤ 200 → cell s ≡ cell t → s ≡ t
cell_alone s t i j e =
    let f : s.aisle * 201 + s.depth ≡ t.aisle * 201 + t.depth = omega arith in
    let k : s.depth < 201 = omega arith in
    let l : t.depth < 201 = omega arith in
    let p : s.aisle ≡ t.aisle = sym (digits_div s.aisle k) ∙ ap (λ n. n / 201) f ∙ digits_div t.aisle l in
    let q : s.depth ≡ t.depth = sym (digits_mod s.aisle k) ∙ ap (λ n. n % 201) f ∙ digits_mod t.aisle l in
    λ n. spot (p n) (q n)

module _ (h : House) (us : List ℕ) where
  -- what an offer of a spot along n uses gives
  pub record Offer (n : ℕ) (t : Spot) (f g : Flooding) : Type 0 where
    pub good : Good h us g
    pub grows : Grows h us f g
    pub hit : 0 < n → Seen g t

  -- a spot of the house that was not seen is marked and waits
  module _ (few : h.aisles ≤ 64) (low : h.deep ≤ 200) (f : Flooding) (good : Good h us f) (t : Spot) (inside : Within h t) where
    abbrev on : Flooding
    on = record { seen = marked f.seen t; waiting = f.waiting ++ code_of t ∷ [] }

    one_more : length on.waiting ≡ length f.waiting + 1
    one_more = length-append f.waiting (code_of t ∷ [])

    cell_in : cell t < length f.seen
    cell_in = omega (arith, inside.aisle_in, inside.depth_in, good.flags)

    seen_here : Seen on t
    seen_here = get_or-set_same f.seen (cell t) true false cell_in

    seen_still : (s : Spot) → Seen f s → Seen on s
    seen_still s k = elim (ℕ_discrete (cell s) (cell t)) [
      | yes e ↦ ap (λ (n : ℕ). get_or (marked f.seen t) n false) e ∙ seen_here
      | no n ↦ get_or-set_other f.seen (cell t) (cell s) true false n ∙ k
    ]

    -- what is seen now is this spot, or was seen before
    seen_or : (s : Spot) → Within h s → Seen on s → (t ≡ s) ⊎ Seen f s
    seen_or s i k = elim (ℕ_discrete (cell s) (cell t)) [
      | yes e ↦ inl (cell_alone t s (omega (arith, inside.depth_in)) (omega (arith, i.depth_in)) (sym e))
      | no n ↦ inr (sym (get_or-set_other f.seen (cell t) (cell s) true false n) ∙ k)
    ]

    module _ (new : has f.seen t ≡ false) where
      one_less : unseen f.seen ≡ suc (unseen on.seen)
      one_less = unseen_set f.seen (cell t) cell_in new

      last_at : spot_at on (length f.waiting) ≡ t
      last_at = ap spot_of (get_or-append_seam f.waiting (code_of t) [] (code_of desk))

      before_at : (j : ℕ) → j < length f.waiting → spot_at on j ≡ spot_at f j
      before_at j l = ap spot_of (get_or_append_left f.waiting (code_of t ∷ []) (code_of desk) j l)

      marked_good : Reaches h us t → Good h us on
      marked_good link = record {
        flags = length-set f.seen (cell t) true ∙ good.flags;
        linked = λ s i k. elim (seen_or s i k) [ inl e ↦ subst (Reaches h us) e link | inr z ↦ good.linked s i z ];
        waiting = λ j l. elim (ℕ_discrete j (length f.waiting)) [
          | yes e ↦ subst (λ s. Within h s × Seen on s) (sym (ap (spot_at on) e ∙ last_at)) (inside, seen_here)
          | no n ↦
              let k : j < length f.waiting = omega (arith, one_more) in
              subst (λ s. Within h s × Seen on s) (sym (before_at j k)) ((good.waiting j k).0, seen_still (spot_at f j) (good.waiting j k).1)
        ];
      }

      marked_grows : Grows h us f on
      marked_grows = record {
        seen_on = seen_still;
        waits_on = λ s w. (w.0, omega (arith, one_more, w.1), before_at w.0 w.1 ∙ w.2);
        fresh = λ s i k. elim (seen_or s i k) [ inl e ↦ inr (length f.waiting, omega (arith, one_more), last_at ∙ e) | inr z ↦ inl z ];
        less = omega (arith, one_more, one_less);
      }

    offer_by : (n : ℕ) (b c : Bool) → ltb 0 n ≡ b → has f.seen t ≡ c → (0 < n → Reaches h us t) → Offer n t f (cond (b && not c) on f)
    offer_by n true true e k link = record { good = good; grows = grows_none h us f; hit = λ z. k }
    offer_by n true false e k link =
        let used : 0 < n = ltb-true 0 n e in
        record { good = marked_good k (link used); grows = marked_grows k; hit = λ z. seen_here }
    offer_by n false c e k link = record { good = good; grows = grows_none h us f; hit = λ z. absurd (omega (arith, ltb-false 0 n e)) }

    pub offer_on : (n : ℕ) → (0 < n → Reaches h us t) → Offer n t f (offered n (code_of t) f)
    offer_on n link = offer_by n (ltb 0 n) (has f.seen t) refl refl link
