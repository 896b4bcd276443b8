-- A stretch that is gone: its uses are written down, and its steps are on the stack. Assumes nothing.
use Rattle.std.proofs.Common.{◌≡◌, ℕ, zero, suc, ◌+◌, ◌-◌, ◌<◌, ◌≤◌, ◌⊎◌, List, length, get_or, take, drop, replicate, set, sym, refl, ap, subst, ◌∙◌, inl, inr, arith, length-set, length-take, length-drop, get_or-set_other, get_or-set_same, ext_get_or}
use Rattle.std.proofs.lemmas.List.{length-replicate, get_or-replicate}
use native.Mathlib.Decide.{dec_lt, ℕ_discrete}
use Rattle.house.specs.House.{House}
use Rattle.house.specs.Reading.{spot_of}
use Rattle.house.specs.declared.layout.Spot as code
use Rattle.uses.specs.Layout.{places}
use Rattle.euler.specs.Choosing.{Opens}
use Rattle.euler.specs.Passing.{advanced_by, filled, Worn, Straight, Ran}
use Rattle.euler.specs.declared.pass.Pass.{Pass}
use Rattle.euler.specs.declared.stretch.Stretch.{Stretch}
use Rattle.euler.proofs.Lanes.{part_at, hop, leads_once}
use Rattle.euler.proofs.Middles.{middle, length_middle, middle_before, middle_within, middle_beyond}
use Rattle.euler.proofs.Running.{length_filled}

module _ (steps : List ℕ) (start b : ℕ) where
  filled_within : (n k : ℕ) → start + n ≤ length steps → start ≤ k → k < start + n → get_or (filled steps start b n) k 0 ≡ b
  unfolding filled
  filled_within zero k fits i l = absurd (omega arith)
  filled_within (suc n) k fits i l =
      elim (ℕ_discrete k (start + n)) [
        | yes e ↦
            ap (λ (z : ℕ). get_or (filled steps start b (suc n)) z 0) e
            ∙ get_or-set_same (filled steps start b n) (start + n) b 0 (omega (arith, length_filled steps start b n))
        | no z ↦ get_or-set_other (filled steps start b n) (start + n) k b 0 z ∙ filled_within n k (omega arith) i (omega arith)
      ]

  filled_outside : (n k : ℕ) → (k < start) ⊎ (start + n ≤ k) → get_or (filled steps start b n) k 0 ≡ get_or steps k 0
  unfolding filled
  filled_outside zero k out = refl
  filled_outside (suc n) k (inl l) =
      get_or-set_other (filled steps start b n) (start + n) k b 0 (λ e. omega arith) ∙ filled_outside n k (inl l)
  filled_outside (suc n) k (inr l) =
      get_or-set_other (filled steps start b n) (start + n) k b 0 (λ e. omega arith) ∙ filled_outside n k (inr (omega arith))

  pub filled_middle :
      (n m : ℕ) {ys : List ℕ} → n ≡ m → start + m ≤ length steps → ys ≡ replicate n b →
      middle steps ys start n ≡ filled steps start b m
  filled_middle n m {ys} same fits is = ext_get_or 0 _ _ (length_middle steps ys start n (omega arith) long ∙ sym (length_filled steps start b m)) at
    where
      long : length ys ≡ n
      long = ap length is ∙ length-replicate n b

      at : (k : ℕ) → k < length (middle steps ys start n) → get_or (middle steps ys start n) k 0 ≡ get_or (filled steps start b m) k 0
      at k l =
          elim (dec_lt k start) [
            | yes i ↦ middle_before steps ys start n (omega arith) long k i ∙ sym (filled_outside m k (inl i))
            | no i ↦
                elim (dec_lt k (start + m)) [
                  | yes j ↦
                      middle_within steps ys start n (omega arith) long k (omega arith) (omega arith) ∙ ap (λ zs. get_or zs (k - start) 0) is
                      ∙ get_or-replicate n (k - start) b 0 (omega arith) ∙ sym (filled_within m k fits (omega arith) j)
                  | no j ↦ middle_beyond steps ys start n (omega arith) long k (omega arith) ∙ sym (filled_outside m k (inr (omega arith)))
                ]
          ]

  pub filled_once : filled steps start b 1 ≡ set steps start b
  unfolding filled
  filled_once = let e : start + 0 ≡ start = omega arith in ap (λ (k : ℕ). set steps k b) e

-- one use written down
worn_once :
    {left left' : List ℕ} (entry : ℕ) → entry < length left → left' ≡ set left entry (get_or left entry 0 - 1) → Worn left left' (λ i. entry + i) 1
worn_once {left} entry here taken =
    subst
    (λ (l : List ℕ). Worn left l (λ i. entry + i) 1)
    (sym taken)
    record {
      same_length = length-set left entry (get_or left entry 0 - 1);
      taken = λ i l.
          let e : entry + i ≡ entry = omega arith in
          ap (λ (z : ℕ). get_or (set left entry (get_or left entry 0 - 1)) z 0) e
          ∙ get_or-set_same left entry (get_or left entry 0 - 1) 0 here ∙ ap (λ (z : ℕ). get_or left z 0 - 1) (sym e);
      others = λ k f. get_or-set_other left entry k (get_or left entry 0 - 1) 0 (λ e. f 0 (omega arith) (omega arith));
    }

-- one step that is gone by itself
pub once_ran :
    {h : House} {left left' steps steps' : List ℕ} (p : Pass) {q : Pass} {to : code.Spot} {byte entry : ℕ} →
    Opens h left (spot_of p.at) byte entry (spot_of to) → entry < length left → p.top < p.tail →
    left' ≡ set left entry (get_or left entry 0 - 1) → steps' ≡ set steps p.top byte → q ≡ advanced_by p 1 to → Ran h left left' steps steps' p q
once_ran {steps = steps} p {to = to} {byte} {entry} opens here room taken written is =
    record {
      byte = byte;
      long = 1;
      spots = hop (spot_of p.at) (spot_of to);
      entry = λ i. entry + i;
      some = omega arith;
      room = omega arith;
      leads = leads_once opens;
      from = refl;
      to = sym (ap (λ (r : Pass). spot_of r.at) is);
      worn = worn_once entry here taken;
      written = written ∙ sym (filled_once steps p.top byte);
      top = ap (λ (r : Pass). r.top) is;
      tail = ap (λ (r : Pass). r.tail) is;
      end = ap (λ (r : Pass). r.end) is;
    }

module _ {h : House} {left : List ℕ} {at : code.Spot} {room byte : ℕ} {s : Stretch} (z : Straight h left at room byte s) (few : places h ≤ length left) where
  used_at : (k : ℕ) → s.start ≤ k → k < s.start + s.long → 0 < get_or left k 0
  used_at k l m = let (i, below, is) = z.covers k l m in omega (arith, z.leads.left_over i below, ap (λ (j : ℕ). get_or left j 0) is)

  module _ (n : ℕ) (same : n ≡ s.long) where
    -- something is left over at each place of its part
    pub straight_used : (k : ℕ) → k < length (take n (drop s.start left)) → 0 < get_or (take n (drop s.start left)) k 0
    straight_used k l =
        let i : k < n = omega (arith, length-take n (drop s.start left)) in
        omega (arith, part_at left s.start n k i, used_at (s.start + k) (omega arith) (omega arith))

    length_part : length (take n (drop s.start left)) ≡ n
    length_part = omega (arith, length-take n (drop s.start left), length-drop s.start left, z.fits)

    module _ (ys : List ℕ) (long : length ys ≡ length (take n (drop s.start left)))
        (less : (k : ℕ) → k < length (take n (drop s.start left)) → get_or ys k 0 ≡ get_or (take n (drop s.start left)) k 0 - 1) where
      straight_worn : Worn left (middle left ys s.start n) z.entry s.long
      straight_worn =
          let fits : s.start + n ≤ length left = omega (arith, z.fits) in
          let many : length ys ≡ n = long ∙ length_part in
          record {
            same_length = length_middle left ys s.start n fits many;
            taken = λ i l.
                let k = z.entry i in
                let e : s.start + (k - s.start) ≡ k = omega (arith, (z.inside i l).0) in
                middle_within left ys s.start n fits many k (omega (arith, (z.inside i l).0)) (omega (arith, (z.inside i l).1))
                ∙ less (k - s.start) (omega (arith, length_part, (z.inside i l).0, (z.inside i l).1))
                ∙ ap (λ (v : ℕ). v - 1) (part_at left s.start n (k - s.start) (omega (arith, (z.inside i l).0, (z.inside i l).1)) ∙ ap (λ (v : ℕ). get_or left v 0) e);
            others = λ k f.
                elim (dec_lt k s.start) [
                  | yes l ↦ middle_before left ys s.start n fits many k l
                  | no l ↦
                      elim (dec_lt k (s.start + s.long)) [
                        | yes m ↦ let (i, below, is) = z.covers k (omega arith) m in absurd (f i below is)
                        | no m ↦ middle_beyond left ys s.start n fits many k (omega arith)
                      ]
                ];
          }

      pub straight_ran :
          {steps steps' : List ℕ} (p : Pass) {q : Pass} → p.at ≡ at → p.tail - p.top ≡ room → p.top ≤ p.tail → steps' ≡ filled steps p.top byte s.long →
          q ≡ advanced_by p s.long s.to → Ran h left (middle left ys s.start n) steps steps' p q
      straight_ran p here space below written is =
          record {
            byte = byte;
            long = s.long;
            spots = z.spots;
            entry = z.entry;
            some = z.some;
            room = omega (arith, z.short);
            leads = z.leads;
            from = z.from ∙ sym (ap spot_of here);
            to = z.to ∙ sym (ap (λ (r : Pass). spot_of r.at) is);
            worn = straight_worn;
            written = written;
            top = ap (λ (r : Pass). r.top) is;
            tail = ap (λ (r : Pass). r.tail) is;
            end = ap (λ (r : Pass). r.end) is;
          }
