-- A run keeps what each of its steps keeps. Assumes nothing.
use Rattle.std.proofs.Common.{◌≡◌, ℕ, zero, suc, ◌+◌, ◌-◌, ◌<◌, ◌≤◌, List, length, get_or, set, sym, refl, ap, ◌∙◌, subst₂, arith, length-set, get_or-set_other, get_or-set_same, ext_get_or, set-set}
use native.Mathlib.Decide.{dec_lt, ℕ_discrete}
use lib.Seq.{set-get_or}
use Rattle.house.specs.House.{House, Spot}
use Rattle.walk.specs.Steps.{Within}
use Rattle.uses.specs.Layout.{places}
use Rattle.euler.specs.Choosing.{Opens}
use Rattle.euler.specs.Passing.{filled, Worn, Leads}
use Rattle.euler.proofs.Progress.{Progress, progress_on}

module _ (steps : List ℕ) (start b : ℕ) where
  pub length_filled : (n : ℕ) → length (filled steps start b n) ≡ length steps
  unfolding filled
  length_filled zero = refl
  length_filled (suc n) = length-set (filled steps start b n) (start + n) b ∙ length_filled n

module _ {left left' : List ℕ} {entry : ℕ → ℕ} where
  worn_none : Worn left left' entry 0 → left' ≡ left
  worn_none w = ext_get_or 0 left' left w.same_length (λ k l. w.others k (λ i z e. omega arith))

  module _ (k : ℕ) (w : Worn left left' entry (suc k)) (here : entry k < length left) where
    -- the last use is there again
    abbrev again : List ℕ
    again = set left' (entry k) (get_or left (entry k) 0)

    at_last : get_or again (entry k) 0 ≡ get_or left (entry k) 0
    at_last = get_or-set_same left' (entry k) (get_or left (entry k) 0) 0 (omega (arith, w.same_length))

    worn_less : ((i j : ℕ) → i < j → j < suc k → ¬ (entry i ≡ entry j)) → Worn left again entry k
    worn_less apart =
        record {
          same_length = length-set left' (entry k) (get_or left (entry k) 0) ∙ w.same_length;
          taken = λ i l. get_or-set_other left' (entry k) (entry i) (get_or left (entry k) 0) 0 (apart i k l (omega arith)) ∙ w.taken i (omega arith);
          others = λ j f. at j f (ℕ_discrete j (entry k));
        }
      where
        at : (j : ℕ) → ((i : ℕ) → i < k → ¬ (j ≡ entry i)) → Dec (j ≡ entry k) → get_or again j 0 ≡ get_or left j 0
        at j f (yes e) = ap (λ (z : ℕ). get_or again z 0) e ∙ at_last ∙ ap (λ (z : ℕ). get_or left z 0) (sym e)
        at j f (no z) =
            get_or-set_other left' (entry k) j (get_or left (entry k) 0) 0 z
            ∙ w.others j (λ i l e. elim (dec_lt i k) [ yes m ↦ f i m e | no m ↦ let same : i ≡ k = omega arith in z (e ∙ ap entry same) ])

    worn_last : set again (entry k) (get_or again (entry k) 0 - 1) ≡ left'
    worn_last =
        let v : get_or again (entry k) 0 - 1 ≡ get_or left' (entry k) 0 = omega (arith, at_last, w.taken k (omega arith)) in
        set-set left' (entry k) (get_or left (entry k) 0) (get_or again (entry k) 0 - 1) ∙ ap (set left' (entry k)) v ∙ set-get_or left' (entry k) 0

module _ {h : House} {left : List ℕ} {b : ℕ} {spots : ℕ → Spot} {entry : ℕ → ℕ} where
  leads_less : (k : ℕ) → Leads h left b (suc k) spots entry → Leads h left b k spots entry
  leads_less k z =
      record {
        sees = λ i l. z.sees i (omega arith);
        left_over = λ i l. z.left_over i (omega arith);
        apart = λ i j l m. z.apart i j l (omega arith);
      }

  leads_within : (k : ℕ) → Leads h left b k spots entry → Within h (spots 0) → Within h (spots k)
  leads_within zero z i = i
  leads_within (suc k) z i = ((z.sees k (omega arith)).stays (leads_within k (leads_less k z) i)).1

  module _ (us : List ℕ) (n : ℕ) {steps : List ℕ} {top tail : ℕ} {o : Spot} (p : Progress h us n left steps top tail (spots 0) o) (few : places h ≤ length left) (long : n ≤ length steps) where
    pub progress_run :
        (k : ℕ) {left' : List ℕ} → Leads h left b k spots entry → Worn left left' entry k →
        Progress h us n left' (filled steps top b k) (top + k) tail (spots k) o
    unfolding filled
    progress_run zero leads worn =
        let e : top ≡ top + 0 = omega arith in
        subst₂ (λ l t. Progress h us n l steps t tail (spots 0) o) (sym (worn_none worn)) e p
    progress_run (suc k) {left'} leads worn =
        let seen = leads.sees k (omega arith) in
        let here : entry k < length left = omega (arith, (seen.stays (leads_within k (leads_less k leads) p.inside)).0) in
        let q = progress_run k (leads_less k leads) (worn_less k worn here leads.apart) in
        let l = again k worn here in
        let opens : Opens h l (spots k) b (entry k) (spots (suc k)) =
        record { seen = seen; left_over = omega (arith, at_last k worn here, leads.left_over k (omega arith)) } in
        let e : top + k + 1 ≡ top + suc k = omega arith in
        subst₂
        (λ l t. Progress h us n l (filled steps top b (suc k)) t tail (spots (suc k)) o)
        (worn_last k worn here)
        e
        (progress_on h us n q opens (omega (arith, worn.same_length, length-set left' (entry k) (get_or left (entry k) 0))) (omega (arith, length_filled steps top b k)))
