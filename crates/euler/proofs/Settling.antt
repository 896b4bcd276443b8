-- A pass into a copy of steps tells the same of the steps themselves; and uses that are copied back are there again. Assumes nothing.
use Rattle.std.proofs.Common.{◌≡◌, ℕ, ◌+◌, ◌-◌, ◌≤◌, List, ◌++◌, length, get_or, take, drop, sym, ap, ◌∙◌, arith, length-drop, length-take-le, ext_get_or}
use Rattle.std.proofs.lemmas.List.{get_or-drop, get_or-append_right, take_at, take-append-drop}
use Rattle.house.specs.House.{House}
use Rattle.euler.specs.Passing.{Closes}

module _ (n : ℕ) {front : List ℕ} (way steps : List ℕ) (copied : front ≡ take n way) (there : n ≤ length way) where
  long : length front ≡ n
  long = ap length copied ∙ length-take-le n way there

  pub closes_copied : {h : House} {us : List ℕ} → Closes h us way n → Closes h us (front ++ drop n steps) n
  closes_copied z =
      record { walk = z.walk; written = z.written ∙ sym (take_at front (drop n steps) n long ∙ copied); uses = z.uses }

  pub kept_behind : (k : ℕ) → n ≤ k → get_or (front ++ drop n steps) k 0 ≡ get_or steps k 0
  kept_behind k l =
      let e : n + (k - n) ≡ k = omega arith in
      get_or-append_right front (drop n steps) n k 0 long l ∙ get_or-drop n steps (k - n) 0 ∙ ap (λ (z : ℕ). get_or steps z 0) e

-- the first n of some uses, which were copied, in front of uses that are as they were from there on
pub copied_back :
    (us us' : List ℕ) (n : ℕ) (rest : List ℕ) {first again : List ℕ} → n ≤ length us → length us' ≡ length us →
    ((k : ℕ) → n ≤ k → get_or us' k 0 ≡ get_or us k 0) → first ≡ take n us → again ≡ take n (first ++ rest) → again ++ drop n us' ≡ us
copied_back us us' n rest {first} {again} fits same beyond copied back =
    (λ i. front i ++ behind i) ∙ take-append-drop n us
  where
    front : again ≡ take n us
    front = back ∙ take_at first rest n (ap length copied ∙ length-take-le n us fits) ∙ copied

    behind : drop n us' ≡ drop n us
    behind =
        ext_get_or 0 (drop n us') (drop n us) (omega (arith, length-drop n us', length-drop n us))
        (λ k l. get_or-drop n us' k 0 ∙ beyond (n + k) (omega arith) ∙ sym (get_or-drop n us k 0))
