-- Counts that are taken over into a slice with room for them. Assumes nothing.
use Rattle.std.proofs.Common.{◌≡◌, ℕ, ◌+◌, ◌-◌, ◌<◌, ◌≤◌, List, ◌++◌, length, get_or, take, drop, ap, ◌∙◌, arith, length-take-le, get_or-drop, get_or-take}
use Rattle.std.proofs.lemmas.List.{get_or_append_left, get_or-append_right}
use Rattle.house.specs.House.{House, desk}
use Rattle.uses.specs.Counting.{used_by, Exact, Counted}
use Rattle.uses.specs.Layout.{place, places}
use Rattle.uses.proofs.Places.{place_below}

-- the first n counts, and then what a slice held before
module _ (h : House) (counts : List ℕ) {way before : List ℕ} (n : ℕ) (size : n ≡ places h) where
  pub counted_over :
      {row part : List ℕ} → row ≡ way → Exact h row counts → n ≤ length counts → part ≡ take n counts →
      Counted h way before (part ++ drop n before)
  counted_over {row} {part} same exact room copied = record {
    exact = λ e i.
        let k : place h e < n = omega (arith, place_below h e i) in
        get_or_append_left part (drop n before) 0 (place h e) (omega (arith, long))
        ∙ ap (λ (us : List ℕ). get_or us (place h e) 0) copied
        ∙ get_or-take n counts (place h e) 0 k
        ∙ exact e i
        ∙ ap (λ (bs : List ℕ). used_by h desk bs e) same;
    beyond = λ k l.
        let j : n ≤ k = omega arith in
        let e : n + (k - n) ≡ k = omega arith in
        get_or-append_right part (drop n before) n k 0 long j ∙ get_or-drop n before (k - n) 0 ∙ ap (λ (i : ℕ). get_or before i 0) e;
  }
    where
      long : length part ≡ n
      long = ap length copied ∙ length-take-le n counts room
