-- A spot is marked exactly where the walk passed it. Assumes nothing.
use Rattle.std.proofs.Common.{◌≡◌, ℕ, suc, ◌*◌, ◌<◌, ◌≤◌, Bool, true, false, cond, not, ◌||◌, List, [], ◌∷◌, length, get_or, replicate, Some, sym, refl, ap, ◌∙◌, subst, inl, inr, arith}
use mathlib.Core.Bool.{or-false}
use Rattle.std.proofs.lemmas.List.{length-set, get_or-set_same, get_or-set_other, get_or-replicate, length-replicate}
use Rattle.std.proofs.lemmas.Bool.Decides.{nat_tests}
use Rattle.std.proofs.lemmas.Bool.{cases_eq}
use Rattle.house.specs.House.{House, Spot, desk}
use Rattle.house.specs.Rules.{first_from}
use Rattle.walk.specs.Steps.{Within, landing, reached, trace}
use Rattle.walk.specs.Marking.{cell, marked, all_marked, has, unmarked}
use Rattle.walk.specs.Checking.{same, passed, missed}
use Rattle.walk.proofs.Lands.{landing_within, desk_within}
use Rattle.walk.proofs.Follow.{some_or_none, reached_more}

-- one spot for each place of a flag
has_marked : (n : ℕ) (flags : List Bool) (s p : Spot) → length flags ≡ 201 * n → s.aisle < n → s.depth ≤ 200 → p.depth ≤ 200 → has (marked flags s) p ≡ (same s p || has flags p)
has_marked n flags s p l a k m =
    elim (cases_eq (cell p) (cell s)) [
      | inl e ↦
          let z : same s p ≡ true = grind (arith, nat_tests) in
          ap (λ (i : ℕ). get_or (marked flags s) i false) e ∙ get_or-set_same flags (cell s) true false (omega arith) ∙ ap (λ (b : Bool). b || has flags p) (sym z)
      | inr e ↦
          let z : same s p ≡ false = grind (arith, nat_tests) in
          get_or-set_other flags (cell s) (cell p) true false e ∙ ap (λ (b : Bool). b || has flags p) (sym z)
    ]

-- all spots of a list lie in the house
abbrev Inside : House → List Spot → Type 0
Inside h [] = Unit {0}
Inside h (s ∷ ss) = Within h s × Inside h ss

reached_inside : {h : House} (s : Spot) (bs : List ℕ) → Within h s → Inside h (reached h s bs)
unfolding reached
reached_inside s [] k = tt
reached_inside {h} s (b ∷ bs) k =
    elim (some_or_none (landing h s b)) [
      | inl (t, l) ↦ let i = landing_within b k l in subst (Inside h) (sym (reached_more h s b bs l)) (i, reached_inside t bs i)
      | inr l ↦ rw (l, reached) tt
    ]

-- n aisles have flags, and depths up to 200
module _ (n : ℕ) (h : House) (few : h.aisles ≤ n) (shallow : h.deep ≤ 200) where
  has_all_marked : (p : Spot) (ss : List Spot) (flags : List Bool) → p.depth ≤ 200 → Inside h ss → length flags ≡ 201 * n → has (all_marked flags ss) p ≡ (passed ss p || has flags p)
  unfolding all_marked passed
  has_all_marked p [] flags on k l = refl
  has_all_marked p (s ∷ ss) flags on (k, ks) l =
      has_all_marked p ss (marked flags s) on ks (length-set flags (cell s) true ∙ l)
      ∙ ap (λ (b : Bool). passed ss p || b) (has_marked n flags s p l (omega (arith, k.aisle_in)) (omega (arith, k.depth_in)) on)
      ∙ either (passed ss p) (same s p) (has flags p)
    where
      either : (x y z : Bool) → (x || (y || z)) ≡ ((y || x) || z)
      either true true z = refl
      either true false z = refl
      either false true z = refl
      either false false z = refl

  pub has_passed : (p : Spot) (ss : List Spot) → p.aisle < n → p.depth ≤ 200 → Inside h ss → has (all_marked (replicate (201 * n) false) ss) p ≡ passed ss p
  has_passed p ss a on k =
      has_all_marked p ss (replicate (201 * n) false) on k (length-replicate (201 * n) false)
      ∙ ap (λ (b : Bool). passed ss p || b) (get_or-replicate (201 * n) (cell p) false false (omega arith))
      ∙ or-false (passed ss p)

-- tests that agree on all picks find the same
first_alike : (f g : Spot → Bool) (i : ℕ) (ps : List Spot) → ((k : ℕ) → k < length ps → f (get_or ps k desk) ≡ g (get_or ps k desk)) → first_from f i ps ≡ first_from g i ps
unfolding first_from
first_alike f g i [] alike = refl
first_alike f g i (p ∷ ps) alike =
    ap (λ (b : Bool). cond b (Some i) (first_from f (suc i) ps)) (alike 0 (omega arith))
    ∙ ap (cond (g p) (Some i)) (first_alike f g (suc i) ps (λ k l. alike (suc k) (omega arith)))

-- the first pick that is not marked is the first that the walk misses
pub first_unmarked :
    (n : ℕ) (h : House) (way : List ℕ) (picks : List Spot) → h.aisles ≤ n → h.deep ≤ 200 → 1 ≤ h.aisles → ((i : ℕ) → i < length picks → Within h (get_or picks i desk)) →
    first_from (unmarked (all_marked (replicate (201 * n) false) (trace h desk way))) 0 picks ≡ first_from (missed (trace h desk way)) 0 picks
first_unmarked n h way picks few shallow some placed =
    let at_desk = desk_within {h = h} some in
    first_alike _ _ 0 picks
    (λ i k. ap not (has_passed n h few shallow (get_or picks i desk) (trace h desk way) (omega (arith, (placed i k).aisle_in)) (omega (arith, (placed i k).depth_in)) (at_desk, reached_inside desk way at_desk)))
