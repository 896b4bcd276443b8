-- A step of a walk is a landing: the byte of a step leads where the step goes, and where a byte leads there is a step with it. Assumes nothing.
use Rattle.std.proofs.Common.{◌≡◌, ℕ, suc, ◌+◌, ◌-◌, ◌<◌, ◌≤◌, Bool, true, false, cond, eqb, Some, None, Option, sym, refl, ◌∙◌, subst, subst₂, ⊎_elim, arith}
use Rattle.std.proofs.lemmas.Bool.Decides.{nat_tests, eqb_tells}
use Rattle.house.specs.House.{House, Spot, spot, desk}
use Rattle.walk.specs.Walk.{Goes, byte_of}
use Rattle.walk.specs.Steps.{Within, deeper, shallower, to_next, to_former, landing, worth}

-- the answer where the test holds, up to equal numbers
some_if : {c : Bool} {a b y z : ℕ} → c ≡ true → a ≡ b → y ≡ z → cond c (Some (spot a y)) None ≡ Some (spot b z)
some_if {c} {a} {b} {y} {z} e f g = rw (e, f, g)

-- what the byte of a step tells
pub record Lands {h : House} {s t : Spot} {n : ℕ} (g : Goes h s t n) : Type 0 where
  pub leads : landing h s (byte_of g) ≡ Some t
  pub worth_is : n ≡ worth h (byte_of g)

pub landing_of_step : {h : House} {s t : Spot} {n : ℕ} (g : Goes h s t n) → Lands g
unfolding byte_of
landing_of_step (Goes.inward i j) = record { leads = some_if (grind (arith, nat_tests)) refl (omega arith); worth_is = refl }
landing_of_step (Goes.outward i j) = record { leads = some_if (grind (arith, nat_tests)) refl (omega arith); worth_is = refl }
landing_of_step (Goes.front_on i) = record { leads = some_if (grind (arith, nat_tests)) (omega arith) refl; worth_is = refl }
landing_of_step (Goes.front_off i) = record { leads = some_if (grind (arith, nat_tests)) (omega arith) refl; worth_is = refl }
landing_of_step (Goes.back_on i) = record { leads = some_if (grind (arith, nat_tests)) (omega arith) refl; worth_is = refl }
landing_of_step (Goes.back_off i) = record { leads = some_if (grind (arith, nat_tests)) (omega arith) refl; worth_is = refl }

-- a step leads to a spot of the house
pub end_within : {h : House} {s t : Spot} {n : ℕ} → Goes h s t n → Within h t
end_within (Goes.inward i j) = record { aisle_in = i; depth_in = j }
end_within (Goes.outward i j) = record { aisle_in = i; depth_in = omega arith }
end_within (Goes.front_on i) = record { aisle_in = i; depth_in = omega arith }
end_within (Goes.front_off i) = record { aisle_in = omega arith; depth_in = omega arith }
end_within (Goes.back_on i) = record { aisle_in = i; depth_in = omega arith }
end_within (Goes.back_off i) = record { aisle_in = omega arith; depth_in = omega arith }

-- a step with this byte
pub record Step (h : House) (s t : Spot) (b : ℕ) : Type 0 where
  pub step : Goes h s t (worth h b)
  pub byte : byte_of step ≡ b

pub none_not_some : {t : Spot} → ◌≡◌ {A = Option Spot} None (Some t) → ⊥
none_not_some e = cc

-- what an answer under a test tells
if_some : {c : Bool} {x t : Spot} → cond c (Some x) None ≡ Some t → (c ≡ true) × (x ≡ t)
if_some {c} {x} {t} = elim c as (λ d. cond d (Some x) None ≡ Some t → (d ≡ true) × (x ≡ t)) [ true ↦ λ e. (refl, cc) | false ↦ λ e. absurd (none_not_some e) ]

module _ {h : House} {s t : Spot} where
  -- what holds of a choice by the byte holds if it does where the byte is k and where it is not
  chosen : {b : ℕ} {x y : Option Spot} (k : ℕ) → (x ≡ Some t → Step h s t k) → (y ≡ Some t → Step h s t b) → cond (eqb b k) x y ≡ Some t → Step h s t b
  chosen {b} {x} {y} k f g l = ⊎_elim (λ e. subst (Step h s t) (sym e.1) (f (rw e.0 at l))) (λ e. g (rw e.0 at l)) (eqb_tells b k)

  deeper_step : Within h s → deeper h s ≡ Some t → Step h s t 0
  unfolding byte_of
  deeper_step k l =
      let c : s.depth < h.deep = grind (arith, nat_tests, (if_some l).0) in
      let e : suc s.depth ≡ s.depth + 1 = omega arith in
      subst (λ u. Step h s u 0) ((λ i. spot s.aisle (e i)) ∙ (if_some l).1) (record { step = Goes.inward k.aisle_in c; byte = refl })

  shallower_step : Within h s → shallower s ≡ Some t → Step h s t 1
  unfolding byte_of
  shallower_step k l =
      let c : 0 < s.depth = grind (arith, nat_tests, (if_some l).0) in
      let e : suc (s.depth - 1) ≡ s.depth = omega arith in
      subst₂ (λ r u. Step h r u 1) (λ i. spot s.aisle (e i)) (if_some l).1 (record { step = Goes.outward k.aisle_in (omega arith); byte = refl })

  -- y is the depth of the front way or of the back way, b the byte of a step along it
  to_next_step : (y b : ℕ) → ((a : ℕ) → suc a < h.aisles → Step h (spot a y) (spot (suc a) y) b) → to_next h s y ≡ Some t → Step h s t b
  to_next_step y b f l =
      let c : (y ≡ s.depth) × (s.aisle + 1 < h.aisles) = grind (arith, nat_tests, (if_some l).0) in
      let e : suc s.aisle ≡ s.aisle + 1 = omega arith in
      subst₂ (λ r u. Step h r u b) (λ i. spot s.aisle (c.0 i)) ((λ i. spot (e i) y) ∙ (if_some l).1) (f s.aisle (omega arith))

  to_former_step : (y b : ℕ) → ((a : ℕ) → suc a < h.aisles → Step h (spot (suc a) y) (spot a y) b) → Within h s → to_former s y ≡ Some t → Step h s t b
  to_former_step y b f k l =
      let c : (y ≡ s.depth) × (0 < s.aisle) = grind (arith, nat_tests, (if_some l).0) in
      let e : suc (s.aisle - 1) ≡ s.aisle = omega arith in
      subst₂ (λ r u. Step h r u b) (λ i. spot (e i) (c.0 i)) (if_some l).1 (f (s.aisle - 1) (omega arith))

  pub step_of_landing : (b : ℕ) → Within h s → landing h s b ≡ Some t → Step h s t b
  unfolding byte_of
  step_of_landing b k =
      chosen 0 (deeper_step k)
      (chosen 1 (shallower_step k)
      (chosen 2 (to_next_step 0 2 (λ a i. record { step = Goes.front_on i; byte = refl }))
      (chosen 3 (to_former_step 0 3 (λ a i. record { step = Goes.front_off i; byte = refl }) k)
      (chosen 4 (to_next_step h.deep 4 (λ a i. record { step = Goes.back_on i; byte = refl }))
      (chosen 5 (to_former_step h.deep 5 (λ a i. record { step = Goes.back_off i; byte = refl }) k) (λ e. absurd (none_not_some e)))))))

pub landing_within : {h : House} {s t : Spot} (b : ℕ) → Within h s → landing h s b ≡ Some t → Within h t
landing_within b k l = end_within (step_of_landing b k l).step

pub desk_within : {h : House} → 1 ≤ h.aisles → Within h desk
desk_within k = record { aisle_in = k; depth_in = omega arith }
