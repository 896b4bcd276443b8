-- The number of uses in a slice is the sum over its places; where that is 0 every place holds 0. Assumes nothing.
use Rattle.std.proofs.Common.{◌≡◌, ℕ, zero, suc, ◌+◌, ◌*◌, ◌<◌, ◌≤◌, List, length, get_or, None, Some, ap, ◌∙◌, arith}
use native.Mathlib.Decide.{dec_lt}
use Rattle.std.proofs.lemmas.Bool.Decides.{nat_tests}
use Rattle.house.specs.House.{House}
use Rattle.house.specs.Reading.{house_of}
use Rattle.house.specs.declared.layout.House as code
use Rattle.house.specs.declared.refusal.Memory.TheVariants.{Steps}
use Rattle.house.specs.declared.refusal.Refusal.TheVariants.{Short}
use Rattle.uses.specs.Edges.{priced}
use Rattle.uses.specs.Held.{held, aisles_cost, passages_in}
use Rattle.uses.specs.Layout.{places, held_in, uses_in}
use Rattle.uses.specs.Room.{room_rule}
use Rattle.uses.specs.Uses.{cost}
use Rattle.uses.specs.declared.house_uses.HouseUses.{HouseUses}
use Rattle.uses.proofs.HeldCost.{held_more, cost_held, count_held}
use Rattle.uses.proofs.Laws.{size}
use Rattle.euler.specs.Walking.{count_of, walk_rule}

module _ (us : List ℕ) where
  pub held_zero : (n : ℕ) → held us 0 n ≡ 0 → (k : ℕ) → k < n → get_or us k 0 ≡ 0
  held_zero zero none k l = absurd (omega arith)
  held_zero (suc n) none k l =
      let e : n + 1 ≡ suc n = omega arith in
      let f : 0 + n ≡ n = omega arith in
      let both : held us 0 n + get_or us n 0 ≡ 0 = omega (arith, ap (held us 0) e, held_more us 0 n, ap (λ (i : ℕ). get_or us i 0) f) in
      elim (dec_lt k n) [
        | yes m ↦ held_zero n (omega arith) k m
        | no m ↦ let same : k ≡ n = omega arith in omega (arith, ap (λ (i : ℕ). get_or us i 0) same)
      ]

pub size_held : (h : House) (us : List ℕ) → held us 0 (places h) ≡ size h (held_in h us)
size_held h us =
    omega (arith, count_held us h, cost_held us (priced h 1))

-- how many uses there are, and what they cost, by those of the aisles and those of the passages
pub counted_both :
    {h : code.House} {us : List ℕ} (u : HouseUses) {x y : ℕ} → u.house ≡ h → u.entries.now ≡ us → x ≡ aisles_cost (house_of u.house) u.entries.now →
    y ≡ passages_in (house_of u.house) u.entries.now → (x + y ≡ count_of (house_of h) us) × (x + h.apart * y ≡ cost (house_of h) (uses_in (house_of h) us))
counted_both {h} {us} u {x} {y} house entries lanes passages =
    let a : x ≡ aisles_cost (house_of h) us = lanes ∙ (λ i. aisles_cost (house_of (house i)) (entries i)) in
    let p : y ≡ passages_in (house_of h) us = passages ∙ (λ i. passages_in (house_of (house i)) (entries i)) in
    (omega (arith, count_held us (house_of h)), (λ i. a i + h.apart * p i) ∙ cost_held us (house_of h))

module _ (h : House) (us : List ℕ) (len : ℕ) (steps : 25852 ≤ len) (room : room_rule (length us) ≡ None) where
  pub walk_refused : 25852 < count_of h us → walk_rule h us len ≡ Some (Short Steps)
  walk_refused many = grind (arith, nat_tests)

  pub walk_allowed : count_of h us ≤ 25852 → walk_rule h us len ≡ None
  walk_allowed few = grind (arith, nat_tests)

  pub room_kept : 12926 ≤ length us
  room_kept = grind (arith, nat_tests)
