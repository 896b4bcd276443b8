-- The uses that meet at a spot are those in the six directions from it. Assumes nothing.
use Rattle.std.proofs.Common.{◌≡◌, ℕ, zero, suc, ◌+◌, ◌-◌, Bool, true, false, cond, ◌&&◌, eqb, ltb, List, get_or, Option, Some, None, sym, refl, ap, ◌∙◌, arith}
use Rattle.std.specs.Option.{option_map_or}
use Rattle.house.specs.House.{House, Spot, spot}
use Rattle.house.specs.declared.layout.Spot as code
use Rattle.walk.specs.Steps.{landing}
use Rattle.uses.specs.Layout.{held_in, uses_in}
use Rattle.uses.specs.Looking.{edge_by, Sees, Looks}
use Rattle.uses.specs.Rounding.{used_at, meeting}
use Rattle.uses.specs.Uses.{Uses, pick, below, beside, meet}
use Rattle.uses.proofs.Picks.{pick_lt}

module _ (h : House) (us : List ℕ) (s : Spot) (b : ℕ) where
  used_out : landing h s b ≡ None → used_at h us s b ≡ 0
  unfolding used_at
  used_out l = rw (l, used_at)

  used_to : {t : Spot} → landing h s b ≡ Some t → used_at h us s b ≡ held_in h us (edge_by h s b)
  unfolding used_at
  used_to l = rw (l, used_at)

  -- as the code reads it
  used_seen : {entry : ℕ} {t : Spot} → Sees h s b entry t → used_at h us s b ≡ get_or us entry 0
  used_seen seen = used_to seen.leads ∙ ap (λ (n : ℕ). get_or us n 0) (sym seen.entry_is)

  pub used_looked : (r : Option (ℕ × code.Spot)) → Looks h s b r → option_map_or (λ p. get_or us p.0 0) r 0 ≡ used_at h us s b
  used_looked None out = sym (used_out out)
  used_looked (Some p) seen = sym (used_seen seen)

-- the use in a direction that is open under a test
use_if : (c : Bool) (t : Spot) (n : ℕ) → elim (cond c (Some t) None) [ Some u ↦ n | None ↦ 0 ] ≡ pick c n 0
use_if true t n = refl
use_if false t n = refl

-- the same under two tests
use_both : (c d : Bool) (t : Spot) (n : ℕ) → elim (cond (c && d) (Some t) None) [ Some u ↦ n | None ↦ 0 ] ≡ pick c (pick d n 0) 0
use_both true true t n = refl
use_both true false t n = refl
use_both false d t n = refl

pick_sum : (c : Bool) (m n : ℕ) → pick c (m + n) 0 ≡ pick c m 0 + pick c n 0
pick_sum true m n = refl
pick_sum false m n = refl

below_former : (u : Uses) (a y : ℕ) → below u a y ≡ pick (ltb 0 y) (u.aisle a (y - 1)) 0
unfolding below
below_former u a zero = refl
below_former u a (suc y) =
    let e : suc y - 1 ≡ y = omega arith in
    sym (pick_lt 0 (suc y) (u.aisle a (suc y - 1)) 0 (omega arith) ∙ ap (u.aisle a) e)

-- along a way past m aisles: the passage from the aisle before, and the one to the next
beside_both : (f : ℕ → ℕ) (m a : ℕ) → beside f m a ≡ pick (ltb (a + 1) m) (f a) 0 + pick (ltb 0 a) (f (a - 1)) 0
unfolding beside
beside_both f m zero = omega arith
beside_both f m (suc a) =
    let e : suc a - 1 ≡ a = omega arith in
    let k : suc a + 1 ≡ suc (suc a) = omega arith in
    omega (
      arith,
      pick_lt 0 (suc a) (f (suc a - 1)) 0 (omega arith),
      ap f e,
      ap (λ (n : ℕ). pick (ltb n m) (f (suc a)) 0) k,
    )

module _ (h : House) (us : List ℕ) (s : Spot) where
  abbrev u : Uses
  u = uses_in h us

  at_way : (f : ℕ → ℕ) (d : ℕ) → pick (eqb s.depth d) (beside f h.aisles s.aisle) 0
      ≡ pick (eqb s.depth d) (pick (ltb (s.aisle + 1) h.aisles) (f s.aisle) 0) 0
      + pick (eqb s.depth d) (pick (ltb 0 s.aisle) (f (s.aisle - 1)) 0) 0
  at_way f d = ap (λ (n : ℕ). pick (eqb s.depth d) n 0) (beside_both f h.aisles s.aisle) ∙ pick_sum (eqb s.depth d) _ _

  pub meeting_is : meeting h us s ≡ meet h (uses_in h us) s.aisle s.depth
  unfolding used_at meet
  meeting_is =
      omega (
        arith,
        use_if (ltb s.depth h.deep) (spot s.aisle (s.depth + 1)) (u.aisle s.aisle s.depth),
        use_if (ltb 0 s.depth) (spot s.aisle (s.depth - 1)) (u.aisle s.aisle (s.depth - 1)),
        use_both (eqb s.depth 0) (ltb (s.aisle + 1) h.aisles) (spot (s.aisle + 1) 0) (u.front s.aisle),
        use_both (eqb s.depth 0) (ltb 0 s.aisle) (spot (s.aisle - 1) 0) (u.front (s.aisle - 1)),
        use_both (eqb s.depth h.deep) (ltb (s.aisle + 1) h.aisles) (spot (s.aisle + 1) h.deep) (u.back s.aisle),
        use_both (eqb s.depth h.deep) (ltb 0 s.aisle) (spot (s.aisle - 1) h.deep) (u.back (s.aisle - 1)),
        below_former u s.aisle s.depth,
        at_way u.front 0,
        at_way u.back h.deep,
      )
