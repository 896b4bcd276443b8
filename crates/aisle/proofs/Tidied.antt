-- One aisle made tidy: where steps are unused, pairs of uses are left out up to the nearest stops, and the depths that are given up are pulled there.
-- The aisle then has a shape, and what was linked stays linked. Assumes nothing.
use Rattle.std.proofs.Common.{◌≡◌, ℕ, suc, ◌%◌, ◌<◌, ◌≤◌, min, max, leb, ◌⊎◌, refl, inl, inr, arith}
use native.Mathlib.Decide.{dec_lt, dec_le, ℕ_discrete}
use Rattle.uses.specs.Uses.{pick}
use Rattle.uses.proofs.Picks.{pick_le, pick_gt}
use Rattle.aisle.specs.Costs.{hole}
use Rattle.aisle.specs.Kinds.{Neighbours, Gap, Shape}
use Rattle.aisle.proofs.Holes.{hole_small, hole_even, hole_before, hole_after, hole_between, hole_used}
use Rattle.aisle.proofs.Nearest.{LastStop, FirstStop}
use Rattle.aisle.proofs.Unused.{Unused, CutOut}

-- up to the first unused step depths are pulled down to lo, beyond it up to hi
pulled : ℕ → ℕ → ℕ → ℕ → ℕ
pulled first lo hi y = pick (leb y first) (min y lo) (max y hi)

pulled_down : (first lo hi y : ℕ) → y ≤ first → pulled first lo hi y ≡ min y lo
unfolding pulled
pulled_down first lo hi y l = pick_le y first _ _ l

pulled_up : (first lo hi y : ℕ) → first < y → pulled first lo hi y ≡ max y hi
unfolding pulled
pulled_up first lo hi y l = pick_gt y first _ _ l

-- every step is used, or there are unused ones, with the nearest stops around them
pub data Surveyed (deep : ℕ) (stop : ℕ → Type 0) (f : ℕ → ℕ) : Type 0 where
  full : ((y : ℕ) → y < deep → 0 < f y) → Surveyed deep stop f
  open_between : (u : Unused f deep) → LastStop stop u.first → FirstStop stop (suc u.last) deep → Surveyed deep stop f

-- how often each step is used after, and where each depth is pulled
pub new : {deep : ℕ} {stop : ℕ → Type 0} {f : ℕ → ℕ} → Surveyed deep stop f → ℕ → ℕ
new {f = f} (full used) y = f y
new (open_between u below above) y = hole below.at above.at y

pub pull : {deep : ℕ} {stop : ℕ → Type 0} {f : ℕ → ℕ} → Surveyed deep stop f → ℕ → ℕ
pull (full used) y = y
pull (open_between u below above) y = pulled u.first below.at above.at y

pub new_small : {deep : ℕ} {stop : ℕ → Type 0} {f : ℕ → ℕ} → ((y : ℕ) → f y ≤ 2) → (s : Surveyed deep stop f) (y : ℕ) → new s y ≤ 2
unfolding new
new_small small (full used) y = small y
new_small small (open_between u below above) y = hole_small below.at above.at y

pub record Tidied {deep : ℕ} {stop : ℕ → Type 0} {f : ℕ → ℕ} (s : Surveyed deep stop f) : Type 0 where
  pub fewer : (y : ℕ) → y < deep → new s y ≤ f y
  pub parity : (y : ℕ) → y < deep → new s y % 2 ≡ f y % 2
  -- the two ends of a used step are pulled to one depth, or the step is still used
  pub linked : (y : ℕ) → y < deep → 0 < f y → (pull s y ≡ pull s (suc y)) ⊎ (0 < new s y)
  -- what is still used, and each stop, stays where it is
  pub kept : (y : ℕ) → y < deep → 0 < new s y → (pull s y ≡ y) × (pull s (suc y) ≡ suc y)
  pub stays : (y : ℕ) → stop y → pull s y ≡ y
  pub shape : Shape deep stop (new s)

module _ {deep : ℕ} {stop : ℕ → Type 0} {f : ℕ → ℕ} (parity : (y : ℕ) → y < deep → f y % 2 ≡ f 0 % 2) where
  module _ (u : Unused f deep) (below : LastStop stop u.first) (above : FirstStop stop (suc u.last) deep) where
    abbrev lo : ℕ
    lo = below.at

    abbrev hi : ℕ
    hi = above.at

    abbrev to : ℕ → ℕ
    to = pulled u.first lo hi

    -- both ends of a step outside the unused ones are pulled to one depth, or the step is still used
    pulled_together : (y : ℕ) → (y < u.first) ⊎ (u.last < y) → (to y ≡ to (suc y)) ⊎ (0 < hole lo hi y)
    pulled_together y (inl l) =
        elim (dec_lt y lo) [
          | yes k ↦ inr (omega (arith, hole_before lo hi y k))
          | no k ↦ inl (omega (arith, pulled_down u.first lo hi y (omega arith), pulled_down u.first lo hi (suc y) l))
        ]
    pulled_together y (inr l) =
        elim (dec_le hi y) [
          | yes k ↦ inr (omega (arith, hole_after lo hi y k))
          | no k ↦ inl (omega (arith, pulled_up u.first lo hi y (omega arith), pulled_up u.first lo hi (suc y) (omega arith)))
        ]

    pulled_stays : (y : ℕ) → (y ≤ lo) ⊎ (hi ≤ y) → to y ≡ y
    pulled_stays y (inl l) = omega (arith, pulled_down u.first lo hi y (omega (arith, below.side)))
    pulled_stays y (inr l) = omega (arith, pulled_up u.first lo hi y (omega (arith, above.side, u.ordered)))

    pulled_kept : (y : ℕ) → (y < lo) ⊎ (hi ≤ y) → (to y ≡ y) × (to (suc y) ≡ suc y)
    pulled_kept y (inl l) = (pulled_stays y (inl (omega arith)), pulled_stays (suc y) (inl l))
    pulled_kept y (inr l) = (pulled_stays y (inr l), pulled_stays (suc y) (inr (omega arith)))

    even : (y : ℕ) → y < deep → f y % 2 ≡ 0
    even y l = omega (arith, parity y l, parity u.first (omega (arith, u.ordered, u.inside)), u.first_unused)

    was_used : (y : ℕ) → y < deep → (y < lo) ⊎ (hi ≤ y) → 0 < f y
    was_used y l (inl k) = u.before y (omega (arith, below.side))
    was_used y l (inr k) = u.after y (omega (arith, above.side)) l

    hole_fewer : (y : ℕ) → y < deep → hole lo hi y ≤ f y
    hole_fewer y l =
        elim (dec_lt 0 (hole lo hi y)) [
          | no z ↦ omega arith
          | yes p ↦ omega (arith, hole_small lo hi y, even y l, was_used y l (hole_used lo hi y p))
        ]

    module _ (cut : CutOut stop f u) where
      -- a stop lies up to lo or from hi on
      stop_outside : (y : ℕ) → stop y → (y ≤ lo) ⊎ (hi ≤ y)
      stop_outside y s =
          elim (dec_le y lo) [
            | yes l ↦ inl l
            | no l ↦
                elim (dec_le y u.first) [
                  | yes k ↦ absurd (below.none_nearer y (omega arith) k s)
                  | no k ↦
                      elim (dec_le y u.last) [
                        | yes j ↦ absurd (cut.no_stop y (omega arith) j s)
                        | no j ↦ elim (dec_lt y hi) [ yes z ↦ absurd (above.none_nearer y (omega arith) z s) | no z ↦ inr (omega arith) ]
                      ]
                ]
          ]

      used_outside : (y : ℕ) → 0 < f y → (y < u.first) ⊎ (u.last < y)
      used_outside y p =
          elim (dec_lt y u.first) [
            | yes l ↦ inl l
            | no l ↦ elim (dec_lt u.last y) [ yes k ↦ inr k | no k ↦ absurd (omega (arith, cut.unused y (omega arith) (omega arith))) ]
          ]

      around_neighbours : Neighbours deep stop lo hi
      around_neighbours =
          record {
            apart = omega (arith, below.side, above.side, u.ordered);
            inside = above.inside;
            stop_lo = below.is_stop;
            stop_hi = above.is_stop;
            none_between = λ y j k s. elim (stop_outside y s) [ inl l ↦ omega arith | inr l ↦ omega arith ];
          }

      hole_gap : Gap deep stop (hole lo hi)
      hole_gap =
          record {
            lo = lo;
            hi = hi;
            neighbours = around_neighbours;
            before = hole_before lo hi;
            after = λ y l. hole_after lo hi y;
            unused = hole_between lo hi;
          }

  -- where every step is used nothing is left out
  full_shape : ((y : ℕ) → f y ≤ 2) → ((y : ℕ) → y < deep → 0 < f y) → Shape deep stop f
  full_shape small used =
      elim (ℕ_discrete (f 0 % 2) 1) [
        | yes odd ↦ Shape.through (λ y l. omega (arith, parity y l, used y l, small y))
        | no even ↦ Shape.twice (λ y l. omega (arith, parity y l, used y l, small y))
      ]

  pub tidied : ((y : ℕ) → f y ≤ 2) → ((u : Unused f deep) → CutOut stop f u) → (s : Surveyed deep stop f) → Tidied s
  unfolding new pull
  tidied small cut (full used) =
      record {
        fewer = λ y l. omega arith;
        parity = λ y l. refl;
        linked = λ y l p. inr p;
        kept = λ y l p. (refl, refl);
        stays = λ y s. refl;
        shape = full_shape small used;
      }
  tidied small cut (open_between u below above) =
      record {
        fewer = hole_fewer u below above;
        parity = λ y l. omega (arith, hole_even below.at above.at y, even u below above y l);
        linked = λ y l p. pulled_together u below above y (used_outside u below above (cut u) y p);
        kept = λ y l p. pulled_kept u below above y (hole_used below.at above.at y p);
        stays = λ y s. pulled_stays u below above y (stop_outside u below above (cut u) y s);
        shape = Shape.leaves (hole_gap u below above (cut u));
      }
