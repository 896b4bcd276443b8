-- The best uses of an aisle with picks. Assumes nothing.
use Rattle.std.proofs.Common.{ℕ, ◌-◌, ◌<◌, ◌≤◌, ◌⊎◌, List, ◌∷◌, Some, None, refl, inl, inr, arith}
use Rattle.aisle.specs.Costs.{leaving, Depths, Among, StopIn, nothing, from_front, from_back, both_ends, Serves, last_of, widest, leaving_gap, LeastUse}
use Rattle.aisle.proofs.Ascending.{Rises, among_first, among_rest, first_or_rest, ascending_rises, rises_among, last_among, last_greatest}
use Rattle.aisle.proofs.Holes.{hole_before, hole_after, hole_between}
use Rattle.aisle.proofs.LeastGap.{least_gap, no_gap}
use Rattle.aisle.proofs.Served.{from_front_on, off_front, up_to_back, off_back}
use Rattle.aisle.proofs.Tests.{pick_either}
use Rattle.aisle.proofs.Widest.{Inner, WidestTo, Ahead, widest_gap}

module _ {deep d : ℕ} {ds : List ℕ} (depths : Depths deep (d ∷ ds)) where
  abbrev stop : ℕ → Type 0
  stop = StopIn deep (d ∷ ds)

  rises : Rises d ds
  rises = ascending_rises d ds depths.ascending

  among_stop : {y : ℕ} → Among (d ∷ ds) y → stop y
  among_stop m = inr (inr m)

  among_inside : {y : ℕ} → Among (d ∷ ds) y → (0 < y) × (y < deep)
  among_inside (i, l, e) = let (j, k) = depths.inside i l in (omega arith, omega arith)

  first_inside : (0 < d) × (d < deep)
  first_inside = among_inside (among_first d ds)

  last_inside : (0 < last_of d ds) × (last_of d ds < deep)
  last_inside = among_inside (last_among d ds)

  pub some_nothing : LeastUse deep (d ∷ ds) nothing None
  some_nothing =
      no_gap depths nothing refl
      (λ p q s.
      s.between.none_between d
      (omega (arith, from_front_on s refl, first_inside.0))
      (omega (arith, up_to_back s refl, first_inside.1))
      (among_stop (among_first d ds)))

  -- beyond the last pick there is no stop but the back, before the first none but the front
  none_after : (y : ℕ) → last_of d ds < y → y < deep → ¬ (stop y)
  none_after y i j (inl e) = omega arith
  none_after y i j (inr (inl e)) = omega arith
  none_after y i j (inr (inr m)) = omega (arith, last_greatest d ds y rises m)

  none_before : (y : ℕ) → 0 < y → y < d → ¬ (stop y)
  none_before y i j (inl e) = omega arith
  none_before y i j (inr (inl e)) = omega (arith, first_inside.1)
  none_before y i j (inr (inr m)) = elim (first_or_rest d ds y m) [ inl e ↦ omega arith | inr n ↦ omega (arith, rises_among d ds y rises n) ]

  pub some_front : LeastUse deep (d ∷ ds) from_front (Some (leaving (last_of d ds) deep))
  some_front =
      least_gap depths from_front refl
      (record { apart = last_inside.1; inside = omega arith; stop_lo = among_stop (last_among d ds); stop_hi = inr (inl refl); none_between = none_after })
      (hole_before (last_of d ds) deep 0 last_inside.0)
      (hole_between (last_of d ds) deep (deep - 1) (omega (arith, last_inside.1)) (omega (arith, depths.some_step)))
      (λ p q s.
      let past : ¬ (p < last_of d ds) =
      λ l. s.between.none_between (last_of d ds) l (omega (arith, up_to_back s refl, last_inside.1)) (among_stop (last_among d ds)) in
      omega (arith, s.between.inside))

  pub some_back : LeastUse deep (d ∷ ds) from_back (Some (leaving 0 d))
  some_back =
      least_gap depths from_back refl
      (record {
        apart = first_inside.0;
        inside = omega (arith, first_inside.1);
        stop_lo = inl refl;
        stop_hi = among_stop (among_first d ds);
        none_between = none_before;
      })
      (hole_between 0 d 0 (omega arith) first_inside.0)
      (hole_after 0 d (deep - 1) (omega (arith, first_inside.1)))
      (λ p q s.
      let past : ¬ (d < q) =
      λ l. s.between.none_between d (omega (arith, from_front_on s refl, first_inside.0)) l (among_stop (among_first d ds)) in
      omega arith)

  all_ahead : Ahead deep stop d ds
  all_ahead =
      record {
        off_front = first_inside.0;
        off_back = first_inside.1;
        here = among_stop (among_first d ds);
        rises = rises;
        ahead = λ y m. (among_stop (among_rest d ds m), (among_inside (among_rest d ds m)).1);
        told = told;
      }
    where
      told : (y : ℕ) → stop y → y < deep → (y ≤ d) ⊎ Among ds y
      told y (inl e) l = inl (omega arith)
      told y (inr (inl e)) l = absurd (omega arith)
      told y (inr (inr m)) l = elim (first_or_rest d ds y m) [ inl e ↦ inl (omega arith) | inr n ↦ inr n ]

  -- up to the first pick there is no gap
  none_yet : WidestTo deep stop d (d, d)
  none_yet =
      record {
        gap = λ l. absurd (omega arith);
        no_wider = λ p q n l. absurd (none_before p n.off_front (omega (arith, n.neighbours.apart)) n.neighbours.stop_lo);
      }

  -- both ends are used where the gap is an inner one
  both_inner : {p q : ℕ} → Serves deep (d ∷ ds) both_ends (leaving p q) → Inner deep stop p q
  both_inner s = record { neighbours = s.between; off_front = off_front s refl; off_back = off_back s refl }

  -- the widest inner gap, or none where it is empty
  least_inner : (g : ℕ × ℕ) → WidestTo deep stop deep g → LeastUse deep (d ∷ ds) both_ends (leaving_gap g)
  least_inner g w = pick_either (LeastUse deep (d ∷ ds) both_ends) g.0 g.1 _ _ some none
    where
      no_wider : (p q : ℕ) → Serves deep (d ∷ ds) both_ends (leaving p q) → q - p ≤ g.1 - g.0
      no_wider p q s = w.no_wider p q (both_inner s) s.between.inside

      some : g.0 < g.1 → LeastUse deep (d ∷ ds) both_ends (Some (leaving g.0 g.1))
      some l =
          least_gap depths both_ends refl (w.gap l).neighbours
          (hole_before g.0 g.1 0 (w.gap l).off_front)
          (hole_after g.0 g.1 (deep - 1) (omega (arith, (w.gap l).off_back)))
          no_wider

      none : g.1 ≤ g.0 → LeastUse deep (d ∷ ds) both_ends None
      none l = no_gap depths both_ends refl (λ p q s. omega (arith, no_wider p q s, s.between.apart))

  pub some_both : LeastUse deep (d ∷ ds) both_ends (leaving_gap (widest (d, d) d ds))
  some_both = least_inner (widest (d, d) d ds) (widest_gap (d, d) d ds all_ahead none_yet)
