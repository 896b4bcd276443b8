-- The uses of one aisle are a part of a tour between its front and its back, in the state of the effect that they have. Assumes nothing.
use Rattle.std.proofs.Common.{◌≡◌, ℕ, zero, suc, ◌+◌, ◌-◌, ◌%◌, ◌<◌, ◌≤◌, ◌≢◌, ◌⊎◌, ◌↔◌, List, refl, ap, ◌∙◌, subst, inl, inr, arith}
use mathlib.Core.Path.{subst⁻¹}
use native.Mathlib.Decide.{dec_lt, ℕ_discrete}
use Rattle.graph.specs.Graph.{Linked, here}
use Rattle.graph.proofs.Links.{keeps_ends}
use Rattle.graph.proofs.State.{load}
use Rattle.graph.proofs.TwoEnds.{PartialTour}
use Rattle.house.specs.House.{House, Spot, spot}
use Rattle.uses.specs.Edges.{Edge, lane, front, back, In, src, dst, house_graph}
use Rattle.uses.proofs.Degree.{degree_outside}
use Rattle.aisle.specs.Costs.{Use, once, twice, leaving, hole, steps_of_use, Depths, Among, Covers, Effect, effect_front, effect_back, effect_joins, Serves}
use Rattle.aisle.proofs.Effects.{joined_used, used_joined}
use Rattle.aisle.proofs.Holes.{hole_even, hole_before, hole_after, hole_used}
use Rattle.planner.proofs.Stretch.{needs_in, needs_inside, uses_in, bare_outside}
use Rattle.planner.proofs.OneAisle.{its_step, no_front, no_back, no_other, front_degree, back_degree, inside_degree, to_front, to_back}

-- all steps of a use are odd, or all are even
steps_parity : (u : Use) (y z : ℕ) → steps_of_use u y % 2 ≡ steps_of_use u z % 2
steps_parity once y z = refl
steps_parity twice y z = refl
steps_parity (leaving lo hi) y z = omega (arith, hole_even lo hi y, hole_even lo hi z)

-- where a use covers a depth, it uses every step before it or every step from it on
all_before_or_after :
    (u : Use) (y : ℕ) → 0 < y → Covers u y → ((z : ℕ) → z < y → 0 < steps_of_use u z) ⊎ ((z : ℕ) → y ≤ z → 0 < steps_of_use u z)
all_before_or_after once y p covers = inl (λ z l. omega arith)
all_before_or_after twice y p covers = inl (λ z l. omega arith)
all_before_or_after (leaving lo hi) y p covers = by covers
  where
    before_lo : y ≤ lo → (z : ℕ) → z < y → 0 < hole lo hi z
    before_lo l z k = omega (arith, hole_before lo hi z (omega arith))

    from_hi : hi ≤ y → (z : ℕ) → y ≤ z → 0 < hole lo hi z
    from_hi l z k = omega (arith, hole_after lo hi z (omega arith))

    by : Covers (leaving lo hi) y → ((z : ℕ) → z < y → 0 < hole lo hi z) ⊎ ((z : ℕ) → y ≤ z → 0 < hole lo hi z)
    by (inl q) = elim (hole_used lo hi (y - 1) q) [ inl l ↦ inl (before_lo (omega arith)) | inr l ↦ inr (from_hi (omega arith)) ]
    by (inr q) = elim (hole_used lo hi y q) [ inl l ↦ inl (before_lo (omega arith)) | inr l ↦ inr (from_hi l) ]

-- an aisle that is used as u says, which serves by the effect e; its picks lie at the depths ds, and needs are even, in the aisle at its picks only
pub record Served (h : House) (n : Spot → ℕ) (f : Edge → ℕ) (a : ℕ) (ds : List ℕ) (e : Effect) (u : Use) : Type 0 where
  pub inside : a < h.aisles
  pub depths : Depths h.deep ds
  pub even : (s : Spot) → n s % 2 ≡ 0
  pub among : (y : ℕ) → 0 < n (spot a y) → Among ds y
  pub serves : Serves h.deep ds e u
  pub steps : (y : ℕ) → y < h.deep → f (lane a y) ≡ steps_of_use u y

module _ {h : House} {n : Spot → ℕ} {f : Edge → ℕ} {a : ℕ} {ds : List ℕ} {e : Effect} {u : Use} (aisle : Served h n f a ds e u) where
  abbrev its_needs : Spot → ℕ
  its_needs = needs_in a (suc a) n

  abbrev its_uses : Edge → ℕ
  its_uses = uses_in h a (suc a) f

  its_need : (y : ℕ) → its_needs (spot a y) ≡ n (spot a y)
  its_need y = needs_inside a (suc a) n (spot a y) (omega arith)

  need_inside : (y : ℕ) → 0 < its_needs (spot a y) → (0 < y) × (y < h.deep)
  need_inside y p = by (aisle.among y (omega (arith, its_need y)))
    where
      by : Among ds y → (0 < y) × (y < h.deep)
      by (k, l, same) = omega (arith, aisle.depths.inside k l)

  -- a spot is not in the aisle, or is at one of its depths
  elsewhere_or : (P : Spot → Type 0) → ((s : Spot) → load (house_graph h) its_needs its_uses s ≡ 0 → P s) → ((y : ℕ) → P (spot a y)) → (s : Spot) → P s
  elsewhere_or P bare at s =
      elim (ℕ_discrete s.aisle a) [
        | yes same ↦ subst⁻¹ P (λ k. spot (same k) s.depth) (at s.depth)
        | no other ↦ bare s (bare_outside h a (suc a) n f s (λ z. other (omega arith)))
      ]

  at_front : load (house_graph h) its_needs its_uses (spot a 0) ≡ effect_front e
  at_front =
      elim (dec_lt 0 (its_needs (spot a 0))) [
        | yes p ↦ absurd (omega (arith, need_inside 0 p))
        | no z ↦ omega (arith, front_degree h a f aisle.inside aisle.depths.some_step, aisle.steps 0 aisle.depths.some_step, aisle.serves.front)
      ]

  at_back : load (house_graph h) its_needs its_uses (spot a h.deep) ≡ effect_back e
  at_back =
      elim (dec_lt 0 (its_needs (spot a h.deep))) [
        | yes p ↦ absurd (omega (arith, need_inside h.deep p))
        | no z ↦ omega (arith, back_degree h a f aisle.inside aisle.depths.some_step, aisle.steps (h.deep - 1) (omega (arith, aisle.depths.some_step)), aisle.serves.back)
      ]

  -- within the aisle: at the front, at the back, between, or beyond
  its_depths :
      (P : ℕ → Type 0) → P 0 → P h.deep → ((y : ℕ) → suc y < h.deep → P (suc y)) → ((y : ℕ) → h.deep < y → P y) → (y : ℕ) → P y
  its_depths P first last inside beyond zero = first
  its_depths P first last inside beyond (suc y) =
      elim (dec_lt (suc y) h.deep) [
        | yes l ↦ inside y l
        | no l ↦ elim (ℕ_discrete (suc y) h.deep) [ yes same ↦ subst⁻¹ P same last | no other ↦ beyond (suc y) (omega arith) ]
      ]

  bare_beyond : (y : ℕ) → h.deep < y → load (house_graph h) its_needs its_uses (spot a y) ≡ 0
  bare_beyond y l =
      elim (dec_lt 0 (its_needs (spot a y))) [
        | yes p ↦ absurd (omega (arith, need_inside y p))
        | no z ↦ omega (arith, degree_outside h its_uses (spot a y) (λ j. omega arith))
      ]

  inside_load : (y : ℕ) → suc y < h.deep → load (house_graph h) its_needs its_uses (spot a (suc y)) ≡ n (spot a (suc y)) + (steps_of_use u y + steps_of_use u (suc y))
  inside_load y l =
      omega (arith, its_need (suc y), inside_degree h a f aisle.inside aisle.depths.some_step y l, aisle.steps y (omega arith), aisle.steps (suc y) l)

  even_elsewhere : (s : Spot) → s ≢ spot a 0 → s ≢ spot a h.deep → load (house_graph h) its_needs its_uses s % 2 ≡ 0
  even_elsewhere =
      elsewhere_or (λ s. s ≢ spot a 0 → s ≢ spot a h.deep → load (house_graph h) its_needs its_uses s % 2 ≡ 0)
      (λ s bare p q. omega arith)
      (its_depths (λ y. spot a y ≢ spot a 0 → spot a y ≢ spot a h.deep → load (house_graph h) its_needs its_uses (spot a y) % 2 ≡ 0)
      (λ p q. absurd (p refl))
      (λ p q. absurd (q refl))
      (λ y l p q. omega (arith, inside_load y l, aisle.even (spot a (suc y)), steps_parity u y (suc y)))
      (λ y l p q. omega (arith, bare_beyond y l)))

  -- a live spot inside the aisle is covered
  covered : (y : ℕ) → suc y < h.deep → 0 < load (house_graph h) its_needs its_uses (spot a (suc y)) → Covers u (suc y)
  covered y l p =
      elim (dec_lt 0 (n (spot a (suc y)))) [
        | yes q ↦ at (aisle.among (suc y) q)
        | no z ↦
            elim (dec_lt 0 (steps_of_use u (suc y))) [
              | yes q ↦ inr q
              | no q ↦ inl (omega (arith, inside_load y l, ap (steps_of_use u) before))
            ]
      ]
    where
      before : suc y - 1 ≡ y
      before = omega arith

      at : Among ds (suc y) → Covers u (suc y)
      at (k, j, same) = subst (Covers u) same (aisle.serves.covers k j)

  abbrev Held : Spot → Type 0
  Held s = Linked (house_graph h) its_uses s (spot a 0) ⊎ Linked (house_graph h) its_uses s (spot a h.deep)

  held : (s : Spot) → 0 < load (house_graph h) its_needs its_uses s → Held s
  held =
      elsewhere_or (λ s. 0 < load (house_graph h) its_needs its_uses s → Held s)
      (λ s bare p. absurd (omega arith))
      (its_depths (λ y. 0 < load (house_graph h) its_needs its_uses (spot a y) → Held (spot a y))
      (λ p. inl here)
      (λ p. inr here)
      (λ y l p. reached y l (all_before_or_after u (suc y) (omega arith) (covered y l p)))
      (λ y l p. absurd (omega (arith, bare_beyond y l))))
    where
      reached :
          (y : ℕ) → suc y < h.deep → ((z : ℕ) → z < suc y → 0 < steps_of_use u z) ⊎ ((z : ℕ) → suc y ≤ z → 0 < steps_of_use u z) →
          Held (spot a (suc y))
      reached y l (inl used) =
          inl (to_front h a f aisle.inside aisle.depths.some_step (suc y) (omega arith)
          (λ z k. omega (arith, aisle.steps z (omega arith), used z k)))
      reached y l (inr used) =
          inr (to_back h a f aisle.inside aisle.depths.some_step (h.deep - suc y) (suc y) (omega arith)
          (λ z j k. omega (arith, aisle.steps z k, used z j)))

  -- where a step is not used, the front is not linked with the back
  all_used : Linked (house_graph h) its_uses (spot a 0) (spot a h.deep) → (y : ℕ) → y < h.deep → 0 < steps_of_use u y
  all_used link y l = elim (dec_lt 0 (steps_of_use u y)) [ yes p ↦ p | no z ↦ absurd (omega (arith, stays z)) ]
    where
      unused : ¬ (0 < steps_of_use u y) → (b : ℕ) → its_uses (lane b y) ≡ 0
      unused z b =
          elim (ℕ_discrete b a) [
            | yes same ↦ ap (λ c. its_uses (lane c y)) same ∙ omega (arith, its_step h a f y, aisle.steps y l)
            | no other ↦ no_other h a f b y other
          ]

      beside : ¬ (0 < steps_of_use u y) → (b k : ℕ) → 0 < its_uses (lane b k) → ¬ (k ≡ y)
      beside z b k p same = omega (arith, ap (λ c. its_uses (lane b c)) same, unused z b)

      carries :
          ¬ (0 < steps_of_use u y) → (x : Edge) → In h x → 0 < its_uses x →
          ((src h x).depth ≤ y → (dst h x).depth ≤ y) × ((dst h x).depth ≤ y → (src h x).depth ≤ y)
      carries z (lane b k) i p = (λ q. omega (arith, beside z b k p), λ q. omega arith)
      carries z (front b) i p = absurd (omega (arith, no_front h a f b))
      carries z (back b) i p = absurd (omega (arith, no_back h a f b))

      stays : ¬ (0 < steps_of_use u y) → h.deep ≤ y
      stays z = keeps_ends (house_graph h) (λ s. s.depth ≤ y) (carries z) link (omega arith)

  joined : (0 < effect_joins e) ↔ Linked (house_graph h) its_uses (spot a 0) (spot a h.deep)
  joined = (there, λ link. omega (arith, used_joined h.deep _ u aisle.serves.between (all_used link), aisle.serves.joined))
    where
      there : 0 < effect_joins e → Linked (house_graph h) its_uses (spot a 0) (spot a h.deep)
      there p =
          let used = joined_used h.deep _ u aisle.serves.between (omega (arith, aisle.serves.joined)) in
          to_back h a f aisle.inside aisle.depths.some_step h.deep 0 (omega arith) (λ z j k. omega (arith, aisle.steps z k, used z))

  pub aisle_state :
      PartialTour (house_graph h) (needs_in a (suc a) n) (uses_in h a (suc a) f) (spot a 0) (spot a h.deep) (effect_front e) (effect_back e) (effect_joins e)
  aisle_state =
      record {
        at_front = omega (arith, at_front);
        at_back = omega (arith, at_back);
        even = even_elsewhere;
        held = held;
        joined = joined;
      }
