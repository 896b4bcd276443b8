-- Plans are enough: for round uses there is a finished plan that is no dearer. Assumes nothing.
use Rattle.std.proofs.Common.{◌≡◌, ℕ, zero, suc, ◌+◌, ◌-◌, ◌*◌, ◌<◌, ◌≤◌, true, false, List, [], ◌∷◌, length, get_or, Some, sym, refl, ap, subst₂, inr, arith}
use native.Mathlib.Decide.{dec_le, dec_lt}
use Rattle.graph.proofs.Advance.{accepted, live_beyond, without_passages}
use Rattle.graph.proofs.Rules.{Accepted}
use Rattle.graph.proofs.Split.{cut_nothing, cut_whole}
use Rattle.graph.proofs.State.{load}
use Rattle.graph.proofs.Together.{Together}
use Rattle.graph.proofs.TwoSteps.{part_closed}
use Rattle.house.specs.House.{House, Spot, desk, Sound}
use Rattle.uses.specs.Uses.{cost}
use Rattle.uses.specs.Edges.{Edge, front, back, use_of, uses_of, house_graph}
use Rattle.uses.proofs.Laws.{house_laws}
use Rattle.uses.proofs.Rings.{to_ring}
use Rattle.aisle.specs.Costs.{leaving, use_cost, Among, Effect, nothing, best}
use Rattle.aisle.proofs.Ascending.{among_first}
use Rattle.aisle.proofs.Enough.{neighbours_enough, small_edges}
use Rattle.aisle.proofs.UseCosts.{cost_leaving}
use Rattle.classes.specs.Classes.{Class, closed, is_closed, class_front, class_back, class_joins, none, passage_front, passage_back, closes, transition}
use Rattle.planner.specs.Plans.{PicksByAisle, Plan, start, next, Finished}
use Rattle.classes.specs.Promise.{Shuts}
use Rattle.planner.specs.Promise.{PlansEnough}
use Rattle.planner.proofs.Beginnings.{ServesAisle, BeginsIn, Ended, opens_in, leads_in}
use Rattle.planner.proofs.Cheapest.{NoDearer, best_cheaper}
use Rattle.planner.proofs.Costing.{cost_in, cost_of_aisle, cost_following, way_cost}
use Rattle.planner.proofs.Following.{Follow, following}
use Rattle.classes.proofs.Numbers.{class_proper, Paired, PassageOf, passage_of}
use Rattle.planner.proofs.Parts.{bare_part}
use Rattle.classes.proofs.Rule.{NextClass, next_class, transition_shuts, opening_told, opening_class}
use Rattle.planner.proofs.Shapes.{shape_serves}
use Rattle.planner.proofs.Stretch.{needs_in, needs_inside, uses_in}
use Rattle.classes.proofs.Tests.{may_close_told}
use Rattle.planner.proofs.WholeHouse.{AllAisles, cost_all, ring_all, all_ended}
use Rattle.planner.proofs.Wanted.{pick_wanted, needed}

-- where no pick lies beyond aisle a
abbrev NoneBeyond : List Spot → ℕ → Type 0
NoneBeyond picks a = (i : ℕ) (d : Spot) → i < length picks → (get_or picks i d).aisle ≤ a

-- a plan up to aisle a that is no dearer than the uses f, which are of its class; or a closed one, with no pick beyond
data Along (h : House) (picks : List Spot) (ds : ℕ → List ℕ) (f : Edge → ℕ) (a : ℕ) : Type 0 where
  going : {c : Class} {w : ℕ} → Plan h ds a c w → w ≤ cost_in h f 0 (suc a) → is_closed c ≡ false → BeginsIn h picks f a c → Along h picks ds f a
  ended : {w : ℕ} → Plan h ds a closed w → w ≤ cost_in h f 0 (suc a) → NoneBeyond picks a → Along h picks ds f a

-- an aisle without picks need not be used, at no cost
unused_aisle : (deep : ℕ) (ds : List ℕ) → ((y : ℕ) → ¬ (Among ds y)) → best deep ds nothing ≡ Some (leaving 0 deep)
unused_aisle deep [] empty = refl
unused_aisle deep (d ∷ ds) empty = absurd (empty d (among_first d ds))

unused_cost : (deep : ℕ) → use_cost deep (leaving 0 deep) ≡ 0
unused_cost deep = omega (arith, cost_leaving deep 0 deep (omega arith))

module _ {h : House} {picks : List Spot} {ds : ℕ → List ℕ} (by_aisle : PicksByAisle h picks ds) (f : Edge → ℕ) where
  -- a plan with an aisle more, in which nothing is used
  rests :
      {a : ℕ} {c : Class} {w : ℕ} → suc a < h.aisles → Plan h ds a c w → transition c none nothing ≡ Some closed → w ≤ cost_in h f 0 (suc a) →
      NoneBeyond picks a → Along h picks ds f (suc a)
  rests {a} {c} {w} i plan leads cheap beyond =
      ended (next plan none nothing (leaving 0 h.deep) leads (unused_aisle h.deep (ds (suc a)) (λ y m. past y (by_aisle.only (suc a) y i m))))
      (omega (arith, unused_cost h.deep, cost_following h f a i))
      (λ i d l. omega (arith, beyond i d l))
    where
      past : (y : ℕ) → (i : ℕ) × (d : Spot) × (i < length picks) × ((get_or picks i d).aisle ≡ suc a) × ((get_or picks i d).depth ≡ y) → ⊥
      past y (i, d, l, same, e) = omega (arith, beyond i d l)

  -- a plan for aisle 0
  opens : {e : Effect} → ServesAisle h ds f 0 e → Along h picks ds f 0
  opens {e} s =
      let (c, is) = opening_class e in
      let best = best_cheaper (by_aisle.depths 0 s.inside) s.serves in
      going (start e best.cheapest is best.is)
      (omega (arith, best.cheaper, cost_of_aisle h f 0 s.inside, way_cost h f s))
      (opening_told e is).going (opens_in by_aisle is s)

  -- a plan with an aisle more, over passages that lead on
  goes_on :
      {a : ℕ} {c : Class} {w : ℕ} {e : Effect} → Plan h ds a c w → w ≤ cost_in h f 0 (suc a) → is_closed c ≡ false → BeginsIn h picks f a c →
      (p : PassageOf (f (front a)) (f (back a))) → NextClass c p.passage e → (s : ServesAisle h ds f (suc a) e) →
      NoDearer h.deep (ds (suc a)) e s.way → Along h picks ds f (suc a)
  goes_on {a} {c} {w} {e} plan cheap open_yet part p n s best =
      going (next plan p.passage e best.cheapest n.is best.is)
      (omega (arith, best.cheaper, cost_following h f a s.inside, way_cost h f s, ap (λ k. k * h.apart) passages))
      n.going
      (leads_in by_aisle (record { front_uses = sym p.front; back_uses = sym p.back; aisle = s }) n.leads part)
    where
      passages : passage_front p.passage + passage_back p.passage ≡ f (front a) + f (back a)
      passages = omega (arith, p.front, p.back)

  module _ (sound : Sound h picks) (whole : AllAisles h picks f) where
    desk_live : (hi : ℕ) → 0 < hi → 0 < load (house_graph h) (needs_in 0 hi (needed picks)) (uses_in h 0 hi f) desk
    desk_live hi some = omega (arith, needs_inside 0 hi (needed picks) desk (omega arith), pick_wanted (desk ∷ picks) 0 desk (omega arith))

    module _ {a : ℕ} {c : Class} {w : ℕ} (i : suc a < h.aisles) (plan : Plan h ds a c w) (cheap : w ≤ cost_in h f 0 (suc a))
        (open_yet : is_closed c ≡ false) (part : BeginsIn h picks f a c) where
      abbrev onward : Follow h a h.aisles (needed picks) f
      onward = following h (by_aisle.depths a (omega arith)).some_step a h.aisles i (omega arith) (needed picks) f

      -- where passages are used
      over_passages :
          {e : Effect} → ((x : Edge) → f x ≤ 2) → 0 < f (front a) + f (back a) → ServesAisle h ds f (suc a) e → Along h picks ds f (suc a)
      over_passages {e} small some s =
          goes_on plan cheap open_yet part (passage_of paired) (next_class c (passage_of paired).passage e open_yet led) s
          (best_cheaper (by_aisle.depths (suc a) i) s.serves)
        where
          ok : Accepted (class_front c) (class_back c) (class_joins c) (f (front a)) (f (back a))
          ok = let (y, new, live) = live_beyond (house_graph h) (house_laws h) onward some in accepted (house_graph h) (house_laws h) onward part whole y new live

          paired : Paired (f (front a)) (f (back a))
          paired =
              record {
                front_small = small (front a);
                back_small = small (back a);
                one_parity = omega (arith, ok.front_even, ok.back_even, (class_proper c).one_parity);
              }

          led : Accepted (class_front c) (class_back c) (class_joins c) (passage_front (passage_of paired).passage) (passage_back (passage_of paired).passage)
          led = subst₂ (Accepted (class_front c) (class_back c) (class_joins c)) (sym (passage_of paired).front) (sym (passage_of paired).back) ok

      -- where none are
      without : ¬ (0 < f (front a) + f (back a)) → Along h picks ds f (suc a)
      without z = rests i plan (transition_shuts c none nothing shuts) cheap beyond
        where
          both :
              Together (house_graph h) (needs_in 0 (suc a) (needed picks)) (needs_in (suc a) h.aisles (needed picks)) (needs_in 0 h.aisles (needed picks))
              (uses_in h 0 (suc a) f) (uses_in h (suc a) h.aisles f) (uses_in h 0 h.aisles f)
          both = without_passages (house_graph h) (house_laws h) onward (omega arith) (omega arith)

          bare : (s : Spot) → load (house_graph h) (needs_in (suc a) h.aisles (needed picks)) (uses_in h (suc a) h.aisles f) s ≡ 0
          bare = cut_nothing (house_graph h) (house_laws h) onward.parts both whole desk (omega arith) (desk_live h.aisles sound.some_aisle)

          shut : Ended h picks f a
          shut = cut_whole (house_graph h) (house_laws h) onward.parts both whole desk (omega arith) (desk_live h.aisles sound.some_aisle)

          begun : 0 < class_front c + class_back c
          begun =
              elim (dec_lt 0 (class_front c + class_back c)) [
                | yes p ↦ p
                | no p ↦ absurd (omega (arith, desk_live (suc a) (omega arith), bare_part (house_graph h) (house_laws h) (omega arith) (omega arith) part desk))
              ]

          shuts : Shuts c none nothing
          shuts =
              let ok = part_closed (house_graph h) (house_laws h) part shut in
              record { unused = refl; front_even = ok.front_even; back_even = ok.back_even; one_piece = ok.joined; some_use = inr begun }

          beyond : NoneBeyond picks a
          beyond k d l =
              elim (dec_le (get_or picks k d).aisle a) [
                | yes j ↦ j
                | no j ↦ absurd (unpicked j (bare (get_or picks k d)))
              ]
            where
              unpicked :
                  ¬ ((get_or picks k d).aisle ≤ a) →
                  load (house_graph h) (needs_in (suc a) h.aisles (needed picks)) (uses_in h (suc a) h.aisles f) (get_or picks k d) ≡ 0 → ⊥
              unpicked j empty =
                  omega (
                    arith,
                    needs_inside (suc a) h.aisles (needed picks) (get_or picks k d) (omega (arith, sound.inside k d l)),
                    pick_wanted (desk ∷ picks) (suc k) d (omega arith),
                  )

    module _ (small : (x : Edge) → f x ≤ 2) (served : (a : ℕ) → a < h.aisles → (e : Effect) × ServesAisle h ds f a e) where
      -- one aisle more
      further : {a : ℕ} → suc a < h.aisles → Along h picks ds f a → Along h picks ds f (suc a)
      further {a} i (ended plan cheap beyond) = rests i plan refl cheap beyond
      further {a} i (going plan cheap open_yet part) =
          elim (dec_lt 0 (f (front a) + f (back a))) [
            | yes some ↦ over_passages i plan cheap open_yet part small some (served (suc a) i).1
            | no z ↦ without i plan cheap open_yet part z
          ]

      along : (a : ℕ) → a < h.aisles → Along h picks ds f a
      along zero i = opens (served 0 i).1
      along (suc a) i = further i (along a (omega arith))

      -- to the last aisle
      finished : (a : ℕ) → suc a ≡ h.aisles → Along h picks ds f a → (w : ℕ) × (c : Class) × Plan h ds a c w × (closes c ≡ true) × (w ≤ cost h (uses_of f))
      finished a last (ended {w = w} plan cheap beyond) = (w, closed, plan, refl, omega (arith, cost_all h f last))
      finished a last (going {c} {w} plan cheap open_yet part) =
          (w, c, plan, (may_close_told _ _ _).1 (part_closed (house_graph h) (house_laws h) part shut), omega (arith, cost_all h f last))
        where
          shut : Ended h picks f a
          shut = all_ended sound f last whole

      pub finished_plan : (w : ℕ) × Finished h ds w × (w ≤ cost h (uses_of f))
      finished_plan =
          let (w, c, plan, may, cheap) = finished (h.aisles - 1) (omega (arith, sound.some_aisle)) (along (h.aisles - 1) (omega (arith, sound.some_aisle))) in
          (w, record { class = c; plan = plan; closes_tour = may }, cheap)

pub plans_enough : PlansEnough
plans_enough h picks ds u sound by_aisle round =
    let (v, around, two, shapes, cheaper) = neighbours_enough h picks u sound round in
    let f = use_of v in
    let whole = ring_all sound f (to_ring around) in
    let (w, plan, cheap) = finished_plan by_aisle f sound whole (small_edges h v two) (λ a i. shape_serves by_aisle f a i (shapes a i)) in
    (w, plan, omega (arith, cheap, cheaper))
