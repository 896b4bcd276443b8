-- A beginning of a class, told by the uses of the house, is a part of a tour in the state of that class. Assumes nothing.
use Rattle.std.proofs.Common.{◌≡◌, ℕ, zero, suc, ◌+◌, ◌%◌, ◌<◌, ◌≤◌, ◌≢◌, ◌⊎◌, List, ◌∷◌, length, get_or, sym, ap, ◌∙◌, subst, inl, inr, arith}
use native.Mathlib.Decide.{dec_le, dec_lt, ℕ_discrete}
use Rattle.graph.specs.Graph as graph
use Rattle.graph.proofs.Links.{linked_more}
use Rattle.graph.proofs.State.{load}
use Rattle.graph.proofs.Sums.{sum_alike}
use Rattle.house.specs.House.{House, Spot, spot, desk, Sound}
use Rattle.uses.specs.Uses.{Uses, meet, Linked}
use Rattle.uses.specs.Edges.{Edge, lane, front, back, use_of, degree, house_graph}
use Rattle.uses.proofs.Degree.{inside?, degree_inside, degree_outside}
use Rattle.uses.proofs.Laws.{house_laws}
use Rattle.uses.proofs.Links.{to_link, from_link}
use Rattle.uses.proofs.Picks.{pick_lt, pick_ge, pick_le, pick_gt}
use Rattle.planner.specs.Beginnings.{upto, Held, desk_uses, HasClass}
use Rattle.classes.specs.Classes.{Class}
use Rattle.planner.proofs.Beginnings.{BeginsIn}
use Rattle.planner.proofs.Stretch.{stands?, needs_in, needs_inside, needs_outside, uses_in, uses_inside, uses_outside, bare_outside}
use Rattle.planner.proofs.Wanted.{wanted, wanted_even, Listed, wanted_listed, needed, needed_later, needed_desk, needed_else, pick_wanted}

module _ (h : House) (a : ℕ) (u : Uses) where
  -- the uses up to aisle a are those of the stretch
  upto_uses : (e : Edge) → use_of (upto a u) e ≡ uses_in h 0 (suc a) (use_of u) e
  upto_uses (lane b y) =
      elim (dec_le b a) [
        | yes l ↦ pick_le b a _ 0 l ∙ sym (uses_inside h 0 (suc a) (use_of u) (lane b y) (omega arith))
        | no l ↦ pick_gt b a _ 0 (omega arith) ∙ sym (uses_outside h 0 (suc a) (use_of u) (lane b y) (λ z. omega arith))
      ]
  upto_uses (front b) =
      elim (dec_lt b a) [
        | yes l ↦ pick_lt b a _ 0 l ∙ sym (uses_inside h 0 (suc a) (use_of u) (front b) (omega arith))
        | no l ↦ pick_ge b a _ 0 (omega arith) ∙ sym (uses_outside h 0 (suc a) (use_of u) (front b) (λ z. omega arith))
      ]
  upto_uses (back b) =
      elim (dec_lt b a) [
        | yes l ↦ pick_lt b a _ 0 l ∙ sym (uses_inside h 0 (suc a) (use_of u) (back b) (omega arith))
        | no l ↦ pick_ge b a _ 0 (omega arith) ∙ sym (uses_outside h 0 (suc a) (use_of u) (back b) (λ z. omega arith))
      ]

  begun_degree : (b y : ℕ) → b < h.aisles → y ≤ h.deep → degree h (uses_in h 0 (suc a) (use_of u)) (spot b y) ≡ meet h (upto a u) b y
  begun_degree b y i j =
      sum_alike (house_graph h) ((house_laws h).degree (spot b y)) _ (use_of (upto a u)) (λ e there. sym (upto_uses e))
      ∙ degree_inside h (use_of (upto a u)) (spot b y) (i, j)

  begun_link : {s t : Spot} → Linked h (upto a u) s t → graph.Linked (house_graph h) (uses_in h 0 (suc a) (use_of u)) s t
  begun_link l = linked_more (house_graph h) (λ e i p. omega (arith, upto_uses e)) (to_link h l)

  link_begun : {s t : Spot} → graph.Linked (house_graph h) (uses_in h 0 (suc a) (use_of u)) s t → Linked h (upto a u) s t
  link_begun l = from_link h {f = use_of (upto a u)} (linked_more (house_graph h) (λ e i p. omega (arith, upto_uses e)) l)

module _ {h : House} {picks : List Spot} (sound : Sound h picks) where
  -- on the front and the back way there is no pick
  no_pick : (s : Spot) → ¬ ((0 < s.depth) × (s.depth < h.deep)) → wanted picks s ≡ 0
  no_pick s way = elim (dec_lt 0 (wanted picks s)) [ yes p ↦ absurd (way (inside (wanted_listed picks s p))) | no z ↦ omega arith ]
    where
      inside : Listed picks s → (0 < s.depth) × (s.depth < h.deep)
      inside l = subst (λ (t : Spot). (0 < t.depth) × (t.depth < h.deep)) (l.is desk) (let (i, j, k) = sound.inside l.place desk l.inside in (j, k))

  -- what is needed at the ends of an aisle: the desk only
  needed_front : (a : ℕ) → needed picks (spot a 0) ≡ desk_uses a
  needed_front zero = omega (arith, needed_desk picks, no_pick desk (λ z. omega arith))
  needed_front (suc a) = needed_later picks (spot (suc a) 0) (omega arith) ∙ no_pick (spot (suc a) 0) (λ z. omega arith)

  needed_back : 0 < h.deep → (a : ℕ) → needed picks (spot a h.deep) ≡ 0
  needed_back deep a =
      needed_else picks (spot a h.deep) (λ same. omega (arith, ap (λ (s : Spot). s.depth) same)) ∙ no_pick (spot a h.deep) (λ z. omega arith)

module _ {h : House} {picks : List Spot} (sound : Sound h picks) (deep : 0 < h.deep) {a : ℕ} (here : a < h.aisles) (u : Uses) where
  abbrev needs : Spot → ℕ
  needs = needs_in 0 (suc a) (needed picks)

  abbrev uses : Edge → ℕ
  uses = uses_in h 0 (suc a) (use_of u)

  front_load : load (house_graph h) needs uses (spot a 0) ≡ desk_uses a + meet h (upto a u) a 0
  front_load =
      omega (arith, needs_inside 0 (suc a) (needed picks) (spot a 0) (omega arith), needed_front sound a, begun_degree h a u a 0 here (omega arith))

  back_load : load (house_graph h) needs uses (spot a h.deep) ≡ meet h (upto a u) a h.deep
  back_load =
      omega (
        arith,
        needs_inside 0 (suc a) (needed picks) (spot a h.deep) (omega arith),
        needed_back sound deep a,
        begun_degree h a u a h.deep here (omega arith),
      )

  needs_even : (s : Spot) → needs s % 2 ≡ 0
  needs_even s =
      elim (stands? 0 (suc a) s) [
        | yes i ↦ omega (arith, needs_inside 0 (suc a) (needed picks) s i, wanted_even (desk ∷ picks) s)
        | no i ↦ omega (arith, needs_outside 0 (suc a) (needed picks) s i)
      ]

  -- beyond aisle a nothing counts
  bare_beyond : (s : Spot) → ¬ (s.aisle ≤ a) → load (house_graph h) needs uses s ≡ 0
  bare_beyond s l = bare_outside h 0 (suc a) (needed picks) (use_of u) s (λ i. l (omega arith))

  module _ {c : Class} (has : HasClass h picks a c u) where
    even_elsewhere : (b y : ℕ) → spot b y ≢ spot a 0 → spot b y ≢ spot a h.deep → load (house_graph h) needs uses (spot b y) % 2 ≡ 0
    even_elsewhere b y off_front off_back =
        elim (dec_lt h.deep y) [
          | yes l ↦ omega (arith, needs_even (spot b y), degree_outside h uses (spot b y) (λ i. omega arith))
          | no l ↦
              elim (dec_lt b a) [
                | yes k ↦ omega (arith, needs_even (spot b y), begun_degree h a u b y (omega arith) (omega arith), has.even_before b y k (omega arith))
                | no k ↦
                    elim (ℕ_discrete b a) [
                      | yes same ↦
                          omega (
                            arith,
                            needs_even (spot b y),
                            begun_degree h a u b y (omega arith) (omega arith),
                            ap (λ k. meet h (upto a u) k y) same,
                            has.even_inside y (off same off_front) (omega (arith, off_last same)),
                          )
                      | no other ↦ omega (arith, bare_beyond (spot b y) (λ j. omega arith))
                    ]
              ]
        ]
      where
        off : b ≡ a → spot b y ≢ spot a 0 → 0 < y
        off same apart = elim (ℕ_discrete y 0) [ yes e ↦ absurd (apart (λ i. spot (same i) (e i))) | no n ↦ omega arith ]

        off_last : b ≡ a → ¬ (y ≡ h.deep)
        off_last same e = off_back (λ i. spot (same i) (e i))

    graph_held : (s : Spot) → Held h u a s → graph.Linked (house_graph h) uses s (spot a 0) ⊎ graph.Linked (house_graph h) uses s (spot a h.deep)
    graph_held s (inl l) = inl (begun_link h a u l)
    graph_held s (inr l) = inr (begun_link h a u l)

    listed_held : (s : Spot) → s.aisle ≤ a → Listed (desk ∷ picks) s → Held h u a s
    listed_held s l listed = by listed.place listed.inside listed.is
      where
        by : (i : ℕ) → i < length (desk ∷ picks) → ((d : Spot) → get_or (desk ∷ picks) i d ≡ s) → Held h u a s
        by zero j is = subst (Held h u a) (is desk) has.desk_held
        by (suc i) j is =
            subst (Held h u a) (is desk) (has.pick_held i desk (omega arith) (subst (λ (t : Spot). t.aisle ≤ a) (sym (is desk)) l))

    live_held : (s : Spot) → 0 < load (house_graph h) needs uses s → Held h u a s
    live_held s p =
        elim (dec_le s.aisle a) [
          | no l ↦ absurd (omega (arith, bare_beyond s l))
          | yes l ↦
              elim (dec_lt 0 (needs s)) [
                | yes q ↦ listed_held s l (wanted_listed (desk ∷ picks) s (omega (arith, needs_inside 0 (suc a) (needed picks) s (omega arith))))
                | no z ↦
                    elim (inside? h s) [
                      | yes i ↦
                          has.used_held s.aisle s.depth l i.1 (omega (arith, begun_degree h a u s.aisle s.depth i.0 i.1))
                      | no n ↦ absurd (omega (arith, degree_outside h uses s n))
                    ]
              ]
        ]

    pub class_part : BeginsIn h picks (use_of u) a c
    class_part =
        record {
          at_front = omega (arith, front_load, has.at_front);
          at_back = omega (arith, back_load, has.at_back);
          even = λ s p q. even_elsewhere s.aisle s.depth p q;
          held = λ s p. graph_held s (live_held s p);
          joined = (λ z. begun_link h a u (has.joined.0 z), λ l. has.joined.1 (link_begun h a u l));
        }

  module _ (c : Class) (part : BeginsIn h picks (use_of u) a c) where
    held_live : (s : Spot) → 0 < load (house_graph h) needs uses s → Held h u a s
    held_live s p = elim (part.held s p) [ inl l ↦ inl (link_begun h a u l) | inr l ↦ inr (link_begun h a u l) ]

    listed_live : (s : Spot) → s.aisle ≤ a → 0 < needed picks s → Held h u a s
    listed_live s l p = held_live s (omega (arith, needs_inside 0 (suc a) (needed picks) s (omega arith)))

    -- and back
    pub part_has_class : HasClass h picks a c u
    part_has_class =
        record {
          at_front = omega (arith, front_load, part.at_front);
          at_back = omega (arith, back_load, part.at_back);
          even_inside = λ y i j. even a y here (omega arith) (λ same. omega (arith, depths same)) (λ same. omega (arith, depths same));
          even_before = λ b y i j. even b y (omega arith) j (λ same. omega (arith, aisles same)) (λ same. omega (arith, aisles same));
          desk_held = listed_live desk (omega arith) (pick_wanted (desk ∷ picks) 0 desk (omega arith));
          used_held = λ b y i j p. held_live (spot b y) (omega (arith, begun_degree h a u b y (omega arith) j));
          pick_held = λ i d l j. listed_live (get_or picks i d) j (pick_wanted (desk ∷ picks) (suc i) d (omega arith));
          joined = (λ z. link_begun h a u (part.joined.0 z), λ l. part.joined.1 (begun_link h a u l));
        }
      where
        aisles : {s t : Spot} → s ≡ t → s.aisle ≡ t.aisle
        aisles same = ap (λ (s : Spot). s.aisle) same

        depths : {s t : Spot} → s ≡ t → s.depth ≡ t.depth
        depths same = ap (λ (s : Spot). s.depth) same

        even :
            (b y : ℕ) → b < h.aisles → y ≤ h.deep → spot b y ≢ spot a 0 → spot b y ≢ spot a h.deep → meet h (upto a u) b y % 2 ≡ 0
        even b y i j off_front off_back =
            omega (arith, part.even (spot b y) off_front off_back, needs_even (spot b y), begun_degree h a u b y i j)
