-- Two beginnings of one class are ended in the same ways. Assumes nothing.
use Rattle.std.proofs.Common.{◌≡◌, ℕ, suc, ◌+◌, ◌<◌, ◌⊎◌, List, sym, refl, ap, ◌∙◌, inl, inr, arith}
use native.Mathlib.Decide.{dec_le, dec_lt}
use Rattle.graph.proofs.Many.{many}
use Rattle.graph.proofs.Passage.{passage_done}
use Rattle.graph.proofs.State.{load}
use Rattle.graph.proofs.Together.{Together}
use Rattle.graph.proofs.TwoSteps.{part_close, part_closed, part_exchange}
use Rattle.house.specs.House.{House, Spot, spot}
use Rattle.uses.specs.Uses.{Uses}
use Rattle.uses.specs.Edges.{Edge, lane, front, back, In, src, spot_dec, use_of, degree, house_graph}
use Rattle.uses.proofs.Laws.{house_laws}
use Rattle.uses.proofs.Rings.{to_ring, from_ring}
use Rattle.planner.specs.Beginnings.{SameBeyond}
use Rattle.planner.specs.Promise.{Exchange}
use Rattle.planner.proofs.Beginnings.{BeginsIn}
use Rattle.planner.proofs.ClassParts.{class_part}
use Rattle.planner.proofs.Following.{Follow, needs_follow, uses_follow, following}
use Rattle.planner.proofs.Stretch.{lies?, needs_in, uses_in, uses_inside, uses_outside}
use Rattle.planner.proofs.Wanted.{needed}
use Rattle.planner.proofs.WholeHouse.{AllAisles, ring_all, all_ring, ended_all, all_ended}

-- the uses beyond aisle a: over the passages from it, and in the aisles after it
abbrev rest : House → ℕ → (Edge → ℕ) → Edge → ℕ
rest h a f e =
    many (house_graph h) (front a) (f (front a)) e + many (house_graph h) (back a) (f (back a)) e + uses_in h (suc a) h.aisles f e

module _ (h : House) (picks : List Spot) (a : ℕ) (here : suc a < h.aisles) (f : Edge → ℕ) where
  -- a beginning and what is beyond it
  together :
      (g : Edge → ℕ) → ((e : Edge) → In h e → rest h a g e ≡ rest h a f e) →
      Together (house_graph h) (needs_in 0 (suc a) (needed picks)) (needs_in (suc a) h.aisles (needed picks)) (needs_in 0 h.aisles (needed picks))
      (uses_in h 0 (suc a) g) (rest h a f) (uses_in h 0 h.aisles g)
  together g same =
      record {
        needs = needs_follow a h.aisles here (needed picks);
        uses = λ e i. omega (arith, uses_follow h a h.aisles here g e, same e i);
      }

  abbrev both : Edge → ℕ
  both e = many (house_graph h) (front a) (f (front a)) e + many (house_graph h) (back a) (f (back a)) e

  rest_degree :
      (s : Spot) →
      degree h (rest h a f) s
      ≡ degree h (many (house_graph h) (front a) (f (front a))) s + degree h (many (house_graph h) (back a) (f (back a))) s
      + degree h (uses_in h (suc a) h.aisles f) s
  rest_degree s =
      omega (
        arith,
        ((house_laws h).degree s).add both (uses_in h (suc a) h.aisles f) (rest h a f) (λ e i. refl),
        ((house_laws h).degree s).add (many (house_graph h) (front a) (f (front a))) (many (house_graph h) (back a) (f (back a))) both (λ e i. refl),
      )

  -- what is beyond aisle a touches the beginning at the ends of that aisle only
  meets :
      0 < h.deep → (s : Spot) → 0 < degree h (uses_in h 0 (suc a) f) s → 0 < load (house_graph h) (needs_in (suc a) h.aisles (needed picks)) (rest h a f) s →
      (s ≡ spot a 0) ⊎ (s ≡ spot a h.deep)
  meets deep s p q =
      elim (spot_dec s (spot a 0)) [
        | yes same ↦ inl same
        | no off_front ↦
            elim (spot_dec s (spot a h.deep)) [
              | yes same ↦ inr same
              | no off_back ↦
                  elim (dec_le s.aisle a) [
                    | yes l ↦
                        absurd (omega (
                          arith,
                          rest_degree s,
                          passage_done (house_graph h) (house_laws h) onward.front (f (front a)) s l off_front,
                          passage_done (house_graph h) (house_laws h) onward.back (f (back a)) s l off_back,
                          onward.parts.beyond s l,
                        ))
                    | no l ↦ absurd (omega (arith, onward.parts.beginning s l))
                  ]
            ]
      ]
    where
      onward : Follow h a h.aisles (needed picks) f
      onward = following h deep a h.aisles here (omega arith) (needed picks) f

module _ {h : House} {a : ℕ} {u v : Uses} (beyond : SameBeyond h a u v) where
  -- an edge beyond aisle a is used the same
  same_edge : (e : Edge) → In h e → a < (src h e).aisle → use_of v e ≡ use_of u e
  same_edge (lane b y) (i, j) l = sym (beyond.aisle b y l i j)
  same_edge (front b) i l = sym (beyond.front b (omega arith) i)
  same_edge (back b) i l = sym (beyond.back b (omega arith) i)

  same_rest : suc a < h.aisles → (e : Edge) → In h e → rest h a (use_of v) e ≡ rest h a (use_of u) e
  same_rest here e i =
      omega (
        arith,
        ap (λ m. many (house_graph h) (front a) m e) (beyond.front a (omega arith) here),
        ap (λ m. many (house_graph h) (back a) m e) (beyond.back a (omega arith) here),
        after,
      )
    where
      after : uses_in h (suc a) h.aisles (use_of v) e ≡ uses_in h (suc a) h.aisles (use_of u) e
      after =
          elim (lies? h (suc a) h.aisles e) [
            | yes l ↦ uses_inside h (suc a) h.aisles (use_of v) e l ∙ same_edge e i l.0 ∙ sym (uses_inside h (suc a) h.aisles (use_of u) e l)
            | no l ↦ uses_outside h (suc a) h.aisles (use_of v) e l ∙ sym (uses_outside h (suc a) h.aisles (use_of u) e l)
          ]

pub exchange : Exchange
exchange h picks a c u v sound deep here first second beyond round =
    from_ring (use_of v) (all_ring sound (use_of v) (elim (dec_lt (suc a) h.aisles) [ yes more ↦ inside more | no z ↦ at_last (omega arith) ]))
  where
    whole : AllAisles h picks (use_of u)
    whole = ring_all sound (use_of u) (to_ring round)

    one : BeginsIn h picks (use_of u) a c
    one = class_part sound deep here u first

    other : BeginsIn h picks (use_of v) a c
    other = class_part sound deep here v second

    at_last : suc a ≡ h.aisles → AllAisles h picks (use_of v)
    at_last last =
        let shut = part_closed (house_graph h) (house_laws h) one (all_ended sound (use_of u) last whole) in
        ended_all sound (use_of v) last (part_close (house_graph h) (house_laws h) shut other)

    inside : suc a < h.aisles → AllAisles h picks (use_of v)
    inside more =
        part_exchange (house_graph h) (house_laws h) one other
        (meets h picks a more (use_of u) deep)
        (together h picks a more (use_of u) (use_of u) (λ e i. refl))
        (together h picks a more (use_of u) (use_of v) (same_rest beyond more))
        whole
