-- The aisles up to one and the aisles after it: uses of both are these two stretches and the passages between them. Assumes nothing.
use Rattle.std.proofs.Common.{◌≡◌, ℕ, suc, ◌+◌, ◌<◌, ◌≤◌, ◌≢◌, sym, refl, ap, ◌∙◌, inl, arith}
use mathlib.Core.Path.{subst⁻¹}
use native.Mathlib.Decide.{dec_le, dec_lt, ℕ_discrete}
use Rattle.graph.proofs.Advance.{Onward}
use Rattle.graph.proofs.Many.{many}
use Rattle.graph.proofs.Weight.{weight_yes, weight_no}
use Rattle.house.specs.House.{House, Spot, spot}
use Rattle.uses.specs.Edges.{Edge, lane, front, back, edge_dec, src, dst, house_graph}
use Rattle.planner.proofs.Stretch.{needs_in, needs_inside, needs_outside, uses_in, uses_inside, uses_outside, forward, bare_outside}

-- an edge ends up to aisle a, is a passage from aisle a to the next, or begins after aisle a
data Place (h : House) (a : ℕ) (e : Edge) : Type 0 where
  before : (dst h e).aisle ≤ a → Place h a e
  at_front : e ≡ front a → Place h a e
  at_back : e ≡ back a → Place h a e
  after : a < (src h e).aisle → Place h a e

place : (h : House) (a : ℕ) (e : Edge) → Place h a e
place h a (lane b y) = elim (dec_le b a) [ yes l ↦ before l | no l ↦ after (omega arith) ]
place h a (front b) =
    elim (dec_lt b a) [ yes l ↦ before l | no l ↦ elim (ℕ_discrete b a) [ yes e ↦ at_front (ap front e) | no n ↦ after (omega arith) ] ]
place h a (back b) =
    elim (dec_lt b a) [ yes l ↦ before l | no l ↦ elim (ℕ_discrete b a) [ yes e ↦ at_back (ap back e) | no n ↦ after (omega arith) ] ]

module _ (h : House) (a hi : ℕ) (here : suc a < hi) (f : Edge → ℕ) where
  abbrev front_uses : Edge → ℕ
  front_uses = many (house_graph h) (front a) (f (front a))

  abbrev back_uses : Edge → ℕ
  back_uses = many (house_graph h) (back a) (f (back a))

  -- an edge that does not lead from aisle a to the next is no passage between them
  no_passage : (e : Edge) → ¬ (((src h e).aisle ≡ a) × ((dst h e).aisle ≡ suc a)) → (front_uses e ≡ 0) × (back_uses e ≡ 0)
  no_passage e n = (
    weight_no (edge_dec (front a) e) (λ same. n (sym (ap (λ x. (src h x).aisle) same), sym (ap (λ x. (dst h x).aisle) same))) (f (front a)),
    weight_no (edge_dec (back a) e) (λ same. n (sym (ap (λ x. (src h x).aisle) same), sym (ap (λ x. (dst h x).aisle) same))) (f (back a)),
  )

  abbrev Follows : Edge → Type 0
  Follows e = uses_in h 0 hi f e ≡ uses_in h 0 (suc a) f e + front_uses e + back_uses e + uses_in h (suc a) hi f e

  follows_before : (e : Edge) → (dst h e).aisle ≤ a → Follows e
  follows_before e l =
      omega (
        arith,
        uses_inside h 0 hi f e (omega arith),
        uses_inside h 0 (suc a) f e (omega arith),
        no_passage e (omega arith),
        uses_outside h (suc a) hi f e (λ i. omega (arith, forward h e)),
      )

  follows_after : (e : Edge) → a < (src h e).aisle → Follows e
  follows_after e l = omega (arith, later, uses_outside h 0 (suc a) f e (λ i. omega (arith, forward h e)), no_passage e (omega arith))
    where
      later : uses_in h 0 hi f e ≡ uses_in h (suc a) hi f e
      later =
          elim (dec_lt (dst h e).aisle hi) [
            | yes i ↦ uses_inside h 0 hi f e (omega arith) ∙ sym (uses_inside h (suc a) hi f e (l, i))
            | no i ↦ uses_outside h 0 hi f e (λ z. i z.1) ∙ sym (uses_outside h (suc a) hi f e (λ z. i z.1))
          ]

  -- the front and the back passage are two
  front_back : front a ≡ back a → ⊥
  front_back same = let z : ◌≡◌ {A = ℕ} 0 1 = cc in omega arith

  follows_front : Follows (front a)
  follows_front =
      omega (
        arith,
        uses_inside h 0 hi f (front a) (omega arith),
        uses_outside h 0 (suc a) f (front a) (λ i. omega arith),
        uses_outside h (suc a) hi f (front a) (λ i. omega arith),
        weight_yes (edge_dec (front a) (front a)) refl (f (front a)),
        weight_no (edge_dec (back a) (front a)) (λ same. front_back (sym same)) (f (back a)),
      )

  follows_back : Follows (back a)
  follows_back =
      omega (
        arith,
        uses_inside h 0 hi f (back a) (omega arith),
        uses_outside h 0 (suc a) f (back a) (λ i. omega arith),
        uses_outside h (suc a) hi f (back a) (λ i. omega arith),
        weight_no (edge_dec (front a) (back a)) front_back (f (front a)),
        weight_yes (edge_dec (back a) (back a)) refl (f (back a)),
      )

  pub uses_follow : (e : Edge) → Follows e
  uses_follow e = by (place h a e)
    where
      by : Place h a e → Follows e
      by (before l) = follows_before e l
      by (at_front same) = subst⁻¹ Follows same follows_front
      by (at_back same) = subst⁻¹ Follows same follows_back
      by (after l) = follows_after e l

pub needs_follow : (a hi : ℕ) → suc a < hi → (n : Spot → ℕ) (s : Spot) → needs_in 0 hi n s ≡ needs_in 0 (suc a) n s + needs_in (suc a) hi n s
needs_follow a hi here n s =
    elim (dec_le s.aisle a) [
      | yes l ↦
          omega (
            arith,
            needs_inside 0 hi n s (omega arith),
            needs_inside 0 (suc a) n s (omega arith),
            needs_outside (suc a) hi n s (λ i. omega arith),
          )
      | no l ↦
          omega (arith, needs_outside 0 (suc a) n s (λ i. omega arith), later l)
    ]
  where
    later : ¬ (s.aisle ≤ a) → needs_in 0 hi n s ≡ needs_in (suc a) hi n s
    later l =
        elim (dec_lt s.aisle hi) [
          | yes i ↦ needs_inside 0 hi n s (omega arith) ∙ sym (needs_inside (suc a) hi n s (omega arith))
          | no i ↦ needs_outside 0 hi n s (λ z. i z.1) ∙ sym (needs_outside (suc a) hi n s (λ z. i z.1))
        ]

-- the spots up to aisle a
abbrev pub Done : ℕ → Spot → Type 0
Done a s = s.aisle ≤ a

-- the two ends of an aisle are two
pub ends_apart : (h : House) → 0 < h.deep → (a : ℕ) → spot a 0 ≢ spot a h.deep
ends_apart h deep a same = omega (arith, ap (λ (s : Spot). s.depth) same)

-- from the uses f up to aisle a on to those in the aisles from the next to hi
abbrev pub Follow : House → ℕ → ℕ → (Spot → ℕ) → (Edge → ℕ) → Type 0
Follow h a hi n f =
    Onward (house_graph h) (Done a) (needs_in 0 (suc a) n) (needs_in (suc a) hi n) (needs_in 0 hi n)
    (uses_in h 0 (suc a) f) (uses_in h (suc a) hi f) (uses_in h 0 hi f)
    (spot a 0) (spot a h.deep) (spot (suc a) 0) (spot (suc a) h.deep) (front a) (back a) (f (front a)) (f (back a))

pub following :
    (h : House) → 0 < h.deep → (a hi : ℕ) → suc a < hi → hi ≤ h.aisles → (n : Spot → ℕ) (f : Edge → ℕ) → Follow h a hi n f
following h deep a hi here there n f =
    record {
      front = record { there = omega arith; leads = inl (refl, refl); old = omega arith; new = λ l. omega arith };
      back = record { there = omega arith; leads = inl (refl, refl); old = omega arith; new = λ l. omega arith };
      old_apart = ends_apart h deep a;
      new_apart = ends_apart h deep (suc a);
      needs = needs_follow a hi here n;
      uses = λ e i. uses_follow h a hi here f e;
      parts = record {
        beginning = λ s new. bare_outside h 0 (suc a) n f s (λ i. new (omega arith));
        beyond = λ s old. bare_outside h (suc a) hi n f s (λ i. omega arith);
      };
    }
