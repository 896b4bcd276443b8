-- A step and the edge that it goes along: where a step leads to a spot there is an edge between the two, and along each edge there is a step. Assumes nothing.
use Rattle.std.proofs.Common.{◌≡◌, ℕ, suc, ◌-◌, ◌<◌, ◌≤◌, Some, sym, refl, ap, ◌∙◌, subst, arith}
use Rattle.graph.specs.Graph.{Ends}
use Rattle.house.specs.House.{House, Spot}
use Rattle.walk.specs.Walk.{Goes, byte_of}
use Rattle.walk.specs.Steps.{Within, landing}
use Rattle.walk.proofs.Lands.{landing_of_step, step_of_landing, landing_within}
use Rattle.uses.specs.Edges.{Edge, lane, front, back, In, house_graph}
use Rattle.uses.specs.Layout.{place}
use Rattle.uses.specs.Looking.{edge_by, Sees}
use Rattle.uses.specs.Walked.{edge_of}
use Rattle.uses.proofs.Places.{place_below, places_few}
use Rattle.uses.proofs.Steps.{step_of}

module _ (h : House) where
  -- the edge of a step is the one that its byte says
  pub edge_by_byte : {s t : Spot} {n : ℕ} (g : Goes h s t n) → (edge_of h g).edge ≡ edge_by h s (byte_of g)
  unfolding edge_of byte_of
  edge_by_byte (Goes.inward i j) = refl
  edge_by_byte (Goes.outward {a = a} {y = y} i j) = let e : y ≡ suc y - 1 = omega arith in ap (lane a) e
  edge_by_byte (Goes.front_on i) = refl
  edge_by_byte (Goes.front_off {a = a} i) = let e : a ≡ suc a - 1 = omega arith in ap front e
  edge_by_byte (Goes.back_on i) = refl
  edge_by_byte (Goes.back_off {a = a} i) = let e : a ≡ suc a - 1 = omega arith in ap back e

  byte_small : {s t : Spot} {n : ℕ} (g : Goes h s t n) → byte_of g ≤ 5
  unfolding byte_of
  byte_small (Goes.inward i j) = omega arith
  byte_small (Goes.outward i j) = omega arith
  byte_small (Goes.front_on i) = omega arith
  byte_small (Goes.front_off i) = omega arith
  byte_small (Goes.back_on i) = omega arith
  byte_small (Goes.back_off i) = omega arith

  -- an edge of the house leads from s to t
  pub record Joins (e : Edge) (s t : Spot) : Type 0 where
    pub inside : In h e
    pub ends : Ends (house_graph h) e s t

  pub joins_of_landing : {s t : Spot} (b : ℕ) → Within h s → landing h s b ≡ Some t → Joins (edge_by h s b) s t
  joins_of_landing {s} {t} b k l =
      let g = step_of_landing b k l in
      let e : (edge_of h g.step).edge ≡ edge_by h s b = edge_by_byte g.step ∙ ap (edge_by h s) g.byte in
      subst (λ x. Joins x s t) e (record { inside = (edge_of h g.step).inside; ends = (edge_of h g.step).ends })

  -- the byte of a step along an edge
  pub record Byte (e : Edge) (s t : Spot) : Type 0 where
    pub byte : ℕ
    pub small : byte ≤ 5
    pub leads : landing h s byte ≡ Some t
    pub along : edge_by h s byte ≡ e

  pub byte_of_edge : {s t : Spot} (e : Edge) → In h e → Ends (house_graph h) e s t → Byte e s t
  byte_of_edge e i ends =
      let g = step_of h e i ends in
      record {
        byte = byte_of g.goes;
        small = byte_small g.goes;
        leads = (landing_of_step g.goes).leads;
        along = sym (edge_by_byte g.goes) ∙ g.along;
      }

  pub sees : {s t : Spot} (b entry : ℕ) → landing h s b ≡ Some t → entry ≡ place h (edge_by h s b) → Sees h s b entry t
  sees {s} b entry l e = record {
    leads = l;
    entry_is = e;
    stays = λ k. (omega (arith, place_below h (edge_by h s b) (joins_of_landing b k l).inside), landing_within b k l);
  }

  -- what is seen from a spot of a house within the bounds has a place among 12,926
  pub sees_place : {s t : Spot} {b entry : ℕ} → h.aisles ≤ 64 → h.deep ≤ 200 → Sees h s b entry t → Within h s → entry < 12926
  sees_place i j seen k = omega (arith, (seen.stays k).0, places_few h i j)
