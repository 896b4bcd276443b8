-- The places of edges in a slice of uses: each edge of the house has one of its own, and 12,926 are enough. Assumes nothing.
use Rattle.std.proofs.Common.{◌≡◌, ℕ, ◌*◌, ◌/◌, ◌%◌, ◌<◌, ◌≤◌, sym, ap, ◌∙◌, mul-le-mul, arith}
use lib.Arith.{digits_lt, digits_div, digits_mod}
use Rattle.house.specs.House.{House}
use Rattle.uses.specs.Edges.{Edge, lane, front, back, In}
use Rattle.uses.specs.Layout.{place, places}

module _ (h : House) where
  -- the steps of the aisles come before all passages
  lane_below : (a y : ℕ) → In h (lane a y) → place h (lane a y) < h.aisles * h.deep
  lane_below a y (i, j) = digits_lt i j

  pub place_below : (e : Edge) → In h e → place h e < places h
  place_below (lane a y) i = omega (arith, lane_below a y i)
  place_below (front a) i = omega arith
  place_below (back a) i = omega arith

  lane_alone : (a b y z : ℕ) → y < h.deep → z < h.deep → place h (lane a y) ≡ place h (lane b z) → lane a y ≡ lane b z
  lane_alone a b y z i j e =
      let p : a ≡ b = sym (digits_div a i) ∙ ap (λ n. n / h.deep) e ∙ digits_div b j in
      let q : y ≡ z = sym (digits_mod a i) ∙ ap (λ n. n % h.deep) e ∙ digits_mod b j in
      λ k. lane (p k) (q k)

  pub place_alone : (e x : Edge) → In h e → In h x → place h e ≡ place h x → e ≡ x
  place_alone (lane a y) (lane b z) i j e = lane_alone a b y z i.1 j.1 e
  place_alone (lane a y) (front b) i j e = absurd (omega (arith, lane_below a y i))
  place_alone (lane a y) (back b) i j e = absurd (omega (arith, lane_below a y i))
  place_alone (front a) (lane b z) i j e = absurd (omega (arith, lane_below b z j))
  place_alone (front a) (front b) i j e = ap front (omega arith)
  place_alone (front a) (back b) i j e = absurd (omega arith)
  place_alone (back a) (lane b z) i j e = absurd (omega (arith, lane_below b z j))
  place_alone (back a) (front b) i j e = absurd (omega arith)
  place_alone (back a) (back b) i j e = ap back (omega arith)

  -- in a house within the bounds
  module _ (i : h.aisles ≤ 64) (j : h.deep ≤ 200) where
    pub lanes_few : h.aisles * h.deep ≤ 12800
    lanes_few = mul-le-mul i j

    pub places_few : places h ≤ 12926
    places_few = omega (arith, lanes_few)
