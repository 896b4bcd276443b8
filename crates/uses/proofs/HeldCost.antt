-- The cost of the uses in a slice: the steps of all aisles stand first and together, then the passages. Assumes nothing.
use Rattle.std.proofs.Common.{◌≡◌, ℕ, zero, suc, ◌+◌, ◌-◌, ◌*◌, ◌≤◌, List, length, get_or, take, drop, sum, sym, refl, ap, ◌∙◌, suc-mul, add-one, arith, length-drop, get_or-drop}
use Rattle.std.proofs.lemmas.List.Sums.{sum_by_more}
use Rattle.house.specs.House.{House}
use Rattle.uses.specs.Held.{held, cost_in, aisles_cost, passages_in}
use Rattle.uses.specs.Layout.{places, uses_in}
use Rattle.uses.specs.Uses.{span, cost}
use Rattle.uses.proofs.Span.{span_sum}

module _ (us : List ℕ) where
  pub held_none : (start : ℕ) → held us start 0 ≡ 0
  unfolding held span
  held_none start = refl

  pub held_more : (start n : ℕ) → held us start (n + 1) ≡ held us start n + get_or us (start + n) 0
  unfolding held span
  held_more start n = rw add-one (omega arith)

  -- the places of two stretches, one after the other
  pub held_both : (start m n : ℕ) → held us start (m + n) ≡ held us start m + held us (start + m) n
  held_both start m zero = let e : m + 0 ≡ m = omega arith in omega (arith, ap (held us start) e, held_none (start + m))
  held_both start m (suc n) =
      let e : m + suc n ≡ (m + n) + 1 = omega arith in
      let f : suc n ≡ n + 1 = omega arith in
      let g : start + (m + n) ≡ start + m + n = omega arith in
      omega (
        arith,
        ap (held us start) e,
        ap (held us (start + m)) f,
        ap (λ (k : ℕ). get_or us k 0) g,
        held_more start (m + n),
        held_more (start + m) n,
        held_both start m n,
      )

  -- aisle after aisle
  held_aisles : (deep n : ℕ) → span (λ a. held us (a * deep) deep) n ≡ held us 0 (n * deep)
  unfolding span
  held_aisles deep zero = let e : 0 * deep ≡ 0 = omega arith in sym (ap (held us 0) e ∙ held_none 0)
  held_aisles deep (suc n) =
      let e : 0 + n * deep ≡ n * deep = omega arith in
      omega (
        arith,
        held_aisles deep n,
        held_both 0 (n * deep) deep,
        ap (held us 0) (suc-mul n deep),
        ap (λ (k : ℕ). held us k deep) e,
      )

  -- the front and the back, n passages each
  held_sides : (start n : ℕ) → span (λ a. get_or us (start + a) 0 + get_or us (start + n + a) 0) n ≡ held us start n + held us (start + n) n
  unfolding held
  held_sides start n = span_sum (λ a. get_or us (start + a) 0) (λ a. get_or us (start + n + a) 0) _ n (λ i l. refl)

  held_lanes : (h : House) → span (λ a. span ((uses_in h us).aisle a) h.deep) h.aisles ≡ span (λ a. held us (a * h.deep) h.deep) h.aisles
  unfolding held
  held_lanes h = refl

  pub cost_held : (h : House) → cost_in h us ≡ cost h (uses_in h us)
  unfolding cost
  cost_held h =
      let start = h.aisles * h.deep in
      let n = h.aisles - 1 in
      let twice : n + n ≡ 2 * n = omega arith in
      omega (
        arith,
        held_lanes h ∙ held_aisles h.deep h.aisles,
        ap (λ (k : ℕ). h.apart * k) (held_sides start n ∙ sym (held_both start n n) ∙ ap (held us start) twice),
      )

  -- all uses together
  pub count_held : (h : House) → aisles_cost h us + passages_in h us ≡ held us 0 (places h)
  count_held h =
      let m = h.aisles * h.deep in
      let n = h.aisles - 1 in
      let e : places h ≡ m + 2 * n = omega arith in
      let z : 0 + m ≡ m = omega arith in
      sym (ap (held us 0) e ∙ held_both 0 m (2 * n) ∙ ap (λ (k : ℕ). held us 0 m + held us k (2 * n)) z)

  -- as the code adds them up
  pub held_sum : (start n : ℕ) → start + n ≤ length us → held us start n ≡ sum (take n (drop start us))
  held_sum start zero l = held_none start
  held_sum start (suc n) l =
      let e : suc n ≡ n + 1 = omega arith in
      omega (
        arith,
        ap (held us start) e,
        held_more start n,
        held_sum start n (omega arith),
        ap (λ (k : ℕ). sum (take k (drop start us))) e,
        sum_by_more (λ (x : ℕ). x) (drop start us) n 0 (omega (arith, length-drop start us)),
        get_or-drop start us n 0,
      )

  module _ (h : House) (room : places h ≤ length us) where
    pub aisles_sum : sum (take (h.aisles * h.deep) us) ≡ aisles_cost h us
    aisles_sum = sym (held_sum 0 (h.aisles * h.deep) (omega arith))

    pub passages_sum : sum (take (2 * (h.aisles - 1)) (drop (h.aisles * h.deep) us)) ≡ passages_in h us
    passages_sum = sym (held_sum (h.aisles * h.deep) (2 * (h.aisles - 1)) (omega arith))
