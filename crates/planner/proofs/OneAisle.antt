-- What is used of one aisle: the degrees within it, and the links over used steps to its front and to its back. Assumes nothing.
use Rattle.std.proofs.Common.{◌≡◌, ℕ, zero, suc, ◌+◌, ◌-◌, ◌<◌, ◌≤◌, eqb, refl, ap, ◌∙◌, inl, inr, arith}
use Rattle.graph.specs.Graph.{Linked, here}
use Rattle.graph.proofs.Links.{linked_by, linked_same, linked_trans}
use Rattle.house.specs.House.{House, spot}
use Rattle.uses.specs.Edges.{Edge, lane, front, back, uses_of, degree, house_graph}
use Rattle.uses.proofs.Degree.{way, meet_lines, degree_inside}
use Rattle.uses.proofs.Lines.{line, before, line_zero}
use Rattle.uses.proofs.Picks.{pick_lt, pick_ge, pick_zero}
use Rattle.planner.proofs.Stretch.{uses_in, uses_inside, uses_outside}

-- the uses that meet at the first place of a line, at the last, and between
line_first : (f : ℕ → ℕ) (n : ℕ) → 0 < n → line f n 0 ≡ f 0
unfolding line before
line_first f n some = omega (arith, pick_lt 0 n (f 0) 0 some)

line_last : (f : ℕ → ℕ) (n : ℕ) → line f (suc n) (suc n) ≡ f n
unfolding line before
line_last f n = omega (arith, pick_ge (suc n) (suc n) (f (suc n)) 0 (omega arith))

line_inside : (f : ℕ → ℕ) (n k : ℕ) → suc k < n → line f n (suc k) ≡ f k + f (suc k)
unfolding line before
line_inside f n k l = omega (arith, pick_lt (suc k) n (f (suc k)) 0 l)

module _ (h : House) (a : ℕ) (f : Edge → ℕ) where
  -- what is used of aisle a
  abbrev its_uses : Edge → ℕ
  its_uses = uses_in h a (suc a) f

  pub its_step : (y : ℕ) → its_uses (lane a y) ≡ f (lane a y)
  its_step y = uses_inside h a (suc a) f (lane a y) (omega arith)

  pub no_front : (b : ℕ) → its_uses (front b) ≡ 0
  no_front b = uses_outside h a (suc a) f (front b) (λ l. omega arith)

  pub no_back : (b : ℕ) → its_uses (back b) ≡ 0
  no_back b = uses_outside h a (suc a) f (back b) (λ l. omega arith)

  pub no_other : (b y : ℕ) → ¬ (b ≡ a) → its_uses (lane b y) ≡ 0
  no_other b y n = uses_outside h a (suc a) f (lane b y) (λ l. n (omega arith))

module _ (h : House) (a : ℕ) (f : Edge → ℕ) (i : a < h.aisles) (some_step : 0 < h.deep) where
  abbrev used : Edge → ℕ
  used = its_uses h a f

  way_unused : (d : ℕ) (g : ℕ → ℕ) → ((b : ℕ) → g b ≡ 0) → (y : ℕ) → way h d g a y ≡ 0
  way_unused d g none y = pick_zero (eqb y d) _ (line_zero g (h.aisles - 1) none a)

  its_degree : (y : ℕ) → y ≤ h.deep → degree h used (spot a y) ≡ line (λ z. used (lane a z)) h.deep y
  its_degree y j =
      omega (
        arith,
        degree_inside h used (spot a y) (i, j),
        meet_lines h (uses_of used) a y,
        way_unused 0 (λ b. used (front b)) (no_front h a f) y,
        way_unused h.deep (λ b. used (back b)) (no_back h a f) y,
      )

  pub front_degree : degree h used (spot a 0) ≡ f (lane a 0)
  front_degree = its_degree 0 (omega arith) ∙ line_first (λ z. used (lane a z)) h.deep some_step ∙ its_step h a f 0

  pub back_degree : degree h used (spot a h.deep) ≡ f (lane a (h.deep - 1))
  back_degree = its_degree h.deep (omega arith) ∙ last h.deep some_step ∙ its_step h a f (h.deep - 1)
    where
      last : (n : ℕ) → 0 < n → line (λ z. used (lane a z)) n n ≡ used (lane a (n - 1))
      last zero p = absurd (omega arith)
      last (suc n) p = line_last (λ z. used (lane a z)) n ∙ ap (λ z. used (lane a z)) (omega arith)

  pub inside_degree : (y : ℕ) → suc y < h.deep → degree h used (spot a (suc y)) ≡ f (lane a y) + f (lane a (suc y))
  inside_degree y l =
      omega (arith, its_degree (suc y) (omega arith), line_inside (λ z. used (lane a z)) h.deep y l, its_step h a f y, its_step h a f (suc y))

  -- over used steps a spot is linked with the front, and with the back
  pub to_front : (y : ℕ) → y ≤ h.deep → ((z : ℕ) → z < y → 0 < f (lane a z)) → Linked (house_graph h) used (spot a y) (spot a 0)
  to_front zero j all = here
  to_front (suc y) j all =
      linked_trans (house_graph h)
      (linked_by (house_graph h) (lane a y) (i, omega arith) (omega (arith, its_step h a f y, all y (omega arith))) (inr (refl, refl)))
      (to_front y (omega arith) (λ z l. all z (omega arith)))

  pub to_back :
      (k y : ℕ) → k + y ≡ h.deep → ((z : ℕ) → y ≤ z → z < h.deep → 0 < f (lane a z)) →
      Linked (house_graph h) used (spot a y) (spot a h.deep)
  to_back zero y j all = linked_same (house_graph h) (ap (spot a) (omega arith))
  to_back (suc k) y j all =
      linked_trans (house_graph h)
      (linked_by (house_graph h) (lane a y) (i, omega arith) (omega (arith, its_step h a f y, all y (omega arith) (omega arith))) (inl (refl, refl)))
      (to_back k (suc y) (omega arith) (λ z l. all z (omega arith)))
