-- A walk that grows at one end and is finished from the other: what each turn keeps, and what it tells where it is stuck. Assumes nothing.
use Rattle.std.proofs.Common.{◌≡◌, ℕ, ◌+◌, ◌⊎◌, sym, refl, subst, inl, inr, arith}
use native.Mathlib.Decide.{dec_lt}
use Rattle.graph.specs.Graph.{Graph, Laws, Ends, Linked, here, along, Trail, stay, on, one}
use Rattle.graph.specs.Trails.{walked, passes, Balanced, Eulerian}
use Rattle.graph.proofs.Indicator.{indicator_yes, indicator_holds}
use Rattle.graph.proofs.Splice.{join, walked_join}
use Rattle.graph.proofs.Sums.{sum_monotone, degree_at_start, degree_at_end}
use Rattle.graph.proofs.Walked.{walked_is_eulerian, touched_passed, passes_start}

module _ (G : Graph) where
  -- the stack goes from s to x and the finished tail from o to t; at the spots of the tail, but for o, nothing is left over
  pub record Halfway {s x o t : G.Spot} (stack : Trail G s x) (tail : Trail G o t) (u left : G.Edge → ℕ) : Type 0 where
    pub splits : (e : G.Edge) → G.In e → u e ≡ walked G stack e + walked G tail e + left e
    pub finished : (y : G.Spot) → passes G tail y → ¬ (y ≡ o) → G.deg left y ≡ 0

  pub halfway_none : (s t : G.Spot) (u : G.Edge → ℕ) → Halfway {s = s} {o = t} stay stay u u
  unfolding walked passes
  halfway_none s t u = record { splits = λ e i. omega arith; finished = λ y same other. absurd (other (sym same)) }

  -- a trail with one step in front passes where the step begins, and what it passed
  passes_front : {x o t : G.Spot} (e : G.Edge) (i : G.In e) (ends : Ends G e x o) (b : Trail G o t) (y : G.Spot) →
      passes G (join G (on stay e i ends) b) y → (x ≡ y) ⊎ passes G b y
  unfolding join passes
  passes_front e i ends stay y (inl same) = inr same
  passes_front e i ends stay y (inr same) = inl same
  passes_front e i ends (on b f j more) y (inl same) = inr (inl same)
  passes_front e i ends (on b f j more) y (inr p) = elim (passes_front e i ends b y p) [ inl same ↦ inl same | inr q ↦ inr (inr q) ]

  walked_front : {x o t : G.Spot} (e : G.Edge) (i : G.In e) (ends : Ends G e x o) (b : Trail G o t) (y : G.Edge) →
      walked G (join G (on stay e i ends) b) y ≡ one G e y + walked G b y
  unfolding walked
  walked_front e i ends b y = omega (arith, walked_join G (on stay e i ends) b y)

  -- the top of the stack becomes the first step of the tail, where nothing is left over between them
  pub halfway_off :
      {s x o t : G.Spot} {a : Trail G s x} {b : Trail G o t} {u left : G.Edge → ℕ} (e : G.Edge) (i : G.In e) (ends : Ends G e x o) →
      G.deg left o ≡ 0 → Halfway (on a e i ends) b u left → Halfway a (join G (on stay e i ends) b) u left
  unfolding walked
  halfway_off {x = x} {o} {a = a} {b} {left = left} e i ends stuck half =
      record {
        splits = λ y j. omega (arith, half.splits y j, walked_front e i ends b y);
        finished = λ y p other. at y other (passes_front e i ends b y p);
      }
    where
      at : (y : G.Spot) → ¬ (y ≡ x) → (x ≡ y) ⊎ passes G b y → G.deg left y ≡ 0
      at y other (inl same) = absurd (other (sym same))
      at y other (inr p) = elim (G.spot_dec y o) [ yes same ↦ subst (λ z. G.deg left z ≡ 0) (sym same) stuck | no z ↦ half.finished y p z ]

module _ (G : Graph) {size : (G.Edge → ℕ) → ℕ} (laws : Laws G size) where
  -- a step onto a use that was left over
  pub halfway_on :
      {s x v o t : G.Spot} {a : Trail G s x} {b : Trail G o t} {u left less : G.Edge → ℕ} (e : G.Edge) (i : G.In e) (ends : Ends G e x v) →
      ((y : G.Edge) → G.In y → left y ≡ less y + one G e y) → Halfway G a b u left → Halfway G (on a e i ends) b u less
  unfolding walked
  halfway_on {left = left} {less} e i ends taken half =
      record {
        splits = λ y j. omega (arith, half.splits y j, taken y j);
        finished = λ y p other. omega (arith, half.finished y p other, sum_monotone G (laws.degree y) less left (λ z j. omega (arith, taken z j)));
      }

  module _ {s x o t : G.Spot} {a : Trail G s x} {b : Trail G o t} {u left : G.Edge → ℕ} (half : Halfway G a b u left) where
    degree_splits : (y : G.Spot) → G.deg u y ≡ G.deg (walked G a) y + G.deg (walked G b) y + G.deg left y
    degree_splits y =
        let both = λ (e : G.Edge). walked G a e + walked G b e in
        omega (arith, (laws.degree y).add both left u half.splits, (laws.degree y).add (walked G a) (walked G b) both (λ e i. refl))

    -- where uses are balanced, one is stuck only where the tail begins
    pub stuck_at_tail : Balanced G u s t → G.deg left x ≡ 0 → o ≡ x
    stuck_at_tail even stuck =
        indicator_holds
        (G.spot_dec o x)
        (omega (
          arith,
          even x,
          degree_splits x,
          (walked_is_eulerian G laws a).even x,
          (walked_is_eulerian G laws b).even x,
          indicator_yes (G.spot_dec x x) refl,
        ))

  -- where a whole tail is finished and Eulerian uses were begun with, nothing is left over
  module _ {s t : G.Spot} {b : Trail G s t} {u left : G.Edge → ℕ} (half : Halfway G {s = s} stay b u left) (stuck : G.deg left s ≡ 0) where
    done_at : (y : G.Spot) → passes G b y → G.deg left y ≡ 0
    done_at y p = elim (G.spot_dec y s) [ yes same ↦ subst (λ z. G.deg left z ≡ 0) (sym same) stuck | no z ↦ half.finished y p z ]

    unused_at : {y z : G.Spot} (e : G.Edge) → G.In e → Ends G e y z → passes G b y → left e ≡ 0
    unused_at {y} e i ends p =
        elim (dec_lt 0 (left e)) [ yes q ↦ absurd (omega (arith, done_at y p, degree_at_start G laws left e i q ends)) | no q ↦ omega arith ]

    -- the tail passes every spot that is linked with its start
    all_passed : {y : G.Spot} → Linked G u s y → passes G b y
    unfolding walked
    all_passed here = passes_start G b
    all_passed (along {v = v} l e i p ends) =
        touched_passed G laws b v
        (degree_at_end G laws (walked G b) e i (omega (arith, half.splits e i, unused_at e i ends (all_passed l))) ends)

    pub nothing_left : Eulerian G u s t → (e : G.Edge) → G.In e → left e ≡ 0
    nothing_left euler e i =
        elim (dec_lt 0 (left e)) [
          | yes q ↦
              let link = euler.held (G.src e) (degree_at_start G laws u e i (omega (arith, half.splits e i)) (inl (refl, refl))) in
              unused_at e i (inl (refl, refl)) (all_passed link)
          | no q ↦ omega arith
        ]
