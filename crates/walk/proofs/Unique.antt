-- Between two spots there is one walk with a given row of step bytes. Assumes nothing.
use Rattle.std.proofs.Common.{◌≡◌, ℕ, suc, ◌-◌, ◌<◌, List, [], ◌∷◌, ◌++◌, length, get_or, Some, None, Option, sym, refl, ap, ◌∙◌, subst, arith, length-append}
use mathlib.Core.Path.{PathP}
use mathlib.Core.HLevel.{hedberg}
use native.Mathlib.Bridge.{le_prop}
use native.Mathlib.Decide.{dec_lt, ℕ_discrete}
use Rattle.house.specs.House.{House, Spot, spot}
use Rattle.walk.specs.Walk.{Goes, byte_of, Walk, steps_of}
use Rattle.walk.specs.Promise.{BytesTellTheWalk}

-- a step with its ends
record Leg (h : House) : Type 0 where
  from : Spot
  to : Spot
  far : ℕ
  step : Goes h from to far

abbrev leg : {h : House} {s t : Spot} {n : ℕ} → Goes h s t n → Leg h
leg {h} {s} {t} {n} g = record { from = s; to = t; far = n; step = g }

-- what f makes of a proof that m < n, where there is one
if_less : {A : Type 0} (m n : ℕ) → (m < n → Option A) → Option A
if_less m n f = elim (dec_lt m n) [ yes k ↦ f k | no k ↦ None ]

if_less_is : {A : Type 0} (m n : ℕ) (f : m < n → Option A) (k : m < n) → if_less m n f ≡ f k
unfolding if_less
if_less_is m n f k = elim (dec_lt m n) as (λ d. elim d [ yes l ↦ f l | no l ↦ None ] ≡ f k) [ yes l ↦ ap f (le_prop l k) | no l ↦ absurd (l k) ]

-- a step inside aisle a between depth y and the next, and a passage between aisle a and the next, where there is one
module _ {h : House} where
  inner : ((a y : ℕ) → a < h.aisles → y < h.deep → Leg h) → ℕ → ℕ → Option (Leg h)
  inner f a y = if_less a h.aisles (λ i. if_less y h.deep (λ j. Some (f a y i j)))

  inner_is : (f : (a y : ℕ) → a < h.aisles → y < h.deep → Leg h) {a y z : ℕ} (i : a < h.aisles) (j : y < h.deep) → z ≡ y → inner f a z ≡ Some (f a y i j)
  unfolding inner
  inner_is f {a} {y} i j e = ap (inner f a) e ∙ if_less_is a h.aisles (λ k. if_less y h.deep (λ l. Some (f a y k l))) i ∙ if_less_is y h.deep (λ l. Some (f a y i l)) j

  passage : ((a : ℕ) → suc a < h.aisles → Leg h) → ℕ → Option (Leg h)
  passage f a = if_less (suc a) h.aisles (λ i. Some (f a i))

  passage_is : (f : (a : ℕ) → suc a < h.aisles → Leg h) {a b : ℕ} (i : suc a < h.aisles) → b ≡ a → passage f b ≡ Some (f a i)
  unfolding passage
  passage_is f {a} i e = ap (passage f) e ∙ if_less_is (suc a) h.aisles (λ k. Some (f a k)) i

-- the step with this byte from this spot, where there is one
leg_at : (h : House) → Spot → ℕ → Option (Leg h)
leg_at h s b =
    get_or
    (inner (λ a y i j. leg (Goes.inward i j)) s.aisle s.depth
    ∷ inner (λ a y i j. leg (Goes.outward i j)) s.aisle (s.depth - 1)
    ∷ passage (λ a i. leg (Goes.front_on i)) s.aisle
    ∷ passage (λ a i. leg (Goes.front_off i)) (s.aisle - 1)
    ∷ passage (λ a i. leg (Goes.back_on i)) s.aisle
    ∷ passage (λ a i. leg (Goes.back_off i)) (s.aisle - 1)
    ∷ [])
    b
    None

leg_at_step : {h : House} {s t : Spot} {n : ℕ} (g : Goes h s t n) → leg_at h s (byte_of g) ≡ Some (leg g)
unfolding leg_at byte_of
leg_at_step (Goes.inward i j) = inner_is _ i j refl
leg_at_step (Goes.outward i j) = inner_is _ i j (omega arith)
leg_at_step (Goes.front_on i) = passage_is _ i refl
leg_at_step (Goes.front_off i) = passage_is _ i (omega arith)
leg_at_step (Goes.back_on i) = passage_is _ i refl
leg_at_step (Goes.back_off i) = passage_is _ i (omega arith)

-- a step is known by where it begins and by its byte
leg_by_byte : {h : House} {s s' t t' : Spot} {n n' : ℕ} (g : Goes h s t n) (g' : Goes h s' t' n') → s ≡ s' → byte_of g ≡ byte_of g' → leg g ≡ leg g'
leg_by_byte {h} {s} g g' e f = cc (leg_at_step g, leg_at_step g', e, f)

pub spot_discrete : Discrete Spot
spot_discrete s t =
    elim (ℕ_discrete s.aisle t.aisle) [
      | yes e ↦ elim (ℕ_discrete s.depth t.depth) [ yes f ↦ yes (λ i. spot (e i) (f i)) | no k ↦ no (λ e. k (ap (λ (q : Spot). q.depth) e)) ]
      | no k ↦ no (λ e. k (ap (λ (q : Spot). q.aisle) e))
    ]

-- an equation between walks along one equation of their ends is one along any
along_ends : {h : House} {s t u : Spot} {w : Walk h s t} {v : Walk h s u} (e f : t ≡ u) → PathP (λ i. Walk h s (e i)) w v → PathP (λ i. Walk h s (f i)) w v
along_ends {h} {s} {t} {u} {w} {v} e f = subst (λ (k : t ≡ u). PathP (λ i. Walk h s (k i)) w v) (hedberg spot_discrete t u e f)

-- a walk with its end
record Ended (h : House) (s : Spot) : Type 0 where
  end : Spot
  walk : Walk h s end

abbrev ended : {h : House} {s t : Spot} → Walk h s t → Ended h s
ended {t = t} w = record { end = t; walk = w }

ended_on : {h : House} {s t u t' u' : Spot} {n n' : ℕ} (w : Walk h s t) (v : Walk h s t') (g : Goes h t u n) (g' : Goes h t' u' n') → ended w ≡ ended v → byte_of g ≡ byte_of g' → ended (Walk.on w g) ≡ ended (Walk.on v g')
ended_on w v g g' e f =
    let ends = ap (λ (x : Ended _ _). x.end) e in
    let l = leg_by_byte g g' ends f in
    let walks = along_ends {w = w} {v = v} ends (ap (λ (x : Leg _). x.from) l) (λ i. (e i).walk) in
    λ i. record { end = (l i).to; walk = Walk.on (walks i) (l i).step }

-- a row with one more byte at its end is not empty, and tells the row and the byte
never_empty : (xs : List ℕ) (x : ℕ) → [] ≡ xs ++ (x ∷ []) → ⊥
never_empty xs x e = omega (arith, simp length-append at (ap length e))

last_of : {x y : ℕ} (xs ys : List ℕ) → xs ++ (x ∷ []) ≡ ys ++ (y ∷ []) → (xs ≡ ys) × (x ≡ y)
last_of {x} {y} [] [] e = (refl, cc)
last_of {x} {y} [] (b ∷ ys) e = absurd (never_empty ys y (cc))
last_of {x} {y} (a ∷ xs) [] e = absurd (never_empty xs x (cc))
last_of {x} {y} (a ∷ xs) (b ∷ ys) e = let k : xs ++ (x ∷ []) ≡ ys ++ (y ∷ []) = cc in let r = last_of xs ys k in (cc r.0, r.1)

same_ended : {h : House} {s t u : Spot} (w : Walk h s t) (v : Walk h s u) → steps_of w ≡ steps_of v → ended w ≡ ended v
unfolding steps_of
same_ended (Walk.stay) (Walk.stay) e = refl
same_ended (Walk.stay) (Walk.on v g) e = absurd (never_empty (steps_of v) (byte_of g) e)
same_ended (Walk.on w g) (Walk.stay) e = absurd (never_empty (steps_of w) (byte_of g) (sym e))
same_ended (Walk.on w g) (Walk.on v g') e = let r = last_of (steps_of w) (steps_of v) e in ended_on w v g g' (same_ended w v r.0) r.1

pub walk_unique : {h : House} {s t : Spot} (w v : Walk h s t) → steps_of w ≡ steps_of v → w ≡ v
walk_unique w v e = let r = same_ended w v e in along_ends (ap (λ (x : Ended _ _). x.end) r) refl (λ i. (r i).walk)

pub bytes_tell_the_walk : BytesTellTheWalk
bytes_tell_the_walk = (λ h s t u w v e. ap (λ (x : Ended h s). x.end) (same_ended w v e), λ h s t w v e. walk_unique w v e)
