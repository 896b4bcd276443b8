-- Runs in an aisle, deeper and towards the front way, and along one passage. Assumes nothing.
use Rattle.std.proofs.Common.{◌≡◌, ℕ, zero, suc, ◌+◌, ◌-◌, ◌*◌, ◌<◌, ◌≤◌, List, length, get_or, take, drop, Some, sym, ap, ◌∙◌, subst, arith, length-take, length-drop, get_or-take}
use Rattle.std.proofs.lemmas.List.{get_or-drop}
use native.Mathlib.Decide.{dec_lt}
use Rattle.house.specs.House.{House, Spot, spot}
use Rattle.walk.specs.Walk.{Goes, byte_of}
use Rattle.walk.specs.Steps.{landing}
use Rattle.walk.proofs.Lands.{landing_of_step}
use Rattle.uses.specs.Edges.{lane}
use Rattle.uses.specs.Layout.{places}
use Rattle.uses.specs.Looking.{Sees}
use Rattle.uses.proofs.Places.{place_below}
use Rattle.euler.specs.Choosing.{Opens}
use Rattle.euler.specs.Passing.{Leads}

module _ (h : House) where
  sees_deeper : {a y z e : ℕ} → a < h.aisles → y < h.deep → z ≡ suc y → e ≡ a * h.deep + y → Sees h (spot a y) 0 e (spot a z)
  unfolding byte_of
  sees_deeper {a} {y} i j next here =
      record {
        leads = (landing_of_step {h = h} (Goes.inward i j)).leads ∙ ap (λ (d : ℕ). Some (spot a d)) (sym next);
        entry_is = here;
        stays = λ w. (omega (arith, place_below h (lane a y) (i, j)), record { aisle_in = i; depth_in = omega arith });
      }

  sees_shallower : {a y z e : ℕ} → a < h.aisles → y < h.deep → z ≡ suc y → e ≡ a * h.deep + y → Sees h (spot a z) 1 e (spot a y)
  unfolding byte_of
  sees_shallower {a} {y} i j next here =
      record {
        leads = ap (λ (d : ℕ). landing h (spot a d) 1) next ∙ (landing_of_step {h = h} (Goes.outward i j)).leads;
        entry_is = omega arith;
        stays = λ w. (omega (arith, place_below h (lane a y) (i, j)), record { aisle_in = i; depth_in = omega arith });
      }

  -- the last place of an aisle
  pub lane_fits : (a y : ℕ) → a < h.aisles → y ≤ h.deep → 0 < h.deep → a * h.deep + y ≤ places h
  lane_fits a y i j some = let last = h.deep - 1 in omega (arith, place_below h (lane a last) (i, omega arith))

  module _ {left : List ℕ} (a y at long : ℕ) (here : at ≡ a * h.deep + y) (i : a < h.aisles) where
    pub leads_deeper :
        y + long ≤ h.deep → ((k : ℕ) → at ≤ k → k < at + long → 0 < get_or left k 0) → Leads h left 0 long (λ j. spot a (y + j)) (λ j. at + j)
    leads_deeper fits used =
        record {
          sees = λ j l. sees_deeper i (omega arith) (omega arith) (omega arith);
          left_over = λ j l. used (at + j) (omega arith) (omega arith);
          apart = λ j k l m e. omega arith;
        }

    pub leads_shallower :
        y ≤ h.deep → long ≤ y → ((k : ℕ) → at - long ≤ k → k < at → 0 < get_or left k 0) →
        Leads h left 1 long (λ j. spot a (y - j)) (λ j. at - 1 - j)
    leads_shallower fits short used =
        record {
          sees = λ j l. sees_shallower i (omega arith) (omega arith) (omega arith);
          left_over = λ j l. used (at - 1 - j) (omega arith) (omega arith);
          apart = λ j k l m e. omega arith;
        }

-- one step, and where it leads
abbrev pub hop : Spot → Spot → ℕ → Spot
hop s t zero = s
hop s t (suc i) = t

pub leads_once : {h : House} {left : List ℕ} {s t : Spot} {b entry : ℕ} → Opens h left s b entry t → Leads h left b 1 (hop s t) (λ j. entry + j)
leads_once {h} {left} {s} {t} {b} {entry} opens =
    record {
      sees = sees;
      left_over = λ j l. let e : entry ≡ entry + j = omega arith in omega (arith, opens.left_over, ap (λ (k : ℕ). get_or left k 0) e);
      apart = λ i j l m e. omega arith;
    }
  where
    sees : (i : ℕ) → i < 1 → Sees h (hop s t i) b (entry + i) (hop s t (suc i))
    sees zero l = let e : entry ≡ entry + 0 = omega arith in subst (λ k. Sees h s b k t) e opens.seen
    sees (suc i) l = absurd (omega arith)

-- an element of a part
pub part_at : (left : List ℕ) (i n k : ℕ) → k < n → get_or (take n (drop i left)) k 0 ≡ get_or left (i + k) 0
part_at left i n k l = get_or-take n (drop i left) k 0 l ∙ get_or-drop i left k 0

-- a part of what is left over, from place i on and before j
module _ (left : List ℕ) (i j r : ℕ) (fits : j ≤ length left) where
  abbrev pub part : List ℕ
  part = take (j - i) (drop i left)

  pub length_part : length part ≡ j - i
  length_part = omega (arith, length-take (j - i) (drop i left), length-drop i left)

  module _ (within : r ≤ length part) where
    pub first_used : ((k : ℕ) → k < r → 0 < get_or part k 0) → (k : ℕ) → i ≤ k → k < i + r → 0 < get_or left k 0
    first_used used k l m =
        let e : i + (k - i) ≡ k = omega arith in
        omega (arith, used (k - i) (omega arith), part_at left i (j - i) (k - i) (omega (arith, length_part)), ap (λ (z : ℕ). get_or left z 0) e)

    pub last_used : ((k : ℕ) → length part - r ≤ k → k < length part → 0 < get_or part k 0) → (k : ℕ) → j - r ≤ k → k < j → 0 < get_or left k 0
    last_used used k l m =
        let e : i + (k - i) ≡ k = omega (arith, length_part) in
        omega (arith, used (k - i) (omega (arith, length_part)) (omega (arith, length_part)), part_at left i (j - i) (k - i) (omega (arith, length_part)), ap (λ (z : ℕ). get_or left z 0) e)

  -- where something is left over at the first place, or at the last, a run does not stop there
  pub first_some : i < j → 0 < get_or left i 0 → (r < length part → get_or part r 0 ≡ 0) → 0 < r
  first_some some used stops =
      elim (dec_lt 0 r) [
        | yes l ↦ l
        | no l ↦
            let e : i + r ≡ i = omega arith in
            absurd (omega (arith, stops (omega (arith, length_part)), part_at left i (j - i) r (omega arith), ap (λ (z : ℕ). get_or left z 0) e))
      ]

  pub last_some : i < j → 0 < get_or left (j - 1) 0 → (r < length part → get_or part (length part - 1 - r) 0 ≡ 0) → 0 < r
  last_some some used stops =
      elim (dec_lt 0 r) [
        | yes l ↦ l
        | no l ↦
            let k = length part - 1 - r in
            let e : i + k ≡ j - 1 = omega (arith, length_part) in
            absurd (omega (arith, stops (omega (arith, length_part)), part_at left i (j - i) k (omega (arith, length_part)), ap (λ (z : ℕ). get_or left z 0) e))
      ]
