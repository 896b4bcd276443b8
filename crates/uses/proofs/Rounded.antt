-- Uses are round exactly where every spot of the house keeps them so and every pick is seen from the desk. Assumes nothing.
use Rattle.std.proofs.Common.{◌≡◌, ℕ, ◌+◌, ◌%◌, ◌<◌, Bool, true, false, ◌&&◌, ◌||◌, eqb, List, length, get_or, Decides, sym, ap, ◌∙◌, subst, arith, zero-add}
use Rattle.std.specs.List.{list_all, range_with_len}
use Rattle.std.proofs.lemmas.List.Elements.{All-get_or, All-from_get_or}
use Rattle.std.proofs.lemmas.List.FromFn.{get_or-range_with_len, length-range_with_len}
use Rattle.std.proofs.lemmas.List.Sums.{AllPass-from_list_all, list_all-from_AllPass}
use Rattle.std.proofs.lemmas.List.{get_or_default}
use Rattle.std.proofs.lemmas.Bool.Decides.{nat_tests}
use Rattle.house.specs.House.{House, Spot, spot, desk}
use Rattle.house.specs.Bounds.{picks_of, InAisles, OnShelves}
use Rattle.house.specs.Reading.{house_of}
use Rattle.house.specs.declared.layout.House as code
use Rattle.walk.specs.Steps.{Within}
use Rattle.walk.specs.Marking.{has}
use Rattle.uses.specs.Flood.{TellsLinked}
use Rattle.uses.specs.Layout.{uses_in}
use Rattle.uses.specs.Rounding.{meeting, fine, fine_aisle, fine_house, FineAisle, FineHouse, PicksSeen}
use Rattle.uses.specs.Uses.{Round, Linked}
use Rattle.uses.proofs.MeetSteps.{meeting_is}

-- what the test of a spot says of the number n of uses that meet there
from_fine : (n : ℕ) (b : Bool) → (eqb (n % 2) 0 && (eqb n 0 || b)) ≡ true → (n % 2 ≡ 0) × (0 < n → b ≡ true)
from_fine n b e = grind (arith, nat_tests)

to_fine : (n : ℕ) (b : Bool) → n % 2 ≡ 0 → (0 < n → b ≡ true) → (eqb (n % 2) 0 && (eqb n 0 || b)) ≡ true
to_fine n b e f = grind (arith, nat_tests)

-- the picks of a list that fits its house are spots of the house
picks_within : (h : House) (list : List ℕ) → InAisles h.aisles list → OnShelves h.deep list → (i : ℕ) → i < length (picks_of list) → Within h (get_or (picks_of list) i desk)
picks_within h list aisles shelves i l = record { aisle_in = aisles i l; depth_in = omega (arith, (shelves i l).1) }

-- the same of a house that is theirs
pub picks_inside :
    (h k : code.House) (list : List ℕ) → h ≡ k → InAisles k.aisles list → OnShelves k.deep list →
    (i : ℕ) → i < length (picks_of list) → Within (house_of h) (get_or (picks_of list) i desk)
picks_inside h k list same aisles shelves =
    subst (λ (x : code.House). (i : ℕ) → i < length (picks_of list) → Within (house_of x) (get_or (picks_of list) i desk)) (sym same) (picks_within (house_of k) list aisles shelves)

-- a test of all elements, by their places
list_all_tells : {X : Type 0} (p : X → Bool) (xs : List X) (d : X) → Decides (list_all p xs) ((i : ℕ) → i < length xs → p (get_or xs i d) ≡ true)
list_all_tells p xs d = (
  λ e i l. All-get_or (λ x. p x ≡ true) xs i d l (AllPass-from_list_all p xs e),
  λ f. list_all-from_AllPass p xs (All-from_get_or (λ x. p x ≡ true) xs d f),
)

-- a test of all numbers below n
below_tells : (p : ℕ → Bool) (n : ℕ) → Decides (list_all p (range_with_len 0 n)) ((k : ℕ) → k < n → p k ≡ true)
below_tells p n =
    let long = length-range_with_len 0 n in
    let at : (k : ℕ) → k < n → get_or (range_with_len 0 n) k 0 ≡ k = λ k l. get_or-range_with_len 0 n k 0 l ∙ zero-add k in
    let tells = list_all_tells p (range_with_len 0 n) 0 in (
      λ e k l. ap p (sym (at k l)) ∙ tells.0 e k (omega (arith, long)),
      λ f. tells.1 (λ k l. let j : k < n = omega (arith, long) in ap p (at k j) ∙ f k j),
    )

-- the test of the picks
pub seen_decides : (picks : List Spot) (seen : List Bool) {r : Bool} → r ≡ list_all (has seen) picks → Decides r (PicksSeen picks seen)
seen_decides picks seen is =
    let tells = list_all_tells (has seen) picks desk in
    (λ e. tells.0 (sym is ∙ e), λ f. is ∙ tells.1 f)

-- the tests of the spots
module _ (h : House) (us : List ℕ) (seen : List Bool) where
  aisle_tells : (a : ℕ) → Decides (fine_aisle h us seen a) (FineAisle h us seen a)
  aisle_tells a =
      let tells = below_tells (λ y. fine h us seen (spot a y)) (h.deep + 1) in
      (λ e y l. tells.0 e y (omega arith), λ f. tells.1 (λ y l. f y (omega arith)))

  pub house_decides : {r : Bool} → r ≡ fine_house h us seen → Decides r (FineHouse h us seen)
  house_decides is =
      let tells = below_tells (fine_aisle h us seen) h.aisles in
      (λ e a l. (aisle_tells a).0 (tells.0 (sym is ∙ e) a l), λ f. is ∙ tells.1 (λ a l. (aisle_tells a).1 (f a l)))

module _ (h : House) (picks : List Spot) (us : List ℕ) (seen : List Bool) (linked : TellsLinked h us seen) (inside : (i : ℕ) → i < length picks → Within h (get_or picks i desk)) where
  round_house : Round h picks (uses_in h us) → FineHouse h us seen
  round_house r a i y j =
      let s = spot a y in
      let is = meeting_is h us s in
      to_fine (meeting h us s) (has seen s) (omega (arith, is, r.even a y i j))
      (λ p. (linked s (record { aisle_in = i; depth_in = j })).1 (r.used a y i j (omega (arith, is))))

  round_picks : Round h picks (uses_in h us) → PicksSeen picks seen
  round_picks r i l = (linked (get_or picks i desk) (inside i l)).1 (r.picked i desk l)

  round_of : FineHouse h us seen → PicksSeen picks seen → Round h picks (uses_in h us)
  round_of house all = record {
    even = λ a y i j. omega (arith, meeting_is h us (spot a y), (from_fine (meeting h us (spot a y)) (has seen (spot a y)) (house a i y j)).0);
    used = λ a y i j p.
        let s = spot a y in
        (linked s (record { aisle_in = i; depth_in = j })).0 ((from_fine (meeting h us s) (has seen s) (house a i y j)).1 (omega (arith, meeting_is h us s)));
    picked = λ i d l.
        subst (λ s. Linked h (uses_in h us) desk s) (get_or_default picks i desk d l) ((linked (get_or picks i desk) (inside i l)).0 (all i l));
  }

  -- where every spot keeps them round, the picks decide, and else the spots
  pub picks_decide : {r : Bool} → FineHouse h us seen → Decides r (PicksSeen picks seen) → Decides r (Round h picks (uses_in h us))
  picks_decide house d = (λ e. round_of house (d.0 e), λ round. d.1 (round_picks round))

  pub spots_decide : {r : Bool} → r ≡ false → Decides r (FineHouse h us seen) → Decides r (Round h picks (uses_in h us))
  spots_decide e d = (λ f. let z : ◌≡◌ {A = ℕ} 0 1 = cc in absurd (omega arith), λ round. d.1 (round_house round))
