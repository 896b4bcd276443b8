-- A list that no rule refuses fits its house: two bytes for each of at most 512 picks, each in an aisle and on a shelf. Assumes nothing.
use Rattle.std.proofs.Common.{◌≡◌, ℕ, ◌-◌, ◌*◌, ◌%◌, ◌<◌, ◌≤◌, Bool, true, false, eqb, leb, List, length, get_or, Some, None, Option, refl, arith, eqb-true, leb-true, length-drop, length-take}
use Rattle.std.proofs.lemmas.Bool.{and_parts}
use Rattle.std.proofs.lemmas.Bool.Decides.{nat_tests}
use Rattle.house.specs.House.{Spot, desk}
use Rattle.house.specs.Bounds.{picks_of, Whole, InAisles, OnShelves}
use Rattle.house.specs.Rules.{or_else, unless, size_rule, aisle_rule, shelf_rule, at_pick, absent, outside}
use Rattle.house.specs.Reading.{count_in, claimed_list, count_rule}
use Rattle.house.specs.declared.refusal.Refusal.{Refusal}
use Rattle.house.specs.declared.refusal.Refusal.TheVariants.{NoAisle, NoShelf}
use Rattle.house.proofs.Found.{Finds, first_finds}
use Rattle.house.proofs.Pairs.{picks_count}

-- a rule that does not refuse passed its test
passed : (test : Bool) (e : Refusal) → unless test e ≡ None → test ≡ true
passed true e kept = refl
passed false e kept = absurd (cc)

-- of two rules that do not refuse, the second does not
second : (first next : Option Refusal) → or_else first next ≡ None → next ≡ None
second None next kept = kept
second (Some e) next kept = absurd (cc)

pub list_sized : (list : List ℕ) → size_rule list ≡ None → Whole list × (length list ≤ 1024)
list_sized list kept = from (and_parts _ _ (passed _ _ kept))
  where
    from : (eqb (length list % 2) 0 ≡ true) × (leb (length list) 1024 ≡ true) → Whole list × (length list ≤ 1024)
    from (even, short) = (omega (arith, eqb-true _ _ even, picks_count list), leb-true _ _ short)

pub claim_sized : (file : List ℕ) → count_rule file ≡ None → Whole (claimed_list file) × (length (claimed_list file) ≤ 1024)
claim_sized file kept = from (and_parts _ _ (passed _ _ (second _ _ kept)))
  where
    cut : 2 * count_in file ≤ length file - 5 → length (claimed_list file) ≡ 2 * count_in file
    cut there = simp (length-take, length-drop) (omega arith)

    from : (leb (2 * count_in file) 1024 ≡ true) × (leb (2 * count_in file) (length file - 5) ≡ true) → Whole (claimed_list file) × (length (claimed_list file) ≤ 1024)
    from (few, there) =
        let n = cut (leb-true _ _ there) in
        (omega (arith, picks_count (claimed_list file)), omega (arith, leb-true _ _ few))

-- where a rule at each pick refuses none, its test finds none
none_found : (test : Spot → Bool) (refusal : ℕ → Refusal) (picks : List Spot) (o : Option ℕ) → Finds test 0 picks o → at_pick refusal o ≡ None → (i : ℕ) → i < length picks → test (get_or picks i desk) ≡ false
none_found test refusal picks None f e = f
none_found test refusal picks (Some n) f e = absurd (cc)

pub kept_in_aisles : (aisles : ℕ) (list : List ℕ) → aisle_rule aisles list ≡ None → InAisles aisles list
kept_in_aisles aisles list kept i h =
    let fails = none_found (absent aisles) NoAisle (picks_of list) _ (first_finds (absent aisles) 0 (picks_of list)) kept i h in
    grind (arith, nat_tests)

pub kept_on_shelves : (deep : ℕ) (list : List ℕ) → shelf_rule deep list ≡ None → OnShelves deep list
kept_on_shelves deep list kept i h =
    let fails = none_found (outside deep) NoShelf (picks_of list) _ (first_finds (outside deep) 0 (picks_of list)) kept i h in
    (grind (arith, nat_tests), grind (arith, nat_tests))
