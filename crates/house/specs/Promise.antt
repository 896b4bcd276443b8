-- What is promised of reading, in the words of the subject: each is a statement, a type whose proof is owed. Assumes nothing.
use Rattle.std.specs.Prelude.{◌≡◌, ℕ, ◌+◌, ◌-◌, ◌*◌, ◌%◌, ◌<◌, ◌≤◌, min, ◌⊎◌, List, length, Some, None, Option, slice_index_or}
use Rattle.house.specs.House.{House, Spot, desk, Sound}
use Rattle.house.specs.Bounds.{picks_of}
use Rattle.house.specs.Rules.{number_of, place_of}
use Rattle.house.specs.Reading.{house_in, list_in, count_in, claimed_list, refusal_of, claim_refusal_of}
use Rattle.house.specs.declared.refusal.Refusal.{Refusal}

-- the rules that a house and its picks can break, each with its number and a place where it is broken; rule 4 differs between the two sorts of files
pub data Breaks (h : House) (Missized : ℕ → Type 0) (picks : List Spot) : ℕ → ℕ → Type 0 where
  aisles : (h.aisles < 1) ⊎ (64 < h.aisles) → Breaks h Missized picks 1 0
  deep : (h.deep < 2) ⊎ (200 < h.deep) → Breaks h Missized picks 2 1
  apart : (h.apart < 1) ⊎ (200 < h.apart) → Breaks h Missized picks 3 2
  size : {n : ℕ} → Missized n → Breaks h Missized picks 4 n
  no_aisle : {i : ℕ} → i < length picks → h.aisles ≤ (slice_index_or picks i desk).aisle → Breaks h Missized picks 5 i
  no_shelf : {i : ℕ} → i < length picks → ((slice_index_or picks i desk).depth ≡ 0) ⊎ (h.deep ≤ (slice_index_or picks i desk).depth) → Breaks h Missized picks 6 i

-- a list to the end of the file that is not two bytes for each pick, or has more than 512, is told at its number of bytes
abbrev pub Missized : List ℕ → ℕ → Type 0
Missized list n = (n ≡ length list) × ((length list % 2 ≡ 1) ⊎ (512 < length (picks_of list)))

-- a count that is cut off is told at 0; one above 512, or that asks for more than follows it, at the smaller of what it asks for and what follows
abbrev pub Miscounted : List ℕ → ℕ → Type 0
Miscounted file n =
    ((length file < 5) × (n ≡ 0))
    ⊎ ((5 ≤ length file) × ((512 < count_in file) ⊎ (length file < 5 + 2 * count_in file)) × (n ≡ min (2 * count_in file) (length file - 5)))

-- a refusal names the lowest number of the rules that are broken, and of that rule's places the first; without a refusal none is broken
abbrev pub Tells : (ℕ → ℕ → Type 0) → Option Refusal → Type 0
Tells Broken None = (n p : ℕ) → Broken n p → ⊥
Tells Broken (Some e) = Broken (number_of e) (place_of e) × ((n p : ℕ) → Broken n p → (number_of e < n) ⊎ ((number_of e ≡ n) × (place_of e ≤ p)))

-- a house within the bounds, and at most 512 picks inside it, two bytes for each
pub record Accepted (h : House) (list : List ℕ) : Type 0 where
  pub some_aisle : 1 ≤ h.aisles
  pub few_aisles : h.aisles ≤ 64
  pub some_depth : 2 ≤ h.deep
  pub little_depth : h.deep ≤ 200
  pub some_way : 1 ≤ h.apart
  pub little_way : h.apart ≤ 200
  pub whole : length list ≡ 2 * length (picks_of list)
  pub few : length (picks_of list) ≤ 512
  pub sound : Sound h (picks_of list)

-- reading refuses by the rules, and accepts exactly what keeps them
abbrev pub ReadingIsExact : Type 0
ReadingIsExact =
    (file : List ℕ) →
    Tells (Breaks (house_in file) (Missized (list_in file)) (picks_of (list_in file))) (refusal_of file)
    × (refusal_of file ≡ None → Accepted (house_in file) (list_in file))
    × (Accepted (house_in file) (list_in file) → refusal_of file ≡ None)

-- the same of the house and the list of a claimed way; the count then says how many picks there are
abbrev pub ClaimsAreExact : Type 0
ClaimsAreExact =
    (file : List ℕ) →
    Tells (Breaks (house_in file) (Miscounted file) (picks_of (claimed_list file))) (claim_refusal_of file)
    × (claim_refusal_of file ≡ None → Accepted (house_in file) (claimed_list file) × (5 + 2 * count_in file ≤ length file))
    × (Accepted (house_in file) (claimed_list file) → 5 + 2 * count_in file ≤ length file → claim_refusal_of file ≡ None)
