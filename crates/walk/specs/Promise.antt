-- What is promised of walks and of their checker: each is a statement, a type whose proof is owed. Assumes nothing.
use Rattle.std.specs.Prelude.{◌≡◌, ℕ, ◌<◌, ◌≤◌, ◌≢◌, ◌↔◌, List, length, get_or, take, Some, None, Ok, Err, Result, slice_index, slice_index_or}
use Rattle.house.specs.House.{House, Spot, desk, Sound}
use Rattle.house.specs.Bounds.{picks_of}
use Rattle.house.specs.Reading.{house_in, claimed_list, claimed_way, claim_refusal_of}
use Rattle.house.specs.declared.refusal.Refusal.{Refusal}
use Rattle.house.specs.declared.refusal.Refusal.TheVariants.{NoStep, LeadsOut}
use Rattle.walk.specs.Walk.{Goes, byte_of, Walk, steps_of, Passes, Tour, length_of, Shortest}
use Rattle.walk.specs.Checking.{check_of}
use Rattle.walk.specs.declared.verdict.Verdict.{Verdict}
use Rattle.walk.specs.declared.verdict.Verdict.TheVariants.{Way, EndsElsewhere, Misses}

-- no shortest tour goes beyond the last aisle with a pick
abbrev pub NotBeyond : Type 0
NotBeyond =
    (h : House) (picks : List Spot) (t : Tour h picks) (a : ℕ) → Sound h picks → Shortest h picks t → 0 < h.apart →
    ((i : ℕ) (d : Spot) → i < length picks → (get_or picks i d).aisle ≤ a) → (p : Spot) → Passes t.walk p → p.aisle ≤ a

-- walks from one spot with the same bytes end at one spot, and between two spots there is one walk with given bytes
abbrev pub BytesTellTheWalk : Type 0
BytesTellTheWalk =
    ((h : House) (s t u : Spot) (w : Walk h s t) (v : Walk h s u) → steps_of w ≡ steps_of v → t ≡ u)
    × ((h : House) (s t : Spot) (w v : Walk h s t) → steps_of w ≡ steps_of v → w ≡ v)

-- the first n bytes of a row are steps, 0 to 5
abbrev pub StepsBefore : ℕ → List ℕ → Type 0
StepsBefore n way = (k : ℕ) → k < n → slice_index way k ≤ 5

-- what each answer says of a way: whose steps it is, where it ends and what it misses, or which byte is no step of a walk, and why
pub data Says (h : House) (picks : List Spot) (way : List ℕ) : Result Verdict Refusal → Type 0 where
  tour : {n : ℕ} (t : Tour h picks) → steps_of t.walk ≡ way → length_of t ≡ n → Says h picks way (Ok (Way n))
  elsewhere : {t : Spot} (w : Walk h desk t) → steps_of w ≡ way → t ≢ desk → Says h picks way (Ok EndsElsewhere)
  misses :
      {p : ℕ} (w : Walk h desk desk) → steps_of w ≡ way → p < length picks → ((i : ℕ) → i < p → Passes w (slice_index_or picks i desk)) → (Passes w (slice_index_or picks p desk) → ⊥) →
      Says h picks way (Ok (Misses p))
  no_step : {i : ℕ} → StepsBefore i way → i < length way → 5 < slice_index way i → Says h picks way (Err (NoStep i))
  leads_out :
      {i : ℕ} {t : Spot} → StepsBefore (length way) way → i < length way → (w : Walk h desk t) → steps_of w ≡ take i way →
      ((u : Spot) (n : ℕ) (g : Goes h t u n) → byte_of g ≢ slice_index way i) → Says h picks way (Err (LeadsOut i))

-- the checker refuses what the house and the list are refused for, and else gives exactly the answer that says what is so
abbrev pub CheckingIsExact : Type 0
CheckingIsExact =
    (file : List ℕ) →
    ((e : Refusal) → claim_refusal_of file ≡ Some e → check_of file ≡ Err e)
    × (claim_refusal_of file ≡ None → (r : Result Verdict Refusal) → (check_of file ≡ r) ↔ Says (house_in file) (picks_of (claimed_list file)) (claimed_way file) r)
