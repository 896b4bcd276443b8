-- What a file of bytes says: which house and pick list, and with a claim which way; or why it is refused.
-- A file is the bytes of the aisles, their depth and their distance, and then the list. Assumes nothing: these are definitions.
use Rattle.std.specs.Prelude.{◌≡◌, ℕ, ◌+◌, ◌-◌, ◌*◌, ◌<◌, ◌≤◌, min, ◌&&◌, List, length, take, drop, Some, None, Ok, Err, Option, Result, nat_le, slice_index, slice_index_or, MatchOption}
use Rattle.std.specs.Borrow.{Bor}
use Rattle.std.specs.Iterator.{YieldsFirstBy}
use Rattle.house.specs.House as ideal
use Rattle.house.specs.Bounds.{picks_of}
use Rattle.house.specs.Rules.{or_else, unless, aisles_rule, deep_rule, apart_rule, size_rule, aisle_rule, shelf_rule}
use Rattle.house.specs.declared.entries.Picks.{Picks}
use Rattle.house.specs.declared.layout.House.{House}
use Rattle.house.specs.declared.layout.Spot.{Spot}
use Rattle.house.specs.declared.picks.PickList.{PickList}
use Rattle.house.specs.declared.picks.ClaimedWay.{ClaimedWay}
use Rattle.house.specs.declared.refusal.Refusal.{Refusal}
use Rattle.house.specs.declared.refusal.Refusal.TheVariants.{List as ListSize}

-- the house and the spot that the code's values stand for
abbrev pub house_of : House → ideal.House
house_of h = record { aisles = h.aisles; deep = h.deep; apart = h.apart }

abbrev pub spot_of : Spot → ideal.Spot
spot_of s = ideal.spot s.aisle s.depth

-- a byte of the file; one that is missing reads as 0
abbrev pub byte_at : List ℕ → ℕ → ℕ
byte_at file i = slice_index file i

abbrev pub house_in : List ℕ → ideal.House
house_in file = record { aisles = byte_at file 0; deep = byte_at file 1; apart = byte_at file 2 }

abbrev pub house_rule : List ℕ → Option Refusal
house_rule file = or_else (aisles_rule (byte_at file 0)) (or_else (deep_rule (byte_at file 1)) (apart_rule (byte_at file 2)))

-- all picks are held to their aisles before any is held to its depth
abbrev pub picks_rule : ideal.House → List ℕ → Option Refusal
picks_rule h list = or_else (aisle_rule h.aisles list) (shelf_rule h.deep list)

-- the list of a file to plan: what follows the house
abbrev pub list_in : List ℕ → List ℕ
list_in file = drop 3 file

abbrev pub list_rule : ideal.House → List ℕ → Option Refusal
list_rule h list = or_else (size_rule list) (picks_rule h list)

-- the first rule that a file to plan breaks
abbrev pub refusal_of : List ℕ → Option Refusal
refusal_of file = or_else (house_rule file) (list_rule (house_in file) (list_in file))

-- the number of picks that a claim names: two bytes after the house, the low one first
abbrev pub count_in : List ℕ → ℕ
count_in file = byte_at file 3 + 256 * byte_at file 4

-- the list of a claim, and its way: what follows the count, cut where the list ends
abbrev pub claimed_list : List ℕ → List ℕ
claimed_list file = take (2 * count_in file) (drop 5 file)

abbrev pub claimed_way : List ℕ → List ℕ
claimed_way file = drop (2 * count_in file) (drop 5 file)

-- a count that is cut off is refused at 0; one above 512, or that asks for more bytes than follow it, at the smaller of what it asks for and what follows
abbrev pub count_rule : List ℕ → Option Refusal
count_rule file =
    or_else (unless (nat_le 5 (length file)) (ListSize 0))
    (unless (nat_le (2 * count_in file) 1024 && nat_le (2 * count_in file) (length file - 5)) (ListSize (min (2 * count_in file) (length file - 5))))

abbrev pub claim_rule : ideal.House → List ℕ → Option Refusal
claim_rule h file = or_else (count_rule file) (picks_rule h (claimed_list file))

-- the first rule that the house and the list of a claim break
abbrev pub claim_refusal_of : List ℕ → Option Refusal
claim_refusal_of file = or_else (house_rule file) (claim_rule (house_in file) file)

-- a check that hands on its number, or refuses by its rule
abbrev pub HandsOn : ℕ → Option Refusal → Result ℕ Refusal → Type 0
HandsOn n rule (Ok v) = (v ≡ n) × (rule ≡ None)
HandsOn n rule (Err e) = rule ≡ Some e

-- a check that hands on a list, or refuses by its rule
abbrev pub PassesOn : List ℕ → Option Refusal → Result (Bor (List ℕ)) Refusal → Type 0
PassesOn list rule (Ok p) = (p.now ≡ list) × (rule ≡ None)
PassesOn list rule (Err e) = rule ≡ Some e

-- a reader that hands on the file's house, or refuses by its rule
abbrev pub ReadsHouse : List ℕ → Option Refusal → Result House Refusal → Type 0
ReadsHouse file rule (Ok h) = (house_of h ≡ house_in file) × (rule ≡ None)
ReadsHouse file rule (Err e) = rule ≡ Some e

-- a check that makes a pick list of a house and a list, or refuses by its rule
abbrev pub MakesPicks : ideal.House → List ℕ → Option Refusal → Result PickList Refusal → Type 0
MakesPicks h list rule (Ok p) = (house_of p.house ≡ h) × (rule ≡ None) × (p.bytes.now ≡ list)
MakesPicks h list rule (Err e) = rule ≡ Some e

-- a reader that hands on the file's house with its list, or refuses by its rule
abbrev pub ReadsPicks : List ℕ → Option Refusal → Result PickList Refusal → Type 0
ReadsPicks file rule result = MakesPicks (house_in file) (list_in file) rule result

-- a reader that hands on the house, the list and the way of a claim, or refuses by its rule
abbrev pub ReadsClaim : List ℕ → Option Refusal → Result ClaimedWay Refusal → Type 0
ReadsClaim file rule (Ok c) = (house_of c.picks.house ≡ house_in file) × (rule ≡ None) × (c.picks.bytes.now ≡ claimed_list file) × (c.way.now ≡ claimed_way file)
ReadsClaim file rule (Err e) = rule ≡ Some e

-- the pick at a place of a list, if there is one
abbrev pub Gets : List ideal.Spot → ℕ → Option Spot → Type 0
Gets picks i None = length picks ≤ i
Gets picks i (Some s) = (i < length picks) × (spot_of s ≡ slice_index_or picks i ideal.desk)

-- the first pick is taken from what is left of a list, and its two bytes with it; where no pick is left, all bytes stay
abbrev pub TakesPick : Picks → Option Spot → Picks → Type 0
TakesPick from taken on = YieldsFirstBy spot_of (λ s. picks_of s.bytes.now) from taken on × MatchOption taken (on.bytes.now ≡ from.bytes.now) (λ _. on.bytes.now ≡ drop 2 from.bytes.now)
