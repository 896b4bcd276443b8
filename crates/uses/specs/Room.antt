-- The room that a slice of uses must have. Assumes nothing: these are definitions.
use Rattle.std.specs.Prelude.{◌≡◌, ℕ, List, length, Some, None, Ok, Err, Option, Result, nat_le}
use Rattle.house.specs.Rules.{unless}
use Rattle.house.specs.declared.layout.House.{House}
use Rattle.house.specs.declared.refusal.Memory.TheVariants.{Uses}
use Rattle.house.specs.declared.refusal.Refusal.{Refusal}
use Rattle.house.specs.declared.refusal.Refusal.TheVariants.{Short}
use Rattle.uses.specs.declared.house_uses.HouseUses.{HouseUses}

-- a place for each edge of the largest house: 64 aisles of 200 steps, and 63 passages at the front and at the back
abbrev pub room_rule : ℕ → Option Refusal
room_rule len = unless (nat_le 12926 len) (Short Uses)

-- uses of a house in a slice with room for those of any house, or the refusal of a shorter one
abbrev pub MakesUses : House → List ℕ → Result HouseUses Refusal → Type 0
MakesUses h us (Ok u) = (u.house ≡ h) × (u.entries.now ≡ us) × (room_rule (length us) ≡ None)
MakesUses h us (Err e) = room_rule (length us) ≡ Some e
