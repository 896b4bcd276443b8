-- Which spots of the house keep round uses: those where an even number meets, and that are seen from the desk if one does.
-- Assumes nothing: these are definitions.
use Rattle.std.specs.Prelude.{◌≡◌, ℕ, ◌+◌, ◌%◌, ◌<◌, ◌≤◌, Bool, true, ◌&&◌, ◌||◌, List, length, Some, None, Ok, Err, Decides, Result, ◌==◌, slice_index_or}
use Rattle.std.specs.List.{list_all, range_with_len}
use Rattle.house.specs.House.{House, Spot, spot, desk}
use Rattle.house.specs.declared.refusal.Refusal.{Refusal}
use Rattle.walk.specs.Steps.{landing}
use Rattle.walk.specs.Marking.{has}
use Rattle.uses.specs.Layout.{held_in, uses_in}
use Rattle.uses.specs.Looking.{edge_by}
use Rattle.uses.specs.Room.{room_rule}
use Rattle.uses.specs.Uses.{Round}

-- how often the edge in the direction of a step is used, or 0 where the step leads out
unfoldable pub used_at : House → List ℕ → Spot → ℕ → ℕ
used_at h us s b = elim (landing h s b) [ Some t ↦ held_in h us (edge_by h s b) | None ↦ 0 ]

-- the uses that meet at a spot, direction by direction
abbrev pub meeting : House → List ℕ → Spot → ℕ
meeting h us s = used_at h us s 0 + used_at h us s 1 + used_at h us s 2 + used_at h us s 3 + used_at h us s 4 + used_at h us s 5

abbrev pub fine : House → List ℕ → List Bool → Spot → Bool
fine h us seen s = meeting h us s % 2 == 0 && (meeting h us s == 0 || has seen s)

abbrev pub FineAisle : House → List ℕ → List Bool → ℕ → Type 0
FineAisle h us seen a = (y : ℕ) → y ≤ h.deep → fine h us seen (spot a y) ≡ true

abbrev pub FineHouse : House → List ℕ → List Bool → Type 0
FineHouse h us seen = (a : ℕ) → a < h.aisles → FineAisle h us seen a

-- the same as tests
abbrev pub fine_aisle : House → List ℕ → List Bool → ℕ → Bool
fine_aisle h us seen a = list_all (λ y. fine h us seen (spot a y)) (range_with_len 0 (h.deep + 1))

abbrev pub fine_house : House → List ℕ → List Bool → Bool
fine_house h us seen = list_all (λ a. fine_aisle h us seen a) (range_with_len 0 h.aisles)

abbrev pub PicksSeen : List Spot → List Bool → Type 0
PicksSeen picks seen = (i : ℕ) → i < length picks → has seen (slice_index_or picks i desk) ≡ true

-- whether the uses in a slice are round, or the refusal of a slice that is too short
abbrev pub TellsRound : House → List Spot → List ℕ → Result Bool Refusal → Type 0
TellsRound h picks us (Ok r) = (room_rule (length us) ≡ None) × Decides r (Round h picks (uses_in h us))
TellsRound h picks us (Err e) = room_rule (length us) ≡ Some e
