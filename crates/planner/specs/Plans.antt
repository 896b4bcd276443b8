-- Plans: a choice for each aisle from 0 on, that leads from class to class, with its cost and the uses that it lays down.
-- Assumes nothing: these are definitions.
use Rattle.std.specs.Prelude.{◌≡◌, ℕ, suc, ◌+◌, ◌-◌, ◌*◌, ◌<◌, true, List, length, Some, ◌==◌, slice_index_or}
use Rattle.house.specs.House.{House, Spot}
use Rattle.uses.specs.Uses.{pick}
use Rattle.uses.specs.Edges.{Edge, lane, front, back}
use Rattle.aisle.specs.Costs.{Use, steps_of_use, use_cost, Depths, Among, Effect, best}
use Rattle.classes.specs.Classes.{Class, Passage, passage_front, passage_back, closes, transition, opening}

-- the depths of the picks of each aisle, in ascending order
pub record PicksByAisle (h : House) (picks : List Spot) (ds : ℕ → List ℕ) : Type 0 where
  pub depths : (a : ℕ) → a < h.aisles → Depths h.deep (ds a)
  pub every : (i : ℕ) (d : Spot) → i < length picks → Among (ds (slice_index_or picks i d).aisle) (slice_index_or picks i d).depth
  pub only :
      (a y : ℕ) → a < h.aisles → Among (ds a) y →
      (i : ℕ) × (d : Spot) × (i < length picks) × ((slice_index_or picks i d).aisle ≡ a) × ((slice_index_or picks i d).depth ≡ y)

-- the length of the passages from an aisle to the next
abbrev pub passage_cost : House → Passage → ℕ
passage_cost h p = (passage_front p + passage_back p) * h.apart

-- a plan up to aisle a, of a class, at a cost: in aisle 0 an effect with its cheapest use; then passages that lead on, and an effect with its cheapest use
pub data Plan (h : House) (ds : ℕ → List ℕ) : ℕ → Class → ℕ → Type 0 where
  start : {c : Class} (e : Effect) (u : Use) → opening e ≡ Some c → best h.deep (ds 0) e ≡ Some u → Plan h ds 0 c (use_cost h.deep u)
  next :
      {a : ℕ} {c d : Class} {w : ℕ} → Plan h ds a c w → (p : Passage) (e : Effect) (u : Use) → transition c p e ≡ Some d →
      best h.deep (ds (suc a)) e ≡ Some u → Plan h ds (suc a) d (w + passage_cost h p + use_cost h.deep u)

-- an edge of aisle a is used as u says, another as before
abbrev pub lay_aisle : ℕ → Use → (Edge → ℕ) → Edge → ℕ
lay_aisle a u before (lane b y) = pick (b == a) (steps_of_use u y) (before (lane b y))
lay_aisle a u before (front b) = before (front b)
lay_aisle a u before (back b) = before (back b)

-- the passages from aisle a to the next are used as p says, other edges as before
abbrev pub lay_passage : ℕ → Passage → (Edge → ℕ) → Edge → ℕ
lay_passage a p before (lane b y) = before (lane b y)
lay_passage a p before (front b) = pick (b == a) (passage_front p) (before (front b))
lay_passage a p before (back b) = pick (b == a) (passage_back p) (before (back b))

-- the uses that a plan lays down: each aisle and each passage as it was chosen, nothing beyond
unfoldable pub laid : {h : House} {ds : ℕ → List ℕ} {a : ℕ} {c : Class} {w : ℕ} → Plan h ds a c w → Edge → ℕ
laid (start e u opens is) x = lay_aisle 0 u (λ e. 0) x
laid (next {a = a} plan p e u leads is) x = lay_aisle (suc a) u (lay_passage a p (laid plan)) x

-- the uses f are those that a plan chose, up to its last aisle
abbrev pub KeepsTo : {h : House} {ds : ℕ → List ℕ} {a : ℕ} {c : Class} {w : ℕ} → Plan h ds a c w → (Edge → ℕ) → Type 0
KeepsTo {h} (start e u opens is) f = (y : ℕ) → y < h.deep → f (lane 0 y) ≡ steps_of_use u y
KeepsTo {h} (next {a = a} plan p e u leads is) f =
    KeepsTo plan f × (f (front a) ≡ passage_front p) × (f (back a) ≡ passage_back p) × ((y : ℕ) → y < h.deep → f (lane (suc a) y) ≡ steps_of_use u y)

-- a plan for all aisles that closes a tour
pub record Finished (h : House) (ds : ℕ → List ℕ) (w : ℕ) : Type 0 where
  pub class : Class
  pub plan : Plan h ds (h.aisles - 1) class w
  pub closes_tour : closes class ≡ true
