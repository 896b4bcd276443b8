-- The picks of a list, byte by byte: the pick at a place, and how many there are.
-- Assumes nothing.
use Rattle.std.proofs.Common.{◌≡◌, ℕ, zero, suc, ◌+◌, ◌*◌, ◌/◌, ◌<◌, ◌≤◌, List, [], ◌∷◌, length, get_or, drop, sym, refl, ap, ◌∙◌, add-zero, arith}
use Rattle.std.proofs.lemmas.List.{get_or-drop, length-drop}
use Rattle.house.specs.House.{Spot, spot}
use Rattle.house.specs.Bounds.{picks_of, pair_at}

pub picks_count : (list : List ℕ) → length (picks_of list) ≡ length list / 2
picks_count [] = refl
picks_count (a ∷ []) = refl
picks_count (a ∷ y ∷ rest) = let e : length (picks_of rest) ≡ length rest / 2 = picks_count rest in omega arith

pub pick_at : (list : List ℕ) (i : ℕ) (d : Spot) → i < length list / 2 → get_or (picks_of list) i d ≡ pair_at list i
pick_at [] i d h = absurd (omega arith)
pick_at (a ∷ []) i d h = absurd (omega arith)
pick_at (a ∷ y ∷ rest) zero d h = refl
pick_at (a ∷ y ∷ rest) (suc i) d h =
    let first : 2 * suc i ≡ suc (suc (2 * i)) = omega arith in
    let second : 2 * suc i + 1 ≡ suc (suc (2 * i + 1)) = omega arith in
    pick_at rest i d (omega arith) ∙ sym (ap (λ (k : ℕ). spot (get_or (a ∷ y ∷ rest) k 0) (get_or rest (2 * i + 1) 0)) first)
    ∙ sym (ap (λ (k : ℕ). spot (get_or (a ∷ y ∷ rest) (2 * suc i) 0) (get_or (a ∷ y ∷ rest) k 0)) second)

-- the pick whose bytes are the first two from the i-th pair on
pub pick_from : (list rest : List ℕ) (i : ℕ) (d : Spot) → rest ≡ drop (2 * i) list → 2 ≤ length rest → (i < length (picks_of list)) × (spot (get_or rest 0 0) (get_or rest 1 0) ≡ get_or (picks_of list) i d)
pick_from list rest i d e two =
    let h : i < length list / 2 = omega (arith, simp length-drop at (ap length e)) in
    let first = ap (λ (l : List ℕ). get_or l 0 0) e ∙ get_or-drop (2 * i) list 0 0 ∙ ap (λ (k : ℕ). get_or list k 0) (add-zero (2 * i)) in
    let second = ap (λ (l : List ℕ). get_or l 1 0) e ∙ get_or-drop (2 * i) list 1 0 in
    (omega (arith, picks_count list), rw (first, second) (sym (pick_at list i d h)))
