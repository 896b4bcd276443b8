-- Ascending lists of depths: which depths are among them, and the last is the greatest. Assumes nothing.
use Rattle.std.proofs.Common.{◌≡◌, ℕ, zero, suc, ◌<◌, ◌≤◌, ◌⊎◌, List, [], ◌∷◌, length, get_or, refl, inl, inr, arith}
use Rattle.aisle.specs.Costs.{Among, last_of}

pub among_first : (x : ℕ) (xs : List ℕ) → Among (x ∷ xs) x
among_first x xs = (0, omega arith, refl)

pub among_rest : (x : ℕ) (xs : List ℕ) {y : ℕ} → Among xs y → Among (x ∷ xs) y
among_rest x xs (i, l, e) = (suc i, omega arith, e)

pub first_or_rest : (x : ℕ) (xs : List ℕ) (y : ℕ) → Among (x ∷ xs) y → (y ≡ x) ⊎ Among xs y
first_or_rest x xs y (zero, l, e) = inl (omega arith)
first_or_rest x xs y (suc i, l, e) = inr (i, omega arith, e)

-- the depths xs go on from d in ascending order
abbrev pub Rises : ℕ → List ℕ → Type 0
Rises d [] = Unit
Rises d (x ∷ xs) = (d ≤ x) × Rises x xs

pub ascending_rises :
    (d : ℕ) (xs : List ℕ) → ((i : ℕ) → suc i < length (d ∷ xs) → get_or (d ∷ xs) i 0 ≤ get_or (d ∷ xs) (suc i) 0) → Rises d xs
ascending_rises d [] up = tt
ascending_rises d (x ∷ xs) up = (up 0 (omega arith), ascending_rises x xs (λ i l. up (suc i) (omega arith)))

pub rises_among : (d : ℕ) (xs : List ℕ) (y : ℕ) → Rises d xs → Among xs y → d ≤ y
rises_among d [] y up (i, l, e) = absurd (omega arith)
rises_among d (x ∷ xs) y up (zero, l, e) = omega arith
rises_among d (x ∷ xs) y up (suc i, l, e) = omega (arith, rises_among x xs y up.1 (i, omega arith, e))

pub last_among : (d : ℕ) (xs : List ℕ) → Among (d ∷ xs) (last_of d xs)
unfolding last_of
last_among d [] = among_first d []
last_among d (x ∷ xs) = among_rest d (x ∷ xs) (last_among x xs)

pub last_greatest : (d : ℕ) (xs : List ℕ) (y : ℕ) → Rises d xs → Among (d ∷ xs) y → y ≤ last_of d xs
unfolding last_of
last_greatest d [] y up (zero, l, e) = omega arith
last_greatest d [] y up (suc i, l, e) = absurd (omega arith)
last_greatest d (x ∷ xs) y up (zero, l, e) = omega (arith, last_greatest x xs x up.1 (among_first x xs))
last_greatest d (x ∷ xs) y up (suc i, l, e) = last_greatest x xs y up.1 (i, omega arith, e)
