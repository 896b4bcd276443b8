-- A list of which a part in the middle was written anew. Assumes nothing.
use Rattle.std.proofs.Common.{◌≡◌, ℕ, ◌+◌, ◌-◌, ◌<◌, ◌≤◌, List, ◌++◌, length, get_or, take, drop, ap, ◌∙◌, arith, length-append, length-take, length-drop, get_or-take}
use Rattle.std.proofs.lemmas.List.{get_or-drop, get_or_append_left, get_or-append_right}

abbrev pub middle : List ℕ → List ℕ → ℕ → ℕ → List ℕ
middle xs ys a n = take a xs ++ (ys ++ drop n (drop a xs))

module _ (xs ys : List ℕ) (a n : ℕ) (fits : a + n ≤ length xs) (long : length ys ≡ n) where
  front : length (take a xs) ≡ a
  front = omega (arith, length-take a xs)

  pub length_middle : length (middle xs ys a n) ≡ length xs
  length_middle =
      omega (
        arith,
        front,
        length-append (take a xs) (ys ++ drop n (drop a xs)),
        length-append ys (drop n (drop a xs)),
        length-drop n (drop a xs),
        length-drop a xs,
      )

  pub middle_before : (k : ℕ) → k < a → get_or (middle xs ys a n) k 0 ≡ get_or xs k 0
  middle_before k l = get_or_append_left (take a xs) (ys ++ drop n (drop a xs)) 0 k (omega (arith, front)) ∙ get_or-take a xs k 0 l

  behind : (k : ℕ) → a ≤ k → get_or (middle xs ys a n) k 0 ≡ get_or (ys ++ drop n (drop a xs)) (k - a) 0
  behind k l = get_or-append_right (take a xs) (ys ++ drop n (drop a xs)) a k 0 front l

  pub middle_within : (k : ℕ) → a ≤ k → k < a + n → get_or (middle xs ys a n) k 0 ≡ get_or ys (k - a) 0
  middle_within k l m = behind k l ∙ get_or_append_left ys (drop n (drop a xs)) 0 (k - a) (omega arith)

  pub middle_beyond : (k : ℕ) → a + n ≤ k → get_or (middle xs ys a n) k 0 ≡ get_or xs k 0
  middle_beyond k l =
      let e : a + (n + (k - a - n)) ≡ k = omega arith in
      behind k (omega arith) ∙ get_or-append_right ys (drop n (drop a xs)) n (k - a) 0 long (omega arith)
      ∙ get_or-drop n (drop a xs) (k - a - n) 0 ∙ get_or-drop a xs (n + (k - a - n)) 0 ∙ ap (λ (z : ℕ). get_or xs z 0) e
