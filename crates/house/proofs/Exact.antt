-- Reading is exact: a refusal is that of the lowest rule that is broken, and what is accepted keeps every rule. Assumes nothing.
use Rattle.std.proofs.Common.{◌≡◌, ℕ, ◌+◌, ◌-◌, ◌*◌, ◌%◌, ◌<◌, ◌≤◌, min, Bool, true, false, ◌&&◌, eqb, leb, ◌⊎◌, List, length, get_or, Some, None, Option, refl, inl, inr, arith, eqb-true, le-leb, leb-false, leb-true}
use native.Mathlib.Decide.{ℕ_discrete}
use borrow.Author.Tests.{eqb-false, clash}
use Rattle.std.proofs.lemmas.Bool.{and_parts, and_cases}
use Rattle.house.specs.House.{House, Spot, desk}
use Rattle.house.specs.Bounds.{picks_of}
use Rattle.house.specs.Promise.{Breaks, Missized, Miscounted, Tells}
use Rattle.house.specs.Rules.{or_else, unless, within, aisles_rule, deep_rule, apart_rule, size_rule, absent, outside, at_pick, first_from}
use Rattle.house.specs.Reading.{count_in, claimed_list, count_rule}
use Rattle.house.specs.declared.refusal.Refusal.{Refusal}
use Rattle.house.specs.declared.refusal.Refusal.TheVariants.{Aisles, Deep, Apart, List as ListSize, NoAisle, NoShelf}
use Rattle.house.proofs.Told.{Told, told_next, told_unless, told_pick}
use Rattle.house.proofs.Pairs.{picks_count}
use Rattle.house.proofs.Tested.{outside_yes, from_outside}

within_yes : (lo hi n : ℕ) → within lo hi n ≡ true → (lo ≤ n) × (n ≤ hi)
within_yes lo hi n e = let z = and_parts _ _ e in (leb-true _ _ z.0, leb-true _ _ z.1)

within_no : (lo hi n : ℕ) → within lo hi n ≡ false → (n < lo) ⊎ (hi < n)
within_no lo hi n e = elim (and_cases _ _ e) [ inl z ↦ inl (leb-false _ _ z) | inr z ↦ inr (leb-false _ _ z) ]

module _ (h : House) (Wrong : ℕ → Type 0) (picks : List Spot) where
  abbrev Broken : ℕ → ℕ → Type 0
  Broken = Breaks h Wrong picks

  number_of_break : (n p : ℕ) → Broken n p → (1 ≤ n) × (n < 7)
  number_of_break n p (Breaks.aisles x) = (omega arith, omega arith)
  number_of_break n p (Breaks.deep x) = (omega arith, omega arith)
  number_of_break n p (Breaks.apart x) = (omega arith, omega arith)
  number_of_break n p (Breaks.size x) = (omega arith, omega arith)
  number_of_break n p (Breaks.no_aisle i x) = (omega arith, omega arith)
  number_of_break n p (Breaks.no_shelf i x) = (omega arith, omega arith)

  aisles_break : (p : ℕ) → Broken 1 p → (p ≡ 0) × ((h.aisles < 1) ⊎ (64 < h.aisles))
  aisles_break p (Breaks.aisles x) = (refl, x)

  deep_break : (p : ℕ) → Broken 2 p → (p ≡ 1) × ((h.deep < 2) ⊎ (200 < h.deep))
  deep_break p (Breaks.deep x) = (refl, x)

  apart_break : (p : ℕ) → Broken 3 p → (p ≡ 2) × ((h.apart < 1) ⊎ (200 < h.apart))
  apart_break p (Breaks.apart x) = (refl, x)

  size_break : (p : ℕ) → Broken 4 p → Wrong p
  size_break p (Breaks.size x) = x

  aisle_break : (i : ℕ) → Broken 5 i → (i < length picks) × (absent h.aisles (get_or picks i desk) ≡ true)
  aisle_break i (Breaks.no_aisle l x) = (l, le-leb _ _ x)

  shelf_break : (i : ℕ) → Broken 6 i → (i < length picks) × (outside h.deep (get_or picks i desk) ≡ true)
  shelf_break i (Breaks.no_shelf l x) = (l, outside_yes _ (get_or picks i desk) x)

  -- a number that is within its bounds does not lie outside them
  inside : (lo hi n : ℕ) → within lo hi n ≡ true → (n < lo) ⊎ (hi < n) → ⊥
  inside lo hi n e (inl z) = let w = within_yes lo hi n e in omega (arith, w.0)
  inside lo hi n e (inr z) = let w = within_yes lo hi n e in omega (arith, w.1)

  house_told : Told Broken 1 4 (or_else (aisles_rule h.aisles) (or_else (deep_rule h.deep) (apart_rule h.apart)))
  house_told =
      told_next Broken 1 2 4 _ _ (omega arith) (omega arith)
      (told_unless Broken (within 1 64 h.aisles) Aisles (λ e p x. inside 1 64 _ e (aisles_break p x).1) (λ e. Breaks.aisles (within_no 1 64 _ e)) (λ p x. (aisles_break p x).0))
      (told_next Broken 2 3 4 _ _ (omega arith) (omega arith)
      (told_unless Broken (within 2 200 h.deep) Deep (λ e p x. inside 2 200 _ e (deep_break p x).1) (λ e. Breaks.deep (within_no 2 200 _ e)) (λ p x. (deep_break p x).0))
      (told_unless Broken (within 1 200 h.apart) Apart (λ e p x. inside 1 200 _ e (apart_break p x).1) (λ e. Breaks.apart (within_no 1 200 _ e)) (λ p x. (apart_break p x).0)))

  picks_told : Told Broken 5 7 (or_else (at_pick NoAisle (first_from (absent h.aisles) 0 picks)) (at_pick NoShelf (first_from (outside h.deep) 0 picks)))
  picks_told =
      told_next Broken 5 6 7 _ _ (omega arith) (omega arith)
      (told_pick Broken (absent h.aisles) picks NoAisle 5 (λ i. refl) (λ i. refl) (λ i l e. Breaks.no_aisle l (leb-true _ _ e)) aisle_break)
      (told_pick Broken (outside h.deep) picks NoShelf 6 (λ i. refl) (λ i. refl) (λ i l e. Breaks.no_shelf l (from_outside _ (get_or picks i desk) e)) shelf_break)

  -- the rules of the house, then that of the size, then those of the picks
  pub all_told : (size : Option Refusal) → Told Broken 4 5 size → Tells Broken (or_else (or_else (aisles_rule h.aisles) (or_else (deep_rule h.deep) (apart_rule h.apart))) (or_else size (or_else (at_pick NoAisle (first_from (absent h.aisles) 0 picks)) (at_pick NoShelf (first_from (outside h.deep) 0 picks)))))
  all_told size sized =
      from _ (told_next Broken 1 4 7 _ _ (omega arith) (omega arith) house_told (told_next Broken 4 5 7 size _ (omega arith) (omega arith) sized picks_told))
    where
      from : (o : Option Refusal) → Told Broken 1 7 o → Tells Broken o
      from None t = λ n p x. let z = number_of_break n p x in t.none n p z.0 z.1 x
      from (Some e) t = (t.broken, λ n p x. t.least n p (number_of_break n p x).0 x)

-- a list to the end of the file is refused where it is odd or too long
pub size_told : (h : House) (list : List ℕ) → Told (Breaks h (Missized list) (picks_of list)) 4 5 (size_rule list)
size_told h list =
    told_unless (Breaks h (Missized list) (picks_of list)) (eqb (length list % 2) 0 && leb (length list) 1024) (ListSize (length list))
    (λ e p x. kept (and_parts _ _ e) (size_break h (Missized list) (picks_of list) p x).1)
    (λ e. Breaks.size (refl, broken (and_cases _ _ e)))
    (λ p x. (size_break h (Missized list) (picks_of list) p x).0)
  where
    kept : (eqb (length list % 2) 0 ≡ true) × (leb (length list) 1024 ≡ true) → (length list % 2 ≡ 1) ⊎ (512 < length (picks_of list)) → ⊥
    kept (even, short) (inl odd) = omega (arith, eqb-true _ _ even)
    kept (even, short) (inr many) = omega (arith, leb-true _ _ short, picks_count list)

    broken : (eqb (length list % 2) 0 ≡ false) ⊎ (leb (length list) 1024 ≡ false) → (length list % 2 ≡ 1) ⊎ (512 < length (picks_of list))
    broken (inl odd) = let z : ¬ (length list % 2 ≡ 0) = eqb-false _ _ odd in inl (omega arith)
    broken (inr long) = elim (ℕ_discrete (length list % 2) 1) [ yes odd ↦ inl odd | no even ↦ inr (omega (arith, leb-false _ _ long, picks_count list)) ]

-- the rules that the house and the list of a claim break
abbrev ClaimBreaks : House → List ℕ → ℕ → ℕ → Type 0
ClaimBreaks h file = Breaks h (Miscounted file) (picks_of (claimed_list file))

-- a count is refused where it is cut off, too large, or asks for more than follows it
pub count_told : (h : House) (file : List ℕ) → Told (ClaimBreaks h file) 4 5 (count_rule file)
count_told h file = from (leb 5 (length file)) refl
  where
    miscounted : (p : ℕ) → ClaimBreaks h file 4 p → Miscounted file p
    miscounted p x = size_break h (Miscounted file) (picks_of (claimed_list file)) p x

    cut_off : length file < 5 → (p : ℕ) → Miscounted file p → p ≡ 0
    cut_off short p (inl z) = z.1
    cut_off short p (inr z) = absurd (omega (arith, z.0))

    asks : 5 ≤ length file → (p : ℕ) → Miscounted file p → ((512 < count_in file) ⊎ (length file < 5 + 2 * count_in file)) × (p ≡ min (2 * count_in file) (length file - 5))
    asks long p (inl z) = absurd (omega (arith, z.0))
    asks long p (inr z) = (z.1, z.2)

    few : (leb (2 * count_in file) 1024 ≡ true) × (leb (2 * count_in file) (length file - 5) ≡ true) → 5 ≤ length file → (512 < count_in file) ⊎ (length file < 5 + 2 * count_in file) → ⊥
    few (small, there) long (inl z) = omega (arith, leb-true _ _ small)
    few (small, there) long (inr z) = omega (arith, leb-true _ _ there)

    many : (leb (2 * count_in file) 1024 ≡ false) ⊎ (leb (2 * count_in file) (length file - 5) ≡ false) → (512 < count_in file) ⊎ (length file < 5 + 2 * count_in file)
    many (inl z) = inl (omega (arith, leb-false _ _ z))
    many (inr z) = inr (omega (arith, leb-false _ _ z))

    from : (b : Bool) → leb 5 (length file) ≡ b →
        Told (ClaimBreaks h file) 4 5 (or_else (unless b (ListSize 0)) (unless (leb (2 * count_in file) 1024 && leb (2 * count_in file) (length file - 5)) (ListSize (min (2 * count_in file) (length file - 5)))))
    from false e =
        told_unless (ClaimBreaks h file) false (ListSize 0) (λ z. absurd (clash z)) (λ z. Breaks.size (inl (leb-false _ _ e, refl)))
        (λ p x. cut_off (leb-false _ _ e) p (miscounted p x))
    from true e =
        told_unless (ClaimBreaks h file) (leb (2 * count_in file) 1024 && leb (2 * count_in file) (length file - 5)) (ListSize (min (2 * count_in file) (length file - 5)))
        (λ z p x. few (and_parts _ _ z) (leb-true _ _ e) (asks (leb-true _ _ e) p (miscounted p x)).0)
        (λ z. Breaks.size (inr (leb-true _ _ e, many (and_cases _ _ z), refl)))
        (λ p x. (asks (leb-true _ _ e) p (miscounted p x)).1)
