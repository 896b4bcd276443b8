-- Reading accepts exactly a house within the bounds with at most 512 picks inside it. Assumes nothing.
use Rattle.std.proofs.Common.{◌≡◌, ℕ, ◌+◌, ◌*◌, ◌%◌, ◌<◌, ◌≤◌, List, length, get_or, Some, None, Option, refl, inl, inr, arith, length-drop, length-take}
use native.Mathlib.Decide.{dec_le, dec_lt, ℕ_discrete}
use Rattle.std.proofs.lemmas.List.{get_or_default}
use Rattle.house.specs.House.{House, desk}
use Rattle.house.specs.Bounds.{picks_of}
use Rattle.house.specs.Promise.{Breaks, Missized, Miscounted, Tells, Accepted, ReadingIsExact, ClaimsAreExact}
use Rattle.house.specs.Reading.{house_in, list_in, count_in, claimed_list, refusal_of, claim_refusal_of}
use Rattle.house.specs.Rules.{number_of, place_of}
use Rattle.house.specs.declared.refusal.Refusal.{Refusal}
use Rattle.house.proofs.Exact.{all_told, size_told, count_told}
use Rattle.house.proofs.Pairs.{picks_count}

module _ (h : House) (Wrong : ℕ → Type 0) (list : List ℕ) where
  -- where no rule is broken, the house and the picks are as they should be
  pub unbroken_accepted : ((n p : ℕ) → Breaks h Wrong (picks_of list) n p → ⊥) → length list ≡ 2 * length (picks_of list) → length (picks_of list) ≤ 512 → Accepted h list
  unbroken_accepted kept whole few =
      record {
        some_aisle = elim (dec_le 1 h.aisles) [ yes z ↦ z | no z ↦ absurd (kept 1 0 (Breaks.aisles (inl (omega arith)))) ];
        few_aisles = elim (dec_le h.aisles 64) [ yes z ↦ z | no z ↦ absurd (kept 1 0 (Breaks.aisles (inr (omega arith)))) ];
        some_depth = elim (dec_le 2 h.deep) [ yes z ↦ z | no z ↦ absurd (kept 2 1 (Breaks.deep (inl (omega arith)))) ];
        little_depth = elim (dec_le h.deep 200) [ yes z ↦ z | no z ↦ absurd (kept 2 1 (Breaks.deep (inr (omega arith)))) ];
        some_way = elim (dec_le 1 h.apart) [ yes z ↦ z | no z ↦ absurd (kept 3 2 (Breaks.apart (inl (omega arith)))) ];
        little_way = elim (dec_le h.apart 200) [ yes z ↦ z | no z ↦ absurd (kept 3 2 (Breaks.apart (inr (omega arith)))) ];
        whole = whole;
        few = few;
        sound = record {
          some_aisle = elim (dec_le 1 h.aisles) [ yes z ↦ z | no z ↦ absurd (kept 1 0 (Breaks.aisles (inl (omega arith)))) ];
          inside = λ i d l. rw (get_or_default (picks_of list) i d desk l) (in_aisle i l, past_front i l, before_back i l);
        };
      }
    where
      in_aisle : (i : ℕ) → i < length (picks_of list) → (get_or (picks_of list) i desk).aisle < h.aisles
      in_aisle i l = elim (dec_lt (get_or (picks_of list) i desk).aisle h.aisles) [ yes z ↦ z | no z ↦ absurd (kept 5 i (Breaks.no_aisle l (omega arith))) ]

      past_front : (i : ℕ) → i < length (picks_of list) → 0 < (get_or (picks_of list) i desk).depth
      past_front i l = elim (dec_lt 0 (get_or (picks_of list) i desk).depth) [ yes z ↦ z | no z ↦ absurd (kept 6 i (Breaks.no_shelf l (inl (omega arith)))) ]

      before_back : (i : ℕ) → i < length (picks_of list) → (get_or (picks_of list) i desk).depth < h.deep
      before_back i l = elim (dec_lt (get_or (picks_of list) i desk).depth h.deep) [ yes z ↦ z | no z ↦ absurd (kept 6 i (Breaks.no_shelf l (inr (omega arith)))) ]

  -- and where they are, and the size is right, no rule is broken
  pub accepted_unbroken : Accepted h list → ((p : ℕ) → Wrong p → ⊥) → (n p : ℕ) → Breaks h Wrong (picks_of list) n p → ⊥
  accepted_unbroken a sized n p (Breaks.aisles (inl x)) = omega (arith, a.some_aisle)
  accepted_unbroken a sized n p (Breaks.aisles (inr x)) = omega (arith, a.few_aisles)
  accepted_unbroken a sized n p (Breaks.deep (inl x)) = omega (arith, a.some_depth)
  accepted_unbroken a sized n p (Breaks.deep (inr x)) = omega (arith, a.little_depth)
  accepted_unbroken a sized n p (Breaks.apart (inl x)) = omega (arith, a.some_way)
  accepted_unbroken a sized n p (Breaks.apart (inr x)) = omega (arith, a.little_way)
  accepted_unbroken a sized n p (Breaks.size x) = sized p x
  accepted_unbroken a sized n p (Breaks.no_aisle l x) = omega (arith, (a.sound.inside p desk l).0)
  accepted_unbroken a sized n p (Breaks.no_shelf l (inl x)) = omega (arith, (a.sound.inside p desk l).1)
  accepted_unbroken a sized n p (Breaks.no_shelf l (inr x)) = omega (arith, (a.sound.inside p desk l).2)

-- where no rule is broken there is no refusal, and the other way round
unbroken : (Broken : ℕ → ℕ → Type 0) (o : Option Refusal) → Tells Broken o → o ≡ None → (n p : ℕ) → Broken n p → ⊥
unbroken Broken None t e = t
unbroken Broken (Some r) t e = absurd (let z : ◌≡◌ {A = ℕ} 0 1 = cc in omega arith)

unrefused : (Broken : ℕ → ℕ → Type 0) (o : Option Refusal) → Tells Broken o → ((n p : ℕ) → Broken n p → ⊥) → o ≡ None
unrefused Broken None t kept = refl
unrefused Broken (Some r) t kept = absurd (kept (number_of r) (place_of r) t.0)

module _ (file : List ℕ) where
  abbrev h : House
  h = house_in file

  tells : Tells (Breaks h (Missized (list_in file)) (picks_of (list_in file))) (refusal_of file)
  tells = all_told h (Missized (list_in file)) (picks_of (list_in file)) _ (size_told h (list_in file))

  accepts : refusal_of file ≡ None → Accepted h (list_in file)
  accepts e = unbroken_accepted h (Missized (list_in file)) (list_in file) kept whole few
    where
      kept : (n p : ℕ) → Breaks h (Missized (list_in file)) (picks_of (list_in file)) n p → ⊥
      kept = unbroken _ (refusal_of file) tells e

      whole : length (list_in file) ≡ 2 * length (picks_of (list_in file))
      whole = elim (ℕ_discrete (length (list_in file) % 2) 1) [ yes z ↦ absurd (kept 4 _ (Breaks.size (refl, inl z))) | no z ↦ omega (arith, picks_count (list_in file)) ]

      few : length (picks_of (list_in file)) ≤ 512
      few = elim (dec_le (length (picks_of (list_in file))) 512) [ yes z ↦ z | no z ↦ absurd (kept 4 _ (Breaks.size (refl, inr (omega arith)))) ]

  accepted : Accepted h (list_in file) → refusal_of file ≡ None
  accepted a = unrefused _ (refusal_of file) tells (accepted_unbroken h (Missized (list_in file)) (list_in file) a (λ p. sized p))
    where
      sized : (p : ℕ) → Missized (list_in file) p → ⊥
      sized p (e, inl odd) = omega (arith, a.whole)
      sized p (e, inr many) = omega (arith, a.few)

  claim_tells : Tells (Breaks h (Miscounted file) (picks_of (claimed_list file))) (claim_refusal_of file)
  claim_tells = all_told h (Miscounted file) (picks_of (claimed_list file)) _ (count_told h file)

  -- a list that is all there has the bytes that its count asks for
  claimed_length : 5 + 2 * count_in file ≤ length file → length (claimed_list file) ≡ 2 * count_in file
  claimed_length there = simp (length-take, length-drop) (omega arith)

  claim_accepts : claim_refusal_of file ≡ None → Accepted h (claimed_list file) × (5 + 2 * count_in file ≤ length file)
  claim_accepts e = (unbroken_accepted h (Miscounted file) (claimed_list file) kept (omega (arith, picks_count (claimed_list file), claimed_length there)) (omega (arith, small, picks_count (claimed_list file), claimed_length there)), there)
    where
      kept : (n p : ℕ) → Breaks h (Miscounted file) (picks_of (claimed_list file)) n p → ⊥
      kept = unbroken _ (claim_refusal_of file) claim_tells e

      long : 5 ≤ length file
      long = elim (dec_le 5 (length file)) [ yes z ↦ z | no z ↦ absurd (kept 4 0 (Breaks.size (inl (omega arith, refl)))) ]

      there : 5 + 2 * count_in file ≤ length file
      there = elim (dec_le (5 + 2 * count_in file) (length file)) [ yes z ↦ z | no z ↦ absurd (kept 4 _ (Breaks.size (inr (long, inr (omega arith), refl)))) ]

      small : count_in file ≤ 512
      small = elim (dec_le (count_in file) 512) [ yes z ↦ z | no z ↦ absurd (kept 4 _ (Breaks.size (inr (long, inl (omega arith), refl)))) ]

  claim_accepted : Accepted h (claimed_list file) → 5 + 2 * count_in file ≤ length file → claim_refusal_of file ≡ None
  claim_accepted a there = unrefused _ (claim_refusal_of file) claim_tells (accepted_unbroken h (Miscounted file) (claimed_list file) a (λ p. sized p))
    where
      sized : (p : ℕ) → Miscounted file p → ⊥
      sized p (inl z) = omega (arith, z.0)
      sized p (inr (long, inl many, e)) = omega (arith, a.few, a.whole, claimed_length there)
      sized p (inr (long, inr cut, e)) = omega arith

pub reading_is_exact : ReadingIsExact
reading_is_exact file = (tells file, accepts file, accepted file)

pub claims_are_exact : ClaimsAreExact
claims_are_exact file = (claim_tells file, claim_accepts file, claim_accepted file)
