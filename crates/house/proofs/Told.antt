-- Rules one after the other: what each tells of its own numbers, a chain of them tells of all. Assumes nothing.
use Rattle.std.proofs.Common.{◌≡◌, ℕ, suc, ◌<◌, ◌≤◌, Bool, true, false, ◌⊎◌, List, length, get_or, Some, None, Option, refl, inl, inr, arith}
use native.Mathlib.Decide.{dec_lt}
use borrow.Author.Tests.{both_ways}
use Rattle.house.specs.House.{Spot, desk}
use Rattle.house.specs.Rules.{number_of, place_of, or_else, unless, at_pick, first_from}
use Rattle.house.proofs.Found.{Finds, first_finds}
use Rattle.house.specs.declared.refusal.Refusal.{Refusal}

-- what a refusal says of the rules from lo on, and its absence of those from lo to below hi
module _ (Broken : ℕ → ℕ → Type 0) where
  pub record Least (lo hi : ℕ) (e : Refusal) : Type 0 where
    pub from : lo ≤ number_of e
    pub to : number_of e < hi
    pub broken : Broken (number_of e) (place_of e)
    pub least : (n p : ℕ) → lo ≤ n → Broken n p → (number_of e < n) ⊎ ((number_of e ≡ n) × (place_of e ≤ p))

  pub record Kept (lo hi : ℕ) : Type 0 where
    pub none : (n p : ℕ) → lo ≤ n → n < hi → Broken n p → ⊥

  abbrev pub Told : ℕ → ℕ → Option Refusal → Type 0
  Told lo hi None = Kept lo hi
  Told lo hi (Some e) = Least lo hi e

  pub told_next : (lo mid hi : ℕ) (a b : Option Refusal) → lo ≤ mid → mid ≤ hi → Told lo mid a → Told mid hi b → Told lo hi (or_else a b)
  told_next lo mid hi (Some e) b l m t u =
      record { from = t.from; to = omega (arith, t.to); broken = t.broken; least = t.least }
  told_next lo mid hi None None l m t u =
      record { none = λ n p a z x. elim (dec_lt n mid) [ yes h ↦ t.none n p a h x | no h ↦ u.none n p (omega arith) z x ] }
  told_next lo mid hi None (Some e) l m t u =
      record {
        from = omega (arith, u.from);
        to = u.to;
        broken = u.broken;
        least = λ n p a x. elim (dec_lt n mid) [ yes h ↦ absurd (t.none n p a h x) | no h ↦ u.least n p (omega arith) x ];
      }

  -- a rule at one place: kept where its test holds, and broken there where it fails
  pub told_unless :
      (b : Bool) (e : Refusal) → (b ≡ true → (p : ℕ) → Broken (number_of e) p → ⊥) → (b ≡ false → Broken (number_of e) (place_of e)) →
      ((p : ℕ) → Broken (number_of e) p → p ≡ place_of e) → Told (number_of e) (suc (number_of e)) (unless b e)
  told_unless true e kept broken only = record { none = λ n p l h x. kept refl p (moved n p (omega arith) x) }
    where
      moved : (n p : ℕ) → n ≡ number_of e → Broken n p → Broken (number_of e) p
      moved n p same x = rw (← same) x
  told_unless false e kept broken only =
      record { from = omega arith; to = omega arith; broken = broken refl; least = λ n p l x. elim (dec_lt (number_of e) n) [ yes h ↦ inl h | no h ↦ inr (omega arith, one n p (omega arith) x) ] }
    where
      one : (n p : ℕ) → n ≡ number_of e → Broken n p → place_of e ≤ p
      one n p same x = let z : p ≡ place_of e = only p (rw (← same) x) in omega arith

  -- a rule at each pick, told at the first that breaks it
  pub told_pick :
      (test : Spot → Bool) (ps : List Spot) (refusal : ℕ → Refusal) (k : ℕ) → ((i : ℕ) → number_of (refusal i) ≡ k) → ((i : ℕ) → place_of (refusal i) ≡ i) →
      ((i : ℕ) → i < length ps → test (get_or ps i desk) ≡ true → Broken k i) → ((i : ℕ) → Broken k i → (i < length ps) × (test (get_or ps i desk) ≡ true)) →
      Told k (suc k) (at_pick refusal (first_from test 0 ps))
  told_pick test ps refusal k numbered placed breaks broken = from (first_from test 0 ps) (first_finds test 0 ps)
    where
      at : (n p m : ℕ) → n ≡ m → Broken n p → Broken m p
      at n p m same x = rw (← same) x

      found : (e : Refusal) (j : ℕ) → number_of e ≡ k → place_of e ≡ j → j < length ps → test (get_or ps j desk) ≡ true → ((i : ℕ) → i < j → test (get_or ps i desk) ≡ false) → Least k (suc k) e
      found e j num pl within holds before =
          record {
            from = omega arith;
            to = omega arith;
            broken = rw (num, pl) (breaks j within holds);
            least = λ n p l x. elim (dec_lt (number_of e) n) [ yes h ↦ inl h | no h ↦ inr (omega arith, later p (at n p k (omega arith) x)) ];
          }
        where
          later : (p : ℕ) → Broken k p → place_of e ≤ p
          later p x = elim (dec_lt p j) [ yes h ↦ absurd (both_ways _ (before p h) (broken p x).1) | no h ↦ omega arith ]

      from : (o : Option ℕ) → Finds test 0 ps o → Told k (suc k) (at_pick refusal o)
      from None f = record { none = λ n p l h x. let y : (p < length ps) × (test (get_or ps p desk) ≡ true) = broken p (at n p k (omega arith) x) in both_ways _ (f p y.0) y.1 }
      from (Some n) (j, e, within, holds, before) = found (refusal n) j (numbered n) (let z : place_of (refusal n) ≡ n = placed n in omega arith) within holds before
