-- The spots that a tour must pass, as needs: round uses are those that make a whole tour of the desk and the picks. Assumes nothing.
use Rattle.std.proofs.Common.{◌≡◌, ℕ, zero, suc, ◌+◌, ◌%◌, ◌<◌, ◌≢◌, List, [], ◌∷◌, length, get_or, sym, refl, ap, subst, arith}
use native.Mathlib.Decide.{dec_lt}
use Rattle.graph.specs.Graph.{Linked}
use Rattle.graph.proofs.Links.{linked_trans, linked_sym, linked_same}
use Rattle.graph.proofs.State.{Whole, load}
use Rattle.graph.proofs.Weight.{weight, weight_yes, weight_no, weight_holds}
use Rattle.house.specs.House.{House, Spot, desk}
use Rattle.uses.specs.Edges.{Edge, spot_dec, house_graph}
use Rattle.uses.proofs.Rings.{Ring}

-- two for each time that a spot stands in a list
unfoldable pub wanted : List Spot → Spot → ℕ
wanted [] s = 0
wanted (p ∷ picks) s = weight (spot_dec p s) 2 + wanted picks s

weight_even : {A : Type 0} (d : Dec A) → weight d 2 % 2 ≡ 0
unfolding weight
weight_even (yes p) = refl
weight_even (no p) = refl

pub wanted_even : (picks : List Spot) (s : Spot) → wanted picks s % 2 ≡ 0
unfolding wanted
wanted_even [] s = refl
wanted_even (p ∷ picks) s = omega (arith, weight_even (spot_dec p s), wanted_even picks s)

pub pick_wanted : (picks : List Spot) (i : ℕ) (d : Spot) → i < length picks → 0 < wanted picks (get_or picks i d)
unfolding wanted
pick_wanted [] i d l = absurd (omega arith)
pick_wanted (p ∷ picks) zero d l = omega (arith, weight_yes (spot_dec p p) refl 2)
pick_wanted (p ∷ picks) (suc i) d l = omega (arith, pick_wanted picks i d (omega arith))

-- a spot that is wanted stands in the list
pub record Listed (picks : List Spot) (s : Spot) : Type 0 where
  pub place : ℕ
  pub inside : place < length picks
  pub is : (d : Spot) → get_or picks place d ≡ s

pub wanted_listed : (picks : List Spot) (s : Spot) → 0 < wanted picks s → Listed picks s
unfolding wanted
wanted_listed [] s p = absurd (omega arith)
wanted_listed (q ∷ picks) s p =
    elim (dec_lt 0 (weight (spot_dec q s) 2)) [
      | yes z ↦ record { place = 0; inside = omega arith; is = λ d. weight_holds (spot_dec q s) 2 z }
      | no z ↦ let l = wanted_listed picks s (omega arith) in record { place = suc l.place; inside = omega (arith, l.inside); is = l.is }
    ]

-- the desk and the picks must be passed
abbrev pub needed : List Spot → Spot → ℕ
needed picks = wanted (desk ∷ picks)

-- in another aisle than the desk's only the picks are needed
pub needed_later : (picks : List Spot) (s : Spot) → 0 < s.aisle → needed picks s ≡ wanted picks s
unfolding wanted
needed_later picks s l = omega (arith, weight_no (spot_dec desk s) (λ same. omega (arith, ap (λ (t : Spot). t.aisle) same)) 2)

pub needed_desk : (picks : List Spot) → needed picks desk ≡ wanted picks desk + 2
unfolding wanted
needed_desk picks = omega (arith, weight_yes (spot_dec desk desk) refl 2)

pub needed_else : (picks : List Spot) (s : Spot) → s ≢ desk → needed picks s ≡ wanted picks s
unfolding wanted
needed_else picks s other = omega (arith, weight_no (spot_dec desk s) (λ same. other (sym same)) 2)

module _ {h : House} {picks : List Spot} {f : Edge → ℕ} where
  pub whole_ring : Whole (house_graph h) (needed picks) f → Ring h picks f
  whole_ring whole =
      record {
        even = λ s. omega (arith, whole.even s, wanted_even (desk ∷ picks) s);
        used = λ s p. whole.linked desk s desk_live (omega arith);
        picked = λ i d l. whole.linked desk (get_or picks i d) desk_live (omega (arith, pick_wanted (desk ∷ picks) (suc i) d (omega arith)));
      }
    where
      desk_live : 0 < load (house_graph h) (needed picks) f desk
      desk_live = omega (arith, pick_wanted (desk ∷ picks) 0 desk (omega arith))

  pub ring_whole : Ring h picks f → Whole (house_graph h) (needed picks) f
  ring_whole ring =
      record {
        even = λ s. omega (arith, ring.even s, wanted_even (desk ∷ picks) s);
        linked = λ x y p q. linked_trans (house_graph h) (linked_sym (house_graph h) (from_desk x p)) (from_desk y q);
      }
    where
      listed : {s : Spot} → Listed (desk ∷ picks) s → Linked (house_graph h) f desk s
      listed {s} l = by l.place l.inside l.is
        where
          by : (i : ℕ) → i < length (desk ∷ picks) → ((d : Spot) → get_or (desk ∷ picks) i d ≡ s) → Linked (house_graph h) f desk s
          by zero l is = linked_same (house_graph h) (is desk)
          by (suc i) l is = subst (Linked (house_graph h) f desk) (is desk) (ring.picked i desk (omega arith))

      from_desk : (s : Spot) → 0 < load (house_graph h) (needed picks) f s → Linked (house_graph h) f desk s
      from_desk s p =
          elim (dec_lt 0 ((house_graph h).deg f s)) [
            | yes q ↦ ring.used s q
            | no z ↦ listed (wanted_listed (desk ∷ picks) s (omega arith))
          ]
