-- All aisles of a house made tidy at once: round uses stay round, no dearer, and every aisle has a shape. Assumes nothing.
use Rattle.std.proofs.Common.{◌≡◌, ℕ, suc, ◌%◌, ◌<◌, ◌≤◌, ◌⊎◌, List, length, get_or, sym, refl, ap, subst, subst₂, inl, inr, arith}
use Rattle.graph.specs.Graph.{Linked}
use Rattle.graph.proofs.Links.{linked_by, linked_same, maps}
use Rattle.graph.proofs.Reduced.{Reduces, sum_reduced, eulerian_reduced}
use Rattle.house.specs.House.{House, Spot, spot, desk, Sound}
use Rattle.uses.specs.Uses.{cost, at_most_two}
use Rattle.uses.specs.Edges.{Edge, lane, front, back, In, src, dst, uses_of, degree, house_graph}
use Rattle.uses.proofs.Laws.{house_laws, house_cost}
use Rattle.uses.proofs.Rings.{Ring, ring_eulerian, eulerian_ring}
use Rattle.aisle.specs.Kinds.{Stops, Shape}
use Rattle.aisle.proofs.CutOff.{cut_out}
use Rattle.aisle.proofs.Nearest.{last_stop, first_stop}
use Rattle.aisle.proofs.StopsTold.{stop?}
use Rattle.aisle.proofs.Tidied.{Surveyed, full, open_between, new, pull, new_small, Tidied, tidied}
use Rattle.aisle.proofs.Unused.{Search, all_used, some_unused, first_and_last_unused}
use Rattle.aisle.proofs.Within.{one_parity}

module _ (h : House) (picks : List Spot) (a : ℕ) where
  front_stop : Stops h picks a 0
  unfolding Stops
  front_stop = inl refl

  back_stop : Stops h picks a h.deep
  unfolding Stops
  back_stop = inr (inl refl)

  -- what an aisle is like can be found out for any uses, round or not
  surveyed : (f : ℕ → ℕ) → Surveyed h.deep (Stops h picks a) f
  surveyed f = around (first_and_last_unused f h.deep)
    where
      around : Search f h.deep → Surveyed h.deep (Stops h picks a) f
      around (all_used used) = full used
      around (some_unused u) =
          open_between u
          (last_stop (Stops h picks a) (stop? h picks a) front_stop u.first)
          (first_stop (Stops h picks a) (stop? h picks a) (suc u.last) h.deep u.inside back_stop)

pick_stop : (h : House) (picks : List Spot) (i : ℕ) (d : Spot) → i < length picks → Stops h picks (get_or picks i d).aisle (get_or picks i d).depth
unfolding Stops
pick_stop h picks i d l = inr (inr (i, d, l, refl, refl))

module _ (h : House) (picks : List Spot) (f : Edge → ℕ) where
  survey : (a : ℕ) → Surveyed h.deep (Stops h picks a) (λ y. f (lane a y))
  survey a = surveyed h picks a (λ y. f (lane a y))

  -- the uses with every aisle tidied
  pub tidy : Edge → ℕ
  tidy (lane a y) = new (survey a) y
  tidy (front a) = f (front a)
  tidy (back a) = f (back a)

  -- where each spot is pulled, along its aisle
  pulled_spot : Spot → Spot
  pulled_spot s = spot s.aisle (pull (survey s.aisle) s.depth)

  module _ (ring : Ring h picks f) (small : (e : Edge) → f e ≤ 2) where
    aisle_tidied : (a : ℕ) → a < h.aisles → Tidied (survey a)
    aisle_tidied a i =
        tidied (one_parity h f a i ring.even) (λ y. small (lane a y)) (λ u. cut_out h picks f a u ring i) (survey a)

    tidy_reduces : Reduces (house_graph h) tidy f
    unfolding tidy
    tidy_reduces = record { fewer = fewer; parity = parity }
      where
        fewer : (e : Edge) → In h e → tidy e ≤ f e
        fewer (lane a y) (i, j) = (aisle_tidied a i).fewer y j
        fewer (front a) i = omega arith
        fewer (back a) i = omega arith

        parity : (e : Edge) → In h e → tidy e % 2 ≡ f e % 2
        parity (lane a y) (i, j) = (aisle_tidied a i).parity y j
        parity (front a) i = refl
        parity (back a) i = refl

    -- the ends of the aisles, what is still used and the picks stay where they are
    front_stays : (a : ℕ) → a < h.aisles → spot a 0 ≡ pulled_spot (spot a 0)
    unfolding pulled_spot
    front_stays a i = ap (spot a) (sym ((aisle_tidied a i).stays 0 (front_stop h picks a)))

    back_stays : (a : ℕ) → a < h.aisles → spot a h.deep ≡ pulled_spot (spot a h.deep)
    unfolding pulled_spot
    back_stays a i = ap (spot a) (sym ((aisle_tidied a i).stays h.deep (back_stop h picks a)))

    pick_stays : Sound h picks → (i : ℕ) (d : Spot) → i < length picks → get_or picks i d ≡ pulled_spot (get_or picks i d)
    unfolding pulled_spot
    pick_stays sound i d l =
        let p = get_or picks i d in
        ap (spot p.aisle) (sym ((aisle_tidied p.aisle (sound.inside i d l).0).stays p.depth (pick_stop h picks i d l)))

    -- both ends of an edge stay where they are
    abbrev Fixed : Edge → Type 0
    Fixed e = (src h e ≡ pulled_spot (src h e)) × (dst h e ≡ pulled_spot (dst h e))

    used_stays : (e : Edge) → In h e → 0 < tidy e → Fixed e
    unfolding pulled_spot tidy
    used_stays (lane a y) (i, j) p =
        let k = (aisle_tidied a i).kept y j p in
        (ap (spot a) (sym k.0), ap (spot a) (sym k.1))
    used_stays (front a) i p = (front_stays a (omega arith), front_stays (suc a) i)
    used_stays (back a) i p = (back_stays a (omega arith), back_stays (suc a) i)

    touched_stays : (s : Spot) → 0 < degree h tidy s → s ≡ pulled_spot s
    touched_stays s p = by ((house_laws h).touched tidy s p)
      where
        at : (e : Edge) → Fixed e → (src h e ≡ s) ⊎ (dst h e ≡ s) → s ≡ pulled_spot s
        at e (k, l) (inl q) = subst (λ t. t ≡ pulled_spot t) q k
        at e (k, l) (inr q) = subst (λ t. t ≡ pulled_spot t) q l

        by : (e : Edge) × In h e × (0 < tidy e) × ((src h e ≡ s) ⊎ (dst h e ≡ s)) → s ≡ pulled_spot s
        by (e, i, q, ends) = at e (used_stays e i q) ends

    still_linked : (e : Edge) → In h e → 0 < tidy e → Linked (house_graph h) tidy (pulled_spot (src h e)) (pulled_spot (dst h e))
    still_linked e i p = linked_by (house_graph h) e i p (inl (used_stays e i p))

    edge_linked : (e : Edge) → In h e → 0 < f e → Linked (house_graph h) tidy (pulled_spot (src h e)) (pulled_spot (dst h e))
    unfolding pulled_spot tidy
    edge_linked (lane a y) (i, j) p =
        elim ((aisle_tidied a i).linked y j p) [
          | inl same ↦ linked_same (house_graph h) (ap (spot a) same)
          | inr q ↦ still_linked (lane a y) (i, j) q
        ]
    edge_linked (front a) i p = still_linked (front a) i p
    edge_linked (back a) i p = still_linked (back a) i p

    -- a spot that stays where it is stays linked with the desk
    desk_linked : 0 < h.aisles → (s : Spot) → s ≡ pulled_spot s → Linked (house_graph h) f desk s → Linked (house_graph h) tidy desk s
    desk_linked some s stays l =
        subst₂ (Linked (house_graph h) tidy) (sym (front_stays 0 some)) (sym stays) (maps (house_graph h) pulled_spot edge_linked l)

    pub tidy_ring : Sound h picks → Ring h picks tidy
    unfolding pulled_spot
    tidy_ring sound =
        eulerian_ring
        (eulerian_reduced (house_graph h) (house_laws h) tidy_reduces
        (λ s p l. desk_linked sound.some_aisle s (touched_stays s p) l) (ring_eulerian ring))
        (λ i d l. desk_linked sound.some_aisle (get_or picks i d) (pick_stays sound i d l) (ring.picked i d l))

    pub tidy_small : at_most_two h (uses_of tidy)
    unfolding at_most_two tidy
    tidy_small = (λ a y. new_small (λ z. small (lane a z)) (survey a) y, λ a. (small (front a), small (back a)))

    pub tidy_shape : (a : ℕ) → a < h.aisles → Shape h.deep (Stops h picks a) ((uses_of tidy).aisle a)
    unfolding tidy
    tidy_shape a i = (aisle_tidied a i).shape

    pub tidy_cheaper : cost h (uses_of tidy) ≤ cost h (uses_of f)
    tidy_cheaper = sum_reduced (house_graph h) (house_cost h) tidy_reduces
