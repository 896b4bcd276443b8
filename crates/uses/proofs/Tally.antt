-- Counting along a way, step by step: where its first i steps lead, and how often they use each edge. Assumes nothing.
use Rattle.std.proofs.Common.{◌≡◌, ℕ, ◌+◌, ◌<◌, ◌≤◌, List, length, get_or, take, set, replicate, Some, None, Err, Option, Result, sym, refl, ap, ◌∙◌, arith}
use Rattle.std.specs.Option.{ok_or}
use Rattle.std.proofs.lemmas.List.{take_more, take_all, get_or-set_same, get_or-set_other}
use Rattle.house.specs.House.{House, Spot, desk}
use Rattle.walk.specs.Steps.{Within, landing, follow}
use Rattle.walk.specs.Checking.{exit_from}
use Rattle.walk.proofs.Lands.{landing_within, desk_within}
use Rattle.walk.proofs.Follow.{follow_push}
use Rattle.walk.proofs.Exit.{no_exit, exit_at}
use Rattle.uses.specs.Counting.{used_by, Exact, Overfills}
use Rattle.uses.specs.Edges.{Edge, In, edge_dec}
use Rattle.uses.specs.Layout.{place, held_in}
use Rattle.uses.specs.Looking.{edge_by, Sees}
use Rattle.uses.proofs.Filled.{filled}
use Rattle.uses.proofs.Places.{place_alone}
use Rattle.uses.proofs.Single.{single, single_same, single_other}
use Rattle.uses.proofs.Taken.{joins_of_landing}
use Rattle.uses.proofs.UsedBy.{used_none, used_push}

-- an error in place of what is missing: nothing was there, and the error is the one that was given
pub told_out : {X E : Type 0} (o : Option X) (e f : E) {r : Result X E} → r ≡ ok_or o e → r ≡ Err f → (o ≡ None) × (e ≡ f)
told_out (Some x) e f p q = let z : ◌≡◌ {A = ℕ} 0 1 = cc in absurd (omega arith)
told_out None e f p q = (refl, cc)

module _ (h : House) (way : List ℕ) where
  -- after i steps the way is at a spot of the house
  pub record Reach (i : ℕ) (at : Spot) : Type 0 where
    pub leads : follow h desk (take i way) ≡ Some at
    pub inside : Within h at

  pub reach_none : 1 ≤ h.aisles → Reach 0 desk
  unfolding follow
  reach_none k = record { leads = refl; inside = desk_within k }

  module _ (i : ℕ) (at : Spot) (reach : Reach i at) where
    pub reach_more : {next : Spot} → i < length way → landing h at (get_or way i 0) ≡ Some next → Reach (i + 1) next
    reach_more k l = record {
      leads = ap (follow h desk) (take_more way i 0 k) ∙ follow_push h desk (take i way) (get_or way i 0) reach.leads ∙ l;
      inside = landing_within (get_or way i 0) reach.inside l;
    }

    pub reach_out : i < length way → landing h at (get_or way i 0) ≡ None → exit_from h 0 desk way ≡ Some i
    reach_out k l = exit_at h desk way i k reach.leads l

    pub reach_all : length way ≤ i → exit_from h 0 desk way ≡ None
    reach_all k = no_exit h 0 desk way (ap (follow h desk) (sym (take_all i way k)) ∙ reach.leads)

  -- and how often they use each edge is counted
  pub record Tally (us : List ℕ) (i : ℕ) (at : Spot) : Type 0 where
    pub reach : Reach i at
    pub exact : Exact h (take i way) us

  pub tally_none : (us : List ℕ) (n : ℕ) → 1 ≤ h.aisles → us ≡ replicate n 0 → Tally us 0 desk
  tally_none us n k z = record {
    reach = reach_none k;
    exact = λ e i. ap (λ (xs : List ℕ). held_in h xs e) z ∙ filled n (place h e) 0 ∙ sym (used_none h e desk);
  }

  module _ (us : List ℕ) (i : ℕ) (at : Spot) (tally : Tally us i at) (k : i < length way) {entry : ℕ} {next : Spot} (seen : Sees h at (get_or way i 0) entry next) where
    -- the edge that the next step goes along
    abbrev taken : Edge
    taken = edge_by h at (get_or way i 0)

    taken_in : In h taken
    taken_in = (joins_of_landing h (get_or way i 0) tally.reach.inside seen.leads).inside

    used_next : (e : Edge) → used_by h desk (take (i + 1) way) e ≡ used_by h desk (take i way) e + single h taken e
    used_next e = ap (λ (bs : List ℕ). used_by h desk bs e) (take_more way i 0 k) ∙ used_push h e desk (take i way) (get_or way i 0) tally.reach.leads seen.leads

    pub tally_more : entry < length us → {after : List ℕ} → after ≡ set us entry (get_or us entry 0 + 1) → Tally after (i + 1) next
    tally_more l {after} plus = record { reach = reach_more i at tally.reach k seen.leads; exact = λ e inside. by e inside (edge_dec taken e) }
      where
        by : (e : Edge) → In h e → Dec (taken ≡ e) → held_in h after e ≡ used_by h desk (take (i + 1) way) e
        by e inside (yes same) =
            let here : place h e ≡ entry = sym (seen.entry_is ∙ ap (place h) same) in
            omega (
              arith,
              ap (λ (p : ℕ). get_or after p 0) here,
              ap (λ (xs : List ℕ). get_or xs entry 0) plus,
              get_or-set_same us entry (get_or us entry 0 + 1) 0 l,
              ap (λ (p : ℕ). get_or us p 0) here,
              tally.exact e inside,
              used_next e,
              ap (single h taken) same,
              single_same h taken,
            )
        by e inside (no other) =
            let apart : ¬ (place h e ≡ entry) = λ p. other (place_alone h taken e taken_in inside (sym (p ∙ seen.entry_is))) in
            omega (
              arith,
              ap (λ (xs : List ℕ). held_in h xs e) plus,
              get_or-set_other us entry (place h e) (get_or us entry 0 + 1) 0 apart,
              tally.exact e inside,
              used_next e,
              single_other h taken e other,
            )

    pub tally_full : {after : List ℕ} → (get_or us entry 0 ≡ 255) × (after ≡ us) → ((p : ℕ) → get_or after p 0 < 256) → Overfills h way i
    tally_full {after} (full, same) small = record {
      edge = taken;
      inside = taken_in;
      over =
          omega (arith, ap (λ (p : ℕ). get_or us p 0) seen.entry_is, tally.exact taken taken_in, used_next taken, single_same h taken);
      before = λ e inside. omega (arith, small (place h e), ap (λ (xs : List ℕ). held_in h xs e) same, tally.exact e inside);
    }

  pub tally_all : (us : List ℕ) (i : ℕ) (at : Spot) → Tally us i at → length way ≤ i → Exact h way us
  tally_all us i at tally k e inside = tally.exact e inside ∙ ap (λ (bs : List ℕ). used_by h desk bs e) (take_all i way k)
