-- A walk over a row, step by step: where its first i steps lead, and the marks of the spots that they pass. Assumes nothing.
use Rattle.std.proofs.Common.{◌≡◌, ℕ, ◌+◌, ◌<◌, ◌≤◌, Bool, List, [], ◌∷◌, ◌++◌, length, get_or, take, Some, None, sym, refl, ap, ◌∙◌}
use Rattle.std.proofs.lemmas.List.{take_more, take_all}
use Rattle.house.specs.House.{House, Spot, desk}
use Rattle.walk.specs.Steps.{Within, landing, follow, reached}
use Rattle.walk.specs.Marking.{marked, all_marked}
use Rattle.walk.specs.Checking.{exit_from}
use Rattle.walk.proofs.Lands.{landing_within, desk_within}
use Rattle.walk.proofs.Follow.{follow_push, trace_push}
use Rattle.walk.proofs.Exit.{no_exit, exit_at}

mark_last : (flags : List Bool) (ss : List Spot) (s : Spot) → all_marked flags (ss ++ (s ∷ [])) ≡ marked (all_marked flags ss) s
unfolding all_marked
mark_last flags [] s = refl
mark_last flags (q ∷ ss) s = mark_last (marked flags q) ss s

-- after i steps of a way the walk is at a spot of the house, and the spots that it reached are marked
pub record Trail (h : House) (way : List ℕ) (before after : List Bool) (i : ℕ) (at : Spot) : Type 0 where
  pub leads : follow h desk (take i way) ≡ Some at
  pub inside : Within h at
  pub marks : after ≡ all_marked before (reached h desk (take i way))

module _ (h : House) (way : List ℕ) (before after : List Bool) where
  pub trail_none : 1 ≤ h.aisles → after ≡ before → Trail h way before after 0 desk
  unfolding follow reached all_marked
  trail_none k e = record { leads = refl; inside = desk_within k; marks = e }

  module _ (i : ℕ) (at : Spot) (trail : Trail h way before after i at) where
    pub trail_more : {next : Spot} {later : List Bool} → i < length way → landing h at (get_or way i 0) ≡ Some next → later ≡ marked after next → Trail h way before later (i + 1) next
    trail_more {next} {later} k l e =
        let more = take_more way i 0 k in
        let b = get_or way i 0 in
        let on : reached h desk (take i way ++ (b ∷ [])) ≡ reached h desk (take i way) ++ (next ∷ []) = cc (trace_push h desk (take i way) b trail.leads l) in
        record {
          leads = ap (follow h desk) more ∙ follow_push h desk (take i way) b trail.leads ∙ l;
          inside = landing_within b trail.inside l;
          marks =
              e ∙ ap (λ (flags : List Bool). marked flags next) trail.marks
              ∙ sym (mark_last before (reached h desk (take i way)) next)
              ∙ ap (all_marked before) (sym on ∙ ap (reached h desk) (sym more));
        }

    pub trail_out : i < length way → landing h at (get_or way i 0) ≡ None → exit_from h 0 desk way ≡ Some i
    trail_out k l = exit_at h desk way i k trail.leads l

    -- at the end of the way
    pub record Done : Type 0 where
      pub stays_in : exit_from h 0 desk way ≡ None
      pub leads : follow h desk way ≡ Some at
      pub marks : after ≡ all_marked before (reached h desk way)

    pub trail_all : length way ≤ i → Done
    trail_all k =
        let whole = take_all i way k in
        let l = ap (follow h desk) (sym whole) ∙ trail.leads in
        record { stays_in = no_exit h 0 desk way l; leads = l; marks = trail.marks ∙ ap (λ (bs : List ℕ). all_marked before (reached h desk bs)) whole }
