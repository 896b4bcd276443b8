-- Changes to the lent tables, one after the other. Assumes nothing.
use Rattle.std.proofs.Common.{◌≡◌, ℕ, ◌+◌, ◌<◌, ◌≤◌, List, length, get_or, take, fold, sym, ap, ◌∙◌}
use Rattle.std.proofs.lemmas.List.{take_all}
use Rattle.std.proofs.lemmas.List.Sums.{fold_more}
use Rattle.partial.specs.Lent.{held, Changed}
use Rattle.partial.specs.Table as ideal
use Rattle.partial.specs.declared.table.Tables.{Tables}

-- the same change, said otherwise
pub same_change : {f g : ideal.Tables → ideal.Tables} {was is : Tables} → f (held was) ≡ g (held was) → Changed f was is → Changed g was is
same_change e f = record { holds = f.holds ∙ e; same_lengths = f.same_lengths; same_came = f.same_came }

pub both_changes : (f g : ideal.Tables → ideal.Tables) {was mid is : Tables} → Changed f was mid → Changed g mid is → Changed (λ t. g (f t)) was is
both_changes f g c d =
    record { holds = d.holds ∙ ap g c.holds; same_lengths = d.same_lengths ∙ c.same_lengths; same_came = d.same_came ∙ c.same_came }

module _ {A : Type 0} (step : ideal.Tables → A → ideal.Tables) (xs : List A) (was : Tables) where
  -- a change for each of the first k values of a list
  abbrev pub SoFar : ℕ → Tables → Type 0
  SoFar k is = Changed (λ t. fold step t (take k xs)) was is

  pub one_more : (k : ℕ) (d : A) {is new : Tables} → k < length xs → SoFar k is → Changed (λ t. step t (get_or xs k d)) is new → SoFar (k + 1) new
  one_more k d l so_far change =
      record {
        holds = change.holds ∙ ap (λ (t : ideal.Tables). step t (get_or xs k d)) so_far.holds ∙ sym (fold_more step (held was) xs k d l);
        same_lengths = change.same_lengths ∙ so_far.same_lengths;
        same_came = change.same_came ∙ so_far.same_came;
      }

  pub all_done : (k : ℕ) {is : Tables} → length xs ≤ k → SoFar k is → Changed (λ t. fold step t xs) was is
  all_done k l so_far =
      record {
        holds = so_far.holds ∙ ap (λ (ys : List A). fold step (held was) ys) (take_all k xs l);
        same_lengths = so_far.same_lengths;
        same_came = so_far.same_came;
      }
