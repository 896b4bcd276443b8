use Rattle.std.proofs.Common.{ℕ, ◌≤◌, List, length, sym, ap, subst, ◌∙◌}
use Rattle.house.specs.Bounds.{Whole}
use Rattle.house.specs.Rules.{aisle_rule, shelf_rule}
use Rattle.house.proofs.Fits.{kept_in_aisles, kept_on_shelves}
use Rattle.house.proofs.reader.placed.Goals as goal

pub invariant_of-result : goal.invariant_of-result
invariant_of-result c =
    let same = c.in_ok-bytes.ensures.0 ∙ c.in_ok-list.ensures.0 in
    record {
      whole = subst Whole (sym same) c.requires.whole;
      few = subst (λ (l : List ℕ). length l ≤ 1024) (sym same) c.requires.few;
      in_aisles = kept_in_aisles c.args.house.aisles _ (ap (aisle_rule c.args.house.aisles) same ∙ c.in_ok-list.ensures.1);
      on_shelves = kept_on_shelves c.args.house.deep _ (ap (shelf_rule c.args.house.deep) c.in_ok-bytes.ensures.0 ∙ c.in_ok-bytes.ensures.1);
    }
