use Rattle.std.proofs.Common.{◌≤◌, List, length, Option, ap, ◌∙◌, rules}
use Rattle.house.specs.House.{Spot}
use Rattle.aisle.specs.Reach.{Reach, depths_of, reach_in}
use Rattle.aisle.proofs.Passed.{best_from_reach}
use Rattle.partial.specs.Prices.{cost_or_never, price_from}
use Rattle.partial.proofs.Parted.{part_within, part_spots}
use Rattle.partial.proofs.fill.part.Goals as goal

pub slice_bounds-of-end : goal.slice_bounds-of-end
slice_bounds-of-end c =
    let within : c.part_end-to.result ≤ length c.args.picks.now = part_within c.args.aisle c.args.picks.now c.args.from c.part_end-to.result c.part_end-to.ensures c.requires in
    search rules

pub returns : goal.returns
returns c =
    record {
      end = c.part_end-to.ensures;
      within = part_within c.args.aisle c.args.picks.now c.args.from c.part_end-to.result c.part_end-to.ensures c.requires;
      costs = λ e. c.past-prices.ensures e ∙ ap (λ (r : Option Reach). price_from c.args.house.deep r e) c.of.ensures
          ∙ ap (λ (ss : List Spot). price_from c.args.house.deep (reach_in (depths_of ss)) e) (part_spots c.args.aisle c.args.picks.now c.args.from c.part_end-to.result c.part_end-to.ensures)
          ∙ ap (cost_or_never c.args.house.deep) (best_from_reach c.args.house.deep _ e);
    }
