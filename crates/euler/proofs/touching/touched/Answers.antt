use Rattle.std.proofs.Common.{◌∙◌}
use Rattle.house.specs.Reading.{house_of, spot_of}
use Rattle.euler.proofs.Touched.{chosen_touches}
use Rattle.euler.proofs.touching.touched.Goals as goal

pub returns : goal.returns
returns c =
    let uses = c.args.uses in
    c.is_some.ensures ∙ chosen_touches (house_of uses.house) uses.entries.now (spot_of c.args.at) c.choose.result c.requires c.choose.ensures
