use Rattle.std.proofs.Common.{◌≡◌, ◌∙◌, get_or, rules}
use Rattle.std.specs.Option.{option_map_or}
use Rattle.house.specs.Reading.{house_of, spot_of}
use Rattle.walk.specs.Codes.{byte_of}
use Rattle.uses.proofs.MeetSteps.{used_looked}
use Rattle.uses.proofs.crossing.Crossing.used.Goals as goal

pub returns-clause-is : goal.returns-clause-is
returns-clause-is c =
    let a = c.args.self in
    let is : c.map_or.result ≡ option_map_or (λ p. get_or a.entries.now p.0 0) c.look.result 0 = search rules in
    is ∙ used_looked (house_of a.house) a.entries.now (spot_of a.at) (byte_of c.args.step) c.look.result c.look.ensures
