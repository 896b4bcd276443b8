use Rattle.std.proofs.Common.{ℕ, ◌*◌, ◌≤◌, ap, mul-le-mul, arith}
use Rattle.house.specs.Reading.{house_of}
use Rattle.uses.proofs.HeldCost.{cost_held}
use Rattle.uses.proofs.house_uses.HouseUses.passages_cost.Goals as goal

pub returns-clause-left : goal.returns-clause-left
returns-clause-left c =
    let uses = c.args.self in
    omega (arith, ap (λ (k : ℕ). uses.house.apart * k) c.in_passages.ensures.is, cost_held uses.entries.now (house_of uses.house))

pub returns-clause-small : goal.returns-clause-small
returns-clause-small c =
    let way : c.args.self.house.apart ≤ 200 = omega arith in
    omega (arith, mul-le-mul way c.in_passages.ensures.small)
