use Rattle.std.proofs.Common.{◌≡◌, ℕ, ◌≤◌, sum, arith, rules}
use Rattle.std.proofs.lemmas.List.Elements.{All-from_get_or}
use Rattle.std.proofs.lemmas.List.Sums.{sum_by-le}
use Rattle.uses.proofs.costing.sum.Goals as goal

pub returns-clause-small : goal.returns-clause-small
returns-clause-small c =
    let is : c.sum.result ≡ sum c.args.entries.now = search rules in
    let small = All-from_get_or (λ (n : ℕ). n ≤ 255) c.args.entries.now 0 (λ i l. omega (arith, c.type_inv.entries i)) in
    omega (arith, sum_by-le (λ (n : ℕ). n) 255 c.args.entries.now small)
