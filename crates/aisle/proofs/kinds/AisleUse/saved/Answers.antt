use Rattle.std.proofs.Common.{◌≡◌, ℕ, sym, ap, ◌∙◌, arith}
use Rattle.aisle.specs.Costs.{use_cost}
use Rattle.aisle.specs.Values.{use_of, total_of}
use Rattle.aisle.specs.declared.kinds.AisleUse.{AisleUse}
use Rattle.aisle.proofs.CodeCosts.{total_is_cost}
use Rattle.aisle.proofs.kinds.AisleUse.saved.Goals as goal

known_cost : (deep : ℕ) {u v : AisleUse} → u ≡ v → use_cost deep (use_of u) ≡ total_of deep (use_of v)
known_cost deep {v = v} e = ap (λ (w : AisleUse). use_cost deep (use_of w)) e ∙ sym (total_is_cost deep (use_of v))

pub returns-in-Once : goal.returns-in-Once
returns-in-Once c = omega (arith, known_cost c.args.deep c.in-Once.is)

pub returns-in-Twice : goal.returns-in-Twice
returns-in-Twice c = omega (arith, known_cost c.args.deep c.in-Twice.is)

pub returns-in-Leaving : goal.returns-in-Leaving
returns-in-Leaving c = omega (arith, known_cost c.args.deep c.in-Leaving.is)
