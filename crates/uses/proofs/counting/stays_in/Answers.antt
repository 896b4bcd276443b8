use Rattle.std.proofs.Common.{Some, refl, ap, ◌∙◌, arith}
use Rattle.std.proofs.lemmas.Result.{err_from_is_err_and}
use Rattle.house.specs.Rules.{at_pick}
use Rattle.house.specs.declared.refusal.Refusal.TheVariants.{LeadsOut}
use Rattle.uses.proofs.Tally.{reach_none, reach_more, reach_out, reach_all}
use Rattle.uses.proofs.counting.stays_in.Goals as goal

pub loop-i-init : goal.loop-i-init
loop-i-init c = reach_none _ _ (omega arith)

pub returns-in_err-at : goal.returns-in_err-at
returns-in_err-at c =
    let (out, told) = c.in_err-at.ensures in
    let p = err_from_is_err_and c.from_residual.result c.from_residual.ensures.1 in
    rw (p.1, p.2) (ap (at_pick LeadsOut) (reach_out _ _ _ _ c.loop-i.invariant c.loop-i-test.true out) ∙ ap Some told)

pub loop-i-preserved : goal.loop-i-preserved
loop-i-preserved c = reach_more _ _ _ _ c.loop-i.invariant c.loop-i-test.true c.in_ok-at.ensures.leads

pub returns : goal.returns
returns c = (refl, ap (at_pick LeadsOut) (reach_all _ _ _ _ c.loop-i.invariant c.loop-i-test.false))
