use Rattle.std.proofs.Common.{◌≡◌, ℕ, Some, length, ap, ◌∙◌, subst, arith}
use Rattle.std.proofs.lemmas.List.{length-replicate}
use Rattle.std.proofs.lemmas.Result.{err_from_is_err_and}
use Rattle.house.specs.Rules.{at_pick}
use Rattle.house.specs.declared.refusal.Refusal.TheVariants.{LeadsOut}
use Rattle.uses.specs.Counting.{Adds}
use Rattle.uses.specs.declared.miscount.Miscount.TheVariants.{Overfull}
use Rattle.uses.proofs.Taken.{sees_place}
use Rattle.uses.proofs.Tally.{told_out, tally_none, reach_out, tally_more, tally_full, tally_all}
use Rattle.uses.proofs.counting.tally.Goals as goal

pub loop-i-init : goal.loop-i-init
loop-i-init c = tally_none _ _ _ 12926 (omega arith) c.requires

pub returns-in_err-entry : goal.returns-in_err-entry
returns-in_err-entry c =
    let (out, told) = c.in_err-entry.ensures in
    let p = err_from_is_err_and c.from_residual.result c.from_residual.ensures.1 in
    rw (p.1, p.2) (ap (at_pick LeadsOut) (reach_out _ _ _ _ c.loop-i.invariant.reach c.loop-i-test.true out) ∙ ap Some told)

pub add-requires : goal.add-requires
add-requires c =
    omega (arith, ap length c.requires, length-replicate {A = ℕ} 12926 0, sees_place _ (omega arith) (omega arith) c.in_ok-entry.ensures c.loop-i.invariant.reach.inside)

pub returns-in_err-ok_or : goal.returns-in_err-ok_or
returns-in_err-ok_or c =
    let (none, told) = told_out c.add.result (Overfull c.loop-i.i) c.in_err-ok_or.field-0.0 c.ok_or.ensures.value c.in_err-ok_or.was in
    let full = subst (Adds c.loop-i.counts c.in_ok-entry.entry c.add.new.counts) none c.add.ensures in
    let p = err_from_is_err_and c.from_residual-in_err-ok_or.result c.from_residual-in_err-ok_or.ensures.1 in
    rw (p.1, p.2, ← told) (tally_full _ _ _ _ _ c.loop-i.invariant c.loop-i-test.true c.in_ok-entry.ensures full (λ i. omega (arith, c.type_inv.counts i)))

pub loop-i-preserved : goal.loop-i-preserved
loop-i-preserved c =
    let one : c.add.result ≡ Some c.in_ok-ok_or.field-0 = grind arith in
    let more = subst (Adds c.loop-i.counts c.in_ok-entry.entry c.add.new.counts) one c.add.ensures in
    tally_more _ _ _ _ _ c.loop-i.invariant c.loop-i-test.true c.in_ok-entry.ensures
    (omega (arith, ap length c.requires, length-replicate {A = ℕ} 12926 0, sees_place _ (omega arith) (omega arith) c.in_ok-entry.ensures c.loop-i.invariant.reach.inside))
    more

pub returns : goal.returns
returns c = tally_all _ _ _ _ _ c.loop-i.invariant c.loop-i-test.false
