use Rattle.std.proofs.Common.{◌≡◌, Bool, List, Some, None, Err, rules, sym, refl, ap, ◌∙◌, arith}
use Rattle.std.specs.Option.{option_map}
use Rattle.house.specs.House.{desk}
use Rattle.house.specs.Rules.{at_pick}
use Rattle.house.specs.Reading.{house_of, spot_of}
use Rattle.house.specs.declared.refusal.Refusal.TheVariants.{LeadsOut}
use Rattle.walk.specs.Steps.{reached}
use Rattle.walk.specs.Marking.{all_marked}
use Rattle.walk.proofs.Trail.{trail_none, trail_more, trail_out, trail_all}
use Rattle.walk.proofs.checker.walk_over.Goals as goal

pub loop-i-init : goal.loop-i-init
loop-i-init c = trail_none _ _ _ _ (omega arith) refl

pub returns-in_err-at : goal.returns-in_err-at
returns-in_err-at c =
    let out : c.onward.result ≡ None = search rules in
    let told : c.from_residual.result ≡ Err (LeadsOut c.loop-i.i) = search rules in
    rw told (ap (at_pick LeadsOut) (trail_out _ _ _ _ _ _ c.loop-i.invariant c.loop-i-test.true (sym c.onward.ensures ∙ ap (option_map spot_of) out)))

pub loop-i-preserved : goal.loop-i-preserved
loop-i-preserved c =
    let on : c.onward.result ≡ Some c.in_ok-at.at = search rules in
    trail_more _ _ _ _ _ _ c.loop-i.invariant c.loop-i-test.true (sym c.onward.ensures ∙ ap (option_map spot_of) on) (search rules)

pub returns : goal.returns
unfolding all_marked
returns c =
    let done = trail_all _ _ _ _ _ _ c.loop-i.invariant c.loop-i-test.false in (
      ap (at_pick LeadsOut) done.stays_in,
      done.leads,
      done.marks ∙ ap (λ (flags : List Bool). all_marked flags (reached (house_of c.args.house) desk c.args.way.now)) c.mark.ensures,
    )
