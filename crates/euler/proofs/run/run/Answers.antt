use Rattle.std.proofs.Common.{◌≡◌, ◌+◌, ◌-◌, length, take, drop, replicate, set, refl, ap, ◌∙◌, arith, rules, length-take, length-drop}
use Rattle.euler.proofs.Going.{filled_middle, once_ran, straight_used, straight_ran}
use Rattle.euler.proofs.run.run.Goals as goal

pub returns-in_default : goal.returns-in_default
returns-in_default c =
    once_ran c.args.pass.now c.requires.opens (omega (arith, (c.requires.opens.seen.stays c.requires.inside).0)) (omega arith) c.take.ensures
    (ap (set c.args.steps.now c.args.pass.now.top) c.into.ensures)
    c.advance.ensures

pub wear-requires : goal.wear-requires
wear-requires c =
    let run = c.in-Some.straight in
    straight_used c.in-Some.ensures (omega arith) (run.start + run.long - run.start) (omega arith)

pub returns : goal.returns
returns c =
    let run = c.in-Some.straight in
    let top = c.args.pass.now.top in
    let many = top + run.long - top in
    let part = take many (drop top c.args.steps.now) in
    let length_part : length part ≡ many = omega (arith, length-take many (drop top c.args.steps.now), length-drop top c.args.steps.now, c.in-Some.ensures.short) in
    straight_ran c.in-Some.ensures (omega arith) (run.start + run.long - run.start) (omega arith) c.wear.new.left (omega arith) c.wear.ensures c.args.pass.now refl refl (omega arith)
    (filled_middle c.args.steps.now top _ many run.long (omega arith) (omega (arith, c.in-Some.ensures.short))
    (c.fill.ensures.after (λ y e. search rules) ∙ (λ i. replicate (length_part i) (c.into-2.ensures i))))
    c.advance-2.ensures
