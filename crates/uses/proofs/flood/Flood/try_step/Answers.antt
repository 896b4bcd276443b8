use Rattle.std.proofs.Common.{sym, ◌∙◌, arith}
use Rattle.uses.proofs.Tried.{tried_out, tried_seen}
use Rattle.uses.proofs.flood.Flood.try_step.Goals as goal

pub bounds-from-entry : goal.bounds-from-entry
bounds-from-entry c = omega (arith, (c.in-Some.ensures.stays c.args.from.inside).0, c.args.from.room)

pub returns-in-Some : goal.returns-in-Some
returns-in-Some c = c.offer.ensures ∙ sym (tried_seen _ _ _ _ _ c.in-Some.ensures)

pub returns-in_default : goal.returns-in_default
returns-in_default c = sym (tried_out _ _ _ _ _ c.in_default.ensures)
