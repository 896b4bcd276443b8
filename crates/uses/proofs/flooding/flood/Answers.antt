use Rattle.std.proofs.Common.{ap, ◌∙◌, arith}
use Rattle.house.specs.House.{desk}
use Rattle.uses.specs.Flood.{Flooding, code_of, offered}
use Rattle.uses.proofs.FloodEnd.{flood_start, flood_within, flood_more, flood_less, flood_end}
use Rattle.uses.proofs.flooding.flood.Goals as goal

pub loop-at-init : goal.loop-at-init
loop-at-init c =
    flood_start _ _ (omega arith) (omega arith) (omega arith) (c.offer.ensures ∙ ap (λ (f : Flooding). offered 1 (code_of desk) f) c.new-flood.ensures)

pub at-requires : goal.at-requires
at-requires c = flood_within _ _ (omega arith) (omega arith) _ _ c.loop-at.invariant c.in-Some.ensures

pub loop-at-preserved : goal.loop-at-preserved
loop-at-preserved c =
    let at = c.at.ensures in
    flood_more _ _ (omega arith) (omega arith) _ _ c.loop-at.invariant c.in-Some.ensures (grind (arith, at.house, at.entries, at.at, c.leave.ensures))

pub loop-at-smaller : goal.loop-at-smaller
loop-at-smaller c =
    let at = c.at.ensures in
    flood_less _ _ (omega arith) (omega arith) _ _ c.loop-at.invariant c.in-Some.ensures (grind (arith, at.house, at.entries, at.at, c.leave.ensures))

pub returns : goal.returns
returns c = flood_end _ _ (omega arith) (omega arith) (omega arith) c.loop-at.invariant c.in_default.ensures
