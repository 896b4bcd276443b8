use Rattle.std.proofs.Common.{ap, length, ◌∷◌, [], arith, length-append}
use Rattle.uses.proofs.Unseen.{unseen_set}
use Rattle.uses.proofs.flood.Flood.offer.Goals as goal

pub push-requires : goal.push-requires
push-requires c = omega (arith, c.self.invariant, unseen_set c.self.inside.seen c.cell-place.result (omega arith) c.if-not-self-place.true)

pub invariant_of-self : goal.invariant_of-self
invariant_of-self c =
    omega (
      arith,
      c.self.invariant,
      unseen_set c.self.inside.seen c.cell-place.result (omega arith) c.if-not-self-place.true,
      ap length c.push.ensures,
      length-append c.self.inside.waiting (c.args.next ∷ []),
    )
