use Rattle.picture.proofs.floor.add_aisle.Goals as goal

pub returns : goal.returns
returns c = rw (c.across-x.ensures, c.down-back.ensures) at c.writeln.ensures.bytes
