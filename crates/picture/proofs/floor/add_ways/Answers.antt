use Rattle.picture.proofs.floor.add_ways.Goals as goal

pub returns : goal.returns
returns c = rw (c.across-right.ensures, c.down-back.ensures) at c.writeln.ensures.bytes
