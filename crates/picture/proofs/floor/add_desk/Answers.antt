use Rattle.picture.proofs.floor.add_desk.Goals as goal

pub returns : goal.returns
returns c = rw (c.down.ensures) at c.writeln.ensures.bytes
