use Rattle.std.proofs.Common.{append_assoc}
use Rattle.picture.specs.Picture.{way_of}
use Rattle.picture.proofs.sheet.add_way.Goals as goal

pub returns : goal.returns
unfolding way_of
returns c = simp (c.in_ok-add_strokes.ensures, c.in_ok-writeln.ensures.bytes, append_assoc) at c.writeln-2.ensures.bytes
