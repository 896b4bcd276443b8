use Rattle.std.proofs.Common.{string_bytes}
use Rattle.house.specs.Reading.{house_of, spot_of}
use Rattle.walk.specs.Codes.{byte_of}
use Rattle.picture.specs.Strokes.{last_of}
use Rattle.picture.proofs.Drawn.{drawn_more}
use Rattle.picture.proofs.strokes.add_strokes.Goals as goal

pub loop-byte-preserved : goal.loop-byte-preserved
loop-byte-preserved c =
    drawn_more (house_of c.args.house) (spot_of c.loop-byte.pen.at) (last_of c.loop-byte.pen.last) c.args.way.now c.loop-byte.byte-index (string_bytes c.loop-byte.text)
    c.loop-byte.invariant (byte_of c.in-Some.step) c.loop-byte-test.true c.in-Some.ensures.0 c.in-Some.ensures.1 c.in_ok-add_turn.ensures
