use Rattle.walk.proofs.Unique.{bytes_tell_the_walk}
use Rattle.walk.proofs.laws.bytes_tell_the_walk.Goals as goal

pub returns : goal.returns
returns c = bytes_tell_the_walk
