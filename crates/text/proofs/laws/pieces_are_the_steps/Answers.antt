use Rattle.text.proofs.Gathered.{pieces_are_the_steps}
use Rattle.text.proofs.laws.pieces_are_the_steps.Goals as goal

pub returns : goal.returns
returns c = pieces_are_the_steps
