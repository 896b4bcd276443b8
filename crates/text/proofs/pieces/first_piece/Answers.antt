use Rattle.std.proofs.Common.{◌∙◌, arith}
use Rattle.text.proofs.Runs.{first_of_none, first_of_run}
use Rattle.text.proofs.pieces.first_piece.Goals as goal

pub returns-in_err-byte : goal.returns-in_err-byte
returns-in_err-byte c = c.from_residual.ensures ∙ first_of_none c.args.way.now (omega (arith, c.in_err-byte.ensures.item.3))

pub returns : goal.returns
returns c =
    let item = c.in_ok-byte.ensures.item.3 in
    c.of.ensures ∙ first_of_run c.args.way.now c.in_ok-byte.field-0.now _ item.0 (item.1 0) (omega (arith, c.run.ensures))
