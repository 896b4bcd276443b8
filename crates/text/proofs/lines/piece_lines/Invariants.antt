use Rattle.std.proofs.Common.{◌≡◌, ◌++◌, string_bytes}
use Rattle.text.specs.Lines.{piece_lines}
use Rattle.text.proofs.lines.piece_lines.Given as goal

-- the lines so far, and those of what is left
abbrev pub invariant-loop-piece : goal.invariant-loop-piece
invariant-loop-piece l = string_bytes l.text ++ piece_lines l.piece-iterator.rest.now ≡ piece_lines l.way
