-- A piece of a way: the steps that it stands for, and its text. Assumes nothing: these are definitions.
use Rattle.std.specs.Prelude.{ℕ, cond, List, ◌++◌, replicate, Some, None, codes, decimal, Option, ◌==◌, nat_lt}
use Rattle.walk.specs.Codes.{byte_of}
use Rattle.walk.specs.declared.step.Step.{Step}
use Rattle.walk.specs.declared.step.Step.TheVariants.{Deeper, Back, NextFront, BeforeFront, NextBack, BeforeBack}
use Rattle.text.specs.declared.piece.Piece.{Piece}

-- how many steps a piece has
abbrev pub count_of : Piece → ℕ
count_of p = p.steps

-- the sort of a piece: the byte of each of its steps
abbrev pub sort_of : Piece → ℕ
sort_of p = byte_of p.step

-- a piece written out again as its steps
abbrev pub steps_in : Piece → List ℕ
steps_in p = replicate (count_of p) (sort_of p)

-- the step with this byte, from 0 to 5
abbrev pub step_with : ℕ → Step
step_with b = cond (b == 0) Deeper (cond (b == 1) Back (cond (b == 2) NextFront (cond (b == 3) BeforeFront (cond (b == 4) NextBack BeforeBack))))

-- n steps with this byte, from 0 to 5, as a piece
abbrev pub piece_of : ℕ → ℕ → Piece
piece_of b n = record { step = step_with b; steps = n }

-- the same of any byte: above 5 there is no step
abbrev pub piece_at : ℕ → ℕ → Option Piece
piece_at b n = cond (nat_lt b 6) (Some (piece_of b n)) None

-- the words for a step
abbrev pub step_words : Step → List ℕ
step_words Deeper = codes "in"
step_words Back = codes "out"
step_words NextFront = codes "next front"
step_words BeforeFront = codes "before front"
step_words NextBack = codes "next back"
step_words BeforeBack = codes "before back"

-- the words for a sort
abbrev pub words_of : Piece → List ℕ
words_of p = step_words p.step

abbrev pub piece_text : Piece → List ℕ
piece_text p = words_of p ++ (codes " " ++ decimal (count_of p))
