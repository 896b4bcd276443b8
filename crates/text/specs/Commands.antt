-- What the arguments of a program ask for. Assumes nothing: these are definitions.
use Rattle.std.specs.Prelude.{ℕ, Bool, cond, List, ◌++◌, Some, None, Ok, Err, codes, Option, Result, ◌==◌, slice_index}
use Rattle.std.specs.Borrow.{Bor}
use Rattle.std.specs.Str.{bytes_eq}
use Rattle.text.specs.declared.command.Source.{Source}
use Rattle.text.specs.declared.command.Source.TheVariants.{Standard, File}
use Rattle.text.specs.declared.command.PlanCommand.{PlanCommand}
use Rattle.text.specs.declared.command.PlanCommand.TheVariants as plan
use Rattle.text.specs.declared.command.PlanCommand.TheVariants.{Lines, Steps, Svg}
use Rattle.text.specs.declared.command.CheckCommand.{CheckCommand}
use Rattle.text.specs.declared.command.CheckCommand.TheVariants as check
use Rattle.text.specs.declared.command.CheckCommand.TheVariants.{Check}
use Rattle.text.specs.declared.command.Misuse.{Misuse}
use Rattle.text.specs.declared.command.Misuse.TheVariants.{Unknown, TooMany}

-- an argument, if there is one: where its text is, and what it is
abbrev pub Arg : Type 0
Arg = Option (Bor (List ℕ))

-- what begins with a hyphen is an option
abbrev pub dashed : List ℕ → Bool
dashed name = slice_index name 0 == 45

-- no more arguments
abbrev pub alone : {A : Type 0} → Arg → A → Result A Misuse
alone None x = Ok x
alone (Some more) x = Err TooMany

-- the file that is named, or standard input where none is
abbrev pub source_of : Arg → Arg → Result Source Misuse
source_of None second = Ok Standard
source_of (Some name) second = cond (dashed name.now) (Err (Unknown name)) (alone second (File name))

-- a command on what is read
abbrev pub asked : {A : Type 0} → (Source → A) → Result Source Misuse → Result A Misuse
asked command (Ok source) = Ok (command source)
asked command (Err misuse) = Err misuse

abbrev pub plan_command_of : Arg → Arg → Arg → Result PlanCommand Misuse
plan_command_of None second third = Ok (Lines Standard)
plan_command_of (Some name) second third =
    cond (bytes_eq name.now (codes "--help")) (alone second plan.Help)
    (cond (bytes_eq name.now (codes "--steps")) (asked Steps (source_of second third))
    (cond (bytes_eq name.now (codes "--svg")) (asked Svg (source_of second third))
    (asked Lines (source_of (Some name) second))))

abbrev pub check_command_of : Arg → Arg → Result CheckCommand Misuse
check_command_of None second = Ok (Check Standard)
check_command_of (Some name) second = cond (bytes_eq name.now (codes "--help")) (alone second check.Help) (asked Check (source_of (Some name) second))

-- the line that tells of a misuse
abbrev pub misuse_line : Misuse → List ℕ
misuse_line (Unknown name) = codes "unknown option " ++ name.now
misuse_line TooMany = codes "too many arguments"
