use Rattle.std.proofs.Common.{◌-◌}
use Rattle.classes.specs.Values.{class_of}
use Rattle.partial.proofs.Traced.{Read}
use Rattle.partial.proofs.trace.trace.Given as goal

-- the class so far, and the choices of the aisles behind it; beyond the house there is none
abbrev pub invariant-loop-aisle : goal.invariant-loop-aisle
invariant-loop-aisle l = Read l.aisles l.came (class_of l.initial.class) l.numbers (class_of l.class) (l.aisles - l.aisle)
