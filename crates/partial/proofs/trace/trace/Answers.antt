use Rattle.std.proofs.Common.{ℕ, ◌-◌, get_or, replicate, refl, ap, arith}
use Rattle.classes.specs.Values.{class_of}
use Rattle.partial.proofs.Traced.{all_zero, read_none, read_more, read_all}
use Rattle.partial.proofs.trace.trace.Goals as goal

pub loop-aisle-init : goal.loop-aisle-init
loop-aisle-init c =
    read_none c.args.aisles c.args.came.now (class_of c.args.end) (replicate 64 0) (c.args.aisles - c.args.aisles) refl (all_zero 64) (omega arith)

pub loop-aisle-preserved : goal.loop-aisle-preserved
loop-aisle-preserved c =
    let i : ℕ = c.loop-aisle.aisle - 1 in
    read_more c.args.aisles c.args.came.now (class_of c.args.end) c.loop-aisle.numbers (class_of c.loop-aisle.class) _ (c.args.aisles - c.loop-aisle.aisle) i
    (get_or c.args.came.now c.cell.result 0) (c.args.aisles - i) c.requires (omega arith) (omega arith) (omega arith)
    (ap (λ (n : ℕ). get_or c.args.came.now n 0) c.cell.ensures.place) c.from-class.ensures.class c.loop-aisle.invariant

pub returns : goal.returns
returns c =
    record {
      beyond = c.loop-aisle.invariant.2;
      each =
          read_all c.args.aisles c.args.came.now (class_of c.args.end) c.loop-aisle.numbers (class_of c.loop-aisle.class)
          (c.args.aisles - c.loop-aisle.aisle) (omega arith) c.loop-aisle.invariant;
    }
