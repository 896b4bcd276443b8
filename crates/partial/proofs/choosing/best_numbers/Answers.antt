use Rattle.std.proofs.Common.{List, ℕ, length, ap}
use Rattle.house.specs.Reading.{house_of}
use Rattle.partial.specs.Table.{tables}
use Rattle.partial.proofs.Lifted.{whole_chunk, chosen_by_chunks, room_for_tables, second_short}
use Rattle.partial.proofs.choosing.best_numbers.Goals as goal

pub returns-in_default-first_chunk_mut : goal.returns-in_default-first_chunk_mut
returns-in_default-first_chunk_mut c = (
  second_short (length c.args.lengths.now) (length c.args.came.now) c.in-Some.ensures.cases.enough c.in_default-first_chunk_mut.ensures.cases,
  ap (λ (ls : List ℕ). tables ls c.args.came.now) (whole_chunk c.args.lengths.now c.in-Some.lengths.now c.in-Some.ensures.cases),
)

pub returns : goal.returns
returns c =
    let first = c.in-Some.ensures.cases in
    let second = c.in-Some-first_chunk_mut.ensures.cases in (
      room_for_tables (length c.args.lengths.now) (length c.args.came.now) first.enough second.enough,
      chosen_by_chunks (house_of c.args.house) _ c.args.lengths.now c.args.came.now _ _ c.choose.new.lengths c.choose.new.came c.choose.result
          c.args.house.few_aisles first second c.choose.ensures,
    )
