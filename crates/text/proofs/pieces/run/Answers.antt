use Rattle.std.proofs.Common.{◌/◌, eqb, length, arith}
use Rattle.std.proofs.lemmas.List.Sums.{prefix_len-le-length}
use Rattle.text.proofs.Blocks.{blocks_within, run_by_blocks}
use Rattle.text.proofs.pieces.run.Goals as goal

pub overflow_mul-whole : goal.overflow_mul-whole
overflow_mul-whole c = omega (arith, blocks_within c.args.byte 16 (length c.args.way.now / 16) c.args.way.now c.as_chunks.ensures.front c.alike-whole.ensures)

pub split_at-requires : goal.split_at-requires
split_at-requires c = blocks_within c.args.byte 16 (length c.args.way.now / 16) c.args.way.now c.as_chunks.ensures.front c.alike-whole.ensures

pub overflow_add-result : goal.overflow_add-result
overflow_add-result c = omega (arith, c.short_run.ensures, c.split_at.ensures.back_len, prefix_len-le-length (eqb c.args.byte) c.split_at.result.1.now)

pub returns : goal.returns
returns c =
    run_by_blocks c.args.byte 16 (length c.args.way.now / 16) c.args.way.now c.as_chunks.ensures.front c.alike-whole.ensures c.split_at.ensures.back c.short_run.ensures
