use Rattle.std.proofs.Common.{◌^◌, ◌+◌, ◌<◌, ap, arith, ◌∙◌, refl}
use Rattle.ir_file.specs.Lines.{lines_of_parts}
use Rattle.ir_file.proofs.Typing.{line_fits, more_lines, typed_more, untyped_at}
use Rattle.ir_file.proofs.lines.first_untyped.Goals as goal

pub overflow_add-result : goal.overflow_add-result
overflow_add-result c =
    let all : c.loop-block.line + c.lines_before.result < 2 ^ 64 =
    line_fits c.args.blocks.now c.loop-block.block-index c.block-item.result c.in-Err.fault c.loop-block.line c.lines_before.result (2 ^ 64)
    c.loop-block-test.true c.block-item.is c.in-Err.ensures.first_wrong c.loop-block.invariant.so_far c.lines_before.ensures c.requires in
    omega (arith, all)

pub returns-in-Err-clause-untyped : goal.returns-in-Err-clause-untyped
returns-in-Err-clause-untyped c =
    untyped_at c.args.blocks.now c.loop-block.block-index c.block-item.result c.in-Err.fault c.loop-block.line c.lines_before.result
    c.loop-block-test.true c.block-item.is c.loop-block.invariant.typed c.in-Err.ensures.first_wrong c.loop-block.invariant.so_far c.lines_before.ensures

pub loop-block-preserved : goal.loop-block-preserved
loop-block-preserved c = record {
  so_far =
      more_lines c.args.blocks.now c.loop-block.block-index c.block-item.result c.loop-block.line c.lines_of.result
      c.loop-block-test.true c.block-item.is c.loop-block.invariant.so_far (c.lines_of.ensures ∙ ap lines_of_parts c.as_slice.ensures);
  typed =
      typed_more c.args.blocks.now c.loop-block.block-index c.block-item.result
      c.loop-block-test.true c.block-item.is c.loop-block.invariant.typed ((c.in-Ok.ensures {u = tt}).well_typed.0 refl);
}
