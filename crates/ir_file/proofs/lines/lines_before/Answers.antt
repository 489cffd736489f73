use Rattle.std.proofs.Common.{◌^◌, ◌+◌, ◌<◌, arith}
use Rattle.ir_file.proofs.Typing.{lines_fit, part_there}
use Rattle.ir_file.proofs.lines.lines_before.Goals as goal

pub slice_bounds-lines_of-end : goal.slice_bounds-lines_of-end
slice_bounds-lines_of-end c = part_there c.args.block.now.parts c.as_slice.result.now c.args.fault c.as_slice.ensures c.requires.wrong

pub overflow_add-result-2 : goal.overflow_add-result-2
overflow_add-result-2 c =
    let all : c.lines_of.result + c.args.fault.op + 1 < 2 ^ 64 = lines_fit c.args.block.now.parts c.as_slice.result.now c.args.fault c.lines_of.result (2 ^ 64) c.as_slice.ensures c.requires.wrong c.lines_of.ensures c.requires.few in
    omega (arith, all)

pub overflow_add-result : goal.overflow_add-result
overflow_add-result c =
    let all : c.lines_of.result + c.args.fault.op + 1 < 2 ^ 64 = lines_fit c.args.block.now.parts c.as_slice.result.now c.args.fault c.lines_of.result (2 ^ 64) c.as_slice.ensures c.requires.wrong c.lines_of.ensures c.requires.few in
    omega (arith, all)
