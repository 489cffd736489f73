use Rattle.std.proofs.Common.{◌≡◌, ◌+◌, take, All}
use Rattle.ir_syntax.specs.Typed.{IsWellTyped}
use Rattle.ir_file.specs.Lines.{lines_of_blocks}
use Rattle.ir_file.proofs.lines.first_untyped.Given as goal

abbrev pub invariant-loop-block : goal.invariant-loop-block
invariant-loop-block l = record {
  so_far : l.line ≡ lines_of_blocks (take l.block-index l.blocks) + 2;
  typed : All IsWellTyped (take l.block-index l.blocks);
}
