use Rattle.std.proofs.Common.{◌+◌, ◌≤◌, ap, arith, length}
use Rattle.ir_text.specs.Text.{text}
use Rattle.ir_file.specs.Lines.{lines_of_blocks}
use Rattle.ir_file.proofs.Counting.{lines_within}
use Rattle.ir_file.proofs.reading.typed.Goals as goal

pub first_untyped-requires : goal.first_untyped-requires
first_untyped-requires c =
    let few : lines_of_blocks c.args.blocks.items + 1 ≤ length (text c.args.blocks.items) = lines_within c.args.blocks.items in
    omega (arith, few, ap length c.requires.text, c.requires.within, ap lines_of_blocks c.deref.ensures.value)
