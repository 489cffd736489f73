use Rattle.std.proofs.Common.{◌≡◌, take}
use Rattle.ir_file.specs.Lines.{lines_of_parts}
use Rattle.ir_file.proofs.lines.lines_of.Given as goal

abbrev pub invariant-loop-part : goal.invariant-loop-part
invariant-loop-part l = record { so_far : l.lines ≡ lines_of_parts (take l.part-index l.parts) }
