use Rattle.std.proofs.Common.{◌≡◌, ◌++◌, take, string_bytes}
use Rattle.std.specs.List.{flat_map}
use Rattle.ir_text.specs.Text.{block_text}
use Rattle.ir_text.proofs.printing.print.Given as goal

-- the text so far
abbrev pub invariant-loop-block : goal.invariant-loop-block
invariant-loop-block l = string_bytes l.out ≡ string_bytes l.initial.out ++ flat_map block_text (take l.block-index l.blocks)
