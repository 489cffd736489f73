use Rattle.std.proofs.Common.{◌≡◌, ◌++◌, take, string_bytes}
use Rattle.std.specs.List.{flat_map}
use Rattle.ir_text.specs.Text.{part_text}
use Rattle.ir_text.proofs.printing.push_parts.Given as goal

-- the text so far
abbrev pub invariant-loop-part : goal.invariant-loop-part
invariant-loop-part l = string_bytes l.out ≡ string_bytes l.initial.out ++ flat_map part_text (take l.part-index l.parts)
