use Rattle.std.proofs.Common.{◌≡◌, ◌++◌, take, string_bytes}
use Rattle.std.specs.List.{flat_map}
use Rattle.ir_text.specs.Text.{op_text}
use Rattle.ir_text.proofs.printing.push_ops.Given as goal

-- the text so far
abbrev pub invariant-loop-op : goal.invariant-loop-op
invariant-loop-op l = string_bytes l.out ≡ string_bytes l.initial.out ++ flat_map op_text (take l.op-index l.ops)
