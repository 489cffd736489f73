-- One small type of the lower crates as another.
use Rattle.ir_syntax.specs.declared.request.BadKind.{BadKind as IrBadKind}
use Rattle.ir_syntax.specs.declared.request.BadKind.TheVariants as ir_bad
use Rattle.ir_syntax.specs.declared.request.Change.{Change as IrChange}
use Rattle.ir_syntax.specs.declared.request.Change.TheVariants as ir_made
use Rattle.ir_syntax.specs.declared.width.Width.{Width as IrWidth}
use Rattle.ir_syntax.specs.declared.width.Width.TheVariants as ir_size
use Rattle.lib_table.specs.declared.answer.BadKind.{BadKind}
use Rattle.lib_table.specs.declared.answer.BadKind.TheVariants as bad
use Rattle.lib_table.specs.declared.ask.Asked.{Asked}
use Rattle.lib_table.specs.declared.ask.Asked.TheVariants as asked
use Rattle.tso_memory.specs.declared.change.Change as memory_change
use Rattle.tso_memory.specs.declared.change.Change.TheVariants as made
use Rattle.tso_memory.specs.declared.write.Width as memory_width
use Rattle.tso_memory.specs.declared.write.Width.TheVariants as size
use Rattle.x86_forms.specs.declared.operands.Width.{Width}
use Rattle.x86_forms.specs.declared.operands.Width.TheVariants.{W8, W16, W32, W64}
use Rattle.x86_model.specs.declared.want.BadStep.{BadStep}
use Rattle.x86_model.specs.declared.want.BadStep.TheVariants.{Code, Divide}
use Rattle.x86_model.specs.declared.want.Change.{Change}
use Rattle.x86_model.specs.declared.want.Change.TheVariants.{Xchg, Add, Sub, And, Or, Xor, Cmpxchg}
use Rattle.x86_model.specs.declared.want.Door.{Door}
use Rattle.x86_model.specs.declared.want.Door.TheVariants.{End, Call}

-- an operand's width, for memory
abbrev pub memory_width_of : Width → memory_width.Width
memory_width_of W8 = size.W8
memory_width_of W16 = size.W16
memory_width_of W32 = size.W32
memory_width_of W64 = size.W64

-- a locked instruction's change, for memory
abbrev pub memory_change_of : Change → memory_change.Change
memory_change_of (Xchg v) = made.Xchg v
memory_change_of (Add v) = made.Add v
memory_change_of (Sub v) = made.Sub v
memory_change_of (And v) = made.And v
memory_change_of (Or v) = made.Or v
memory_change_of (Xor v) = made.Xor v
memory_change_of (Cmpxchg want new) = made.Cmpxchg want new

-- why an instruction can't be carried out, as a run's ending tells it
abbrev pub kind_of : BadStep → BadKind
kind_of Code = bad.Code
kind_of Divide = bad.Divide

-- a return to a door, for the library
abbrev pub asked_at : Door → Asked
asked_at End = asked.EndDoor
asked_at Call = asked.CallDoor

-- ---- what a part asks for

-- the width of an access, for memory
abbrev pub request_width_of : IrWidth → memory_width.Width
request_width_of ir_size.W8 = size.W8
request_width_of ir_size.W16 = size.W16
request_width_of ir_size.W32 = size.W32
request_width_of ir_size.W64 = size.W64

-- a locked line's change, for memory
abbrev pub request_change_of : IrChange → memory_change.Change
request_change_of (ir_made.Xchg v) = made.Xchg v
request_change_of (ir_made.Add v) = made.Add v
request_change_of (ir_made.Sub v) = made.Sub v
request_change_of (ir_made.And v) = made.And v
request_change_of (ir_made.Or v) = made.Or v
request_change_of (ir_made.Xor v) = made.Xor v
request_change_of (ir_made.Cmpxchg want new) = made.Cmpxchg want new

-- why a part can't be carried out, as a run's ending tells it
abbrev pub request_kind_of : IrBadKind → BadKind
request_kind_of ir_bad.Code = bad.Code
request_kind_of (ir_bad.Access a) = bad.Access a
request_kind_of ir_bad.Divide = bad.Divide
request_kind_of ir_bad.Depth = bad.Depth
request_kind_of ir_bad.Door = bad.Door
