-- What an operand is, and what an instruction does beside registers and flags.
use Rattle.std.specs.Prelude.{Bool, true, false, ◌||◌, if◌then◌else◌}
use Rattle.x86_forms.specs.declared.operands.Operand.{Operand}
use Rattle.x86_forms.specs.declared.operands.Operand.TheVariants as operand
use Rattle.x86_forms.specs.declared.operands.OperandKind.{OperandKind}
use Rattle.x86_forms.specs.declared.operands.OperandKind.TheVariants.{Register, Memory, Immediate}
use Rattle.x86_forms.specs.declared.instructions.Instr.{Instr}
use Rattle.x86_forms.specs.declared.instructions.Instr.TheVariants.{Alu, Mov, Zx, Sx, Push, Pop, One, Mul, Imul, Div, Shift, Xchg, Set, Cmov, Jcc, Jmp, JmpTo, Call, CallTo, Ret, Leave, Mfence, LockAlu, LockOne, Xadd, Cmpxchg}
use Rattle.x86_forms.specs.declared.instructions.Group.{Group}
use Rattle.x86_forms.specs.declared.instructions.Group.TheVariants as group

abbrev pub kind_of : Operand → OperandKind
kind_of (operand.Reg r) = Register
kind_of (operand.High r) = Register
kind_of (operand.Mem m) = Memory
kind_of (operand.Imm n) = Immediate

abbrev pub is_memory : Operand → Bool
is_memory (operand.Mem m) = true
is_memory (operand.Reg r) = false
is_memory (operand.High r) = false
is_memory (operand.Imm n) = false

-- a jump, a call or a return: what ends a basic block
abbrev pub is_transfer : Instr → Bool
is_transfer (Jcc cc rel) = true
is_transfer (Jmp rel) = true
is_transfer (JmpTo src) = true
is_transfer (Call rel) = true
is_transfer (CallTo src) = true
is_transfer (Ret extra) = true
is_transfer _ = false

-- what uses the stack
abbrev pub uses_stack : Instr → Bool
uses_stack (Push src) = true
uses_stack (Pop dst) = true
uses_stack Leave = true
uses_stack (Call rel) = true
uses_stack (CallTo src) = true
uses_stack (Ret extra) = true
uses_stack _ = false

-- what changes memory in one locked step, or waits for the writes before it
abbrev pub is_ordered : Instr → Bool
is_ordered (LockAlu op w mem src) = true
is_ordered (LockOne op w mem) = true
is_ordered (Xadd w mem reg) = true
is_ordered (Cmpxchg w mem reg) = true
is_ordered Mfence = true
is_ordered _ = false

-- whether an operand that is read or written is in memory; LEA takes an address alone
abbrev pub has_memory : Instr → Bool
has_memory (Alu op w dst src) = is_memory dst || is_memory src
has_memory (Mov w dst src) = is_memory dst || is_memory src
has_memory (Zx from w dst src) = is_memory src
has_memory (Sx from w dst src) = is_memory src
has_memory (Push src) = is_memory src
has_memory (One op w dst) = is_memory dst
has_memory (Mul signed w src) = is_memory src
has_memory (Imul w dst a b) = is_memory a || is_memory b
has_memory (Div signed w src) = is_memory src
has_memory (Shift op w dst count) = is_memory dst
has_memory (Xchg w a b) = is_memory a || is_memory b
has_memory (Set cc dst) = is_memory dst
has_memory (Cmov cc w dst src) = is_memory src
has_memory (JmpTo src) = is_memory src
has_memory (CallTo src) = is_memory src
has_memory _ = false

abbrev pub touches_memory : Instr → Bool
touches_memory i = uses_stack i || (is_ordered i || has_memory i)

abbrev pub group_of : Instr → Group
group_of i = if is_transfer i then group.Transfer else if touches_memory i then group.Memory else group.Private
