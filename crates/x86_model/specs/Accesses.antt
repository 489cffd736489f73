-- What an instruction asks of memory before all else.
use Rattle.std.specs.Prelude.{ℕ, Option, Some, None}
use Rattle.x86_forms.specs.declared.operands.Width.{Width}
use Rattle.x86_forms.specs.declared.operands.Width.TheVariants.{W64}
use Rattle.x86_forms.specs.declared.operands.Mem.{Mem}
use Rattle.x86_forms.specs.declared.operands.Operand.{Operand}
use Rattle.x86_forms.specs.declared.operands.Operand.TheVariants.{Reg, High, Mem as InMem, Imm}
use Rattle.x86_forms.specs.declared.instructions.Instr.{Instr}
use Rattle.x86_forms.specs.declared.instructions.Instr.TheVariants.{Alu, Mov, Zx, Sx, Push, Pop, One, Mul, Imul, Div, Shift, Xchg, Cmov, JmpTo, CallTo, Ret, Leave, LockAlu, LockOne, Xadd, Cmpxchg}
use Rattle.x86_model.specs.declared.cpu.Cpu.{Cpu}
use Rattle.x86_model.specs.declared.want.BadStep.TheVariants.{Code}
use Rattle.x86_model.specs.declared.want.Change.{Change}
use Rattle.x86_model.specs.declared.want.Change.TheVariants as change
use Rattle.x86_model.specs.declared.want.Want.{Want}
use Rattle.x86_model.specs.declared.want.Want.TheVariants.{Load, Locked, Bad}
use Rattle.x86_model.specs.Registers.{reg, get}
use Rattle.x86_model.specs.Operands.{address, value}
use Rattle.x86_model.specs.Results.{change_by, change_one}

-- where an operand is, if it is in memory
abbrev pub memory_of : Operand → Option Mem
memory_of (InMem m) = Some m
memory_of (Reg r) = None
memory_of (High r) = None
memory_of (Imm n) = None

abbrev pub or_else : Option Mem → Option Mem → Option Mem
or_else (Some m) other = Some m
or_else None other = other

-- where one of two operands is, if one is in memory
abbrev pub memory_in : Operand → Operand → Option Mem
memory_in a b = or_else (memory_of a) (memory_of b)

-- an operand in memory is loaded
abbrev pub loading : Cpu → ℕ → Width → Option Mem → Option Want
loading s next w None = None
loading s next w (Some m) = Some (Load (address s next m) w)

-- memory is changed, where the operation takes LOCK
abbrev pub locking : Cpu → ℕ → Width → Mem → Option Change → Option Want
locking s next w m None = Some (Bad Code)
locking s next w m (Some c) = Some (Locked (address s next m) w c)

-- XCHG with memory is locked
abbrev pub exchanging : Cpu → ℕ → Width → Option Mem → ℕ → Option Want
exchanging s next w None v = None
exchanging s next w (Some m) v = Some (Locked (address s next m) w (change.Xchg v))

-- POP and RET read what rsp points to, LEAVE what rbp points to
unfoldable pub first_access : Instr → ℕ → Cpu → Option Want
first_access (Alu op w dst src) next s = loading s next w (memory_in dst src)
first_access (Mov w dst src) next s = loading s next w (memory_of src)
first_access (Zx from w dst src) next s = loading s next from (memory_of src)
first_access (Sx from w dst src) next s = loading s next from (memory_of src)
first_access (Push src) next s = loading s next W64 (memory_of src)
first_access (Pop dst) next s = Some (Load (reg s 4) W64)
first_access (One op w dst) next s = loading s next w (memory_of dst)
first_access (Mul signed w src) next s = loading s next w (memory_of src)
first_access (Imul w dst a b) next s = loading s next w (memory_in a b)
first_access (Div signed w src) next s = loading s next w (memory_of src)
first_access (Shift op w dst count) next s = loading s next w (memory_of dst)
first_access (Xchg w a b) next s = exchanging s next w (memory_of a) (value s w b)
first_access (Cmov cc w dst src) next s = loading s next w (memory_of src)
first_access (JmpTo src) next s = loading s next W64 (memory_of src)
first_access (CallTo src) next s = loading s next W64 (memory_of src)
first_access (Ret extra) next s = Some (Load (reg s 4) W64)
first_access Leave next s = Some (Load (reg s 5) W64)
first_access (LockAlu op w mem src) next s = locking s next w mem (change_by op (value s w src))
first_access (LockOne op w mem) next s = locking s next w mem (change_one op)
first_access (Xadd w mem r) next s = locking s next w mem (Some (change.Add (value s w r)))
first_access (Cmpxchg w mem r) next s = locking s next w mem (Some (change.Cmpxchg (get s w 0) (value s w r)))
first_access _ next s = None
