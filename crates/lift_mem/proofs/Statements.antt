-- What the laws say, each for the instructions of one kind.
use Rattle.std.specs.Prelude.{◌≡◌, ℕ, ℤ, Bool, true, Option}
use Rattle.x86_forms.specs.declared.conditions.Cond.{Cond}
use Rattle.x86_forms.specs.declared.operands.Width.{Width}
use Rattle.x86_forms.specs.declared.operands.Mem.{Mem}
use Rattle.x86_forms.specs.declared.operands.Operand.{Operand}
use Rattle.x86_forms.specs.declared.instructions.AluOp.{AluOp}
use Rattle.x86_forms.specs.declared.instructions.OneOp.{OneOp}
use Rattle.x86_forms.specs.declared.instructions.ShiftOp.{ShiftOp}
use Rattle.x86_forms.specs.declared.instructions.Group.TheVariants as group
use Rattle.x86_forms.specs.declared.instructions.Instr.{Instr}
use Rattle.x86_forms.specs.declared.instructions.Instr.TheVariants as instr
use Rattle.x86_forms.specs.Groups.{touches_memory, group_of}
use Rattle.x86_forms.specs.Limits.{InstrFits}
use Rattle.lift_table.specs.Follow.{Lifts}

-- the instruction follows if it keeps its limits and reads or writes memory
abbrev pub LiftsInMemory : Instr → Type 0
LiftsInMemory i = (next : ℕ) → InstrFits i → touches_memory i ≡ true → Lifts i next

-- the instruction follows if it keeps its limits
abbrev pub LiftsFit : Instr → Type 0
LiftsFit i = (next : ℕ) → InstrFits i → Lifts i next

-- ---- operands in memory

abbrev pub AluLifts : Type 0
AluLifts = (op : AluOp) (w : Width) (dst src : Operand) → LiftsInMemory (instr.Alu op w dst src)

abbrev pub OneLifts : Type 0
OneLifts = (op : OneOp) (w : Width) (dst : Operand) → LiftsInMemory (instr.One op w dst)

abbrev pub ShiftLifts : Type 0
ShiftLifts = (op : ShiftOp) (w : Width) (dst : Operand) (count : Option ℕ) → LiftsInMemory (instr.Shift op w dst count)

abbrev pub MulLifts : Type 0
MulLifts = (signed : Bool) (w : Width) (src : Operand) → LiftsInMemory (instr.Mul signed w src)

abbrev pub ImulLifts : Type 0
ImulLifts = (w : Width) (dst : ℕ) (a b : Operand) → LiftsInMemory (instr.Imul w dst a b)

abbrev pub DivLifts : Type 0
DivLifts = (signed : Bool) (w : Width) (src : Operand) → LiftsInMemory (instr.Div signed w src)

abbrev pub MovLifts : Type 0
MovLifts = (w : Width) (dst src : Operand) → LiftsInMemory (instr.Mov w dst src)

abbrev pub ZxLifts : Type 0
ZxLifts = (from w : Width) (dst : ℕ) (src : Operand) → LiftsInMemory (instr.Zx from w dst src)

abbrev pub SxLifts : Type 0
SxLifts = (from w : Width) (dst : ℕ) (src : Operand) → LiftsInMemory (instr.Sx from w dst src)

abbrev pub SetLifts : Type 0
SetLifts = (cc : Cond) (dst : Operand) → LiftsInMemory (instr.Set cc dst)

abbrev pub CmovLifts : Type 0
CmovLifts = (cc : Cond) (w : Width) (dst : ℕ) (src : Operand) → LiftsInMemory (instr.Cmov cc w dst src)

-- ---- the stack

abbrev pub PushLifts : Type 0
PushLifts = (src : Operand) → LiftsFit (instr.Push src)

-- into any register, rsp too
abbrev pub PopLifts : Type 0
PopLifts = (dst : ℕ) → LiftsFit (instr.Pop dst)

abbrev pub LeaveLifts : Type 0
LeaveLifts = LiftsFit instr.Leave

-- ---- locked steps, and MFENCE

abbrev pub XchgLifts : Type 0
XchgLifts = (w : Width) (a b : Operand) → LiftsInMemory (instr.Xchg w a b)

abbrev pub LockAluLifts : Type 0
LockAluLifts = (op : AluOp) (w : Width) (mem : Mem) (src : Operand) → LiftsFit (instr.LockAlu op w mem src)

abbrev pub LockOneLifts : Type 0
LockOneLifts = (op : OneOp) (w : Width) (mem : Mem) → LiftsFit (instr.LockOne op w mem)

abbrev pub XaddLifts : Type 0
XaddLifts = (w : Width) (mem : Mem) (reg : Operand) → LiftsFit (instr.Xadd w mem reg)

abbrev pub CmpxchgLifts : Type 0
CmpxchgLifts = (w : Width) (mem : Mem) (reg : Operand) → LiftsFit (instr.Cmpxchg w mem reg)

abbrev pub MfenceLifts : Type 0
MfenceLifts = LiftsFit instr.Mfence

-- ---- transfers

abbrev pub JccLifts : Type 0
JccLifts = (cc : Cond) (rel : ℤ) → LiftsFit (instr.Jcc cc rel)

abbrev pub JmpLifts : Type 0
JmpLifts = (rel : ℤ) → LiftsFit (instr.Jmp rel)

abbrev pub JmpToLifts : Type 0
JmpToLifts = (src : Operand) → LiftsFit (instr.JmpTo src)

abbrev pub CallLifts : Type 0
CallLifts = (rel : ℤ) → LiftsFit (instr.Call rel)

abbrev pub CallToLifts : Type 0
CallToLifts = (src : Operand) → LiftsFit (instr.CallTo src)

abbrev pub RetLifts : Type 0
RetLifts = (extra : ℕ) → LiftsFit (instr.Ret extra)

-- ---- all of them

abbrev pub MemoryLifts : Type 0
MemoryLifts = (i : Instr) (next : ℕ) → InstrFits i → group_of i ≡ group.Memory → Lifts i next

abbrev pub FlowLifts : Type 0
FlowLifts = (i : Instr) (next : ℕ) → InstrFits i → group_of i ≡ group.Transfer → Lifts i next
