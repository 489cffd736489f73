-- What every instruction that has a spelling keeps: numbers of registers, sizes of numbers and distances, widths, and at most one operand in memory.
use Rattle.std.specs.Prelude.{◌≡◌, ◌≢◌, ℕ, ◌^◌, ◌<◌, Bool, true, false, ◌&&◌, ◌||◌, nat_eq, ℤ, pos, negsuc, Option, Some, None, ⊤}
use Rattle.x86_forms.specs.declared.operands.Width.{Width}
use Rattle.x86_forms.specs.declared.operands.Width.TheVariants.{W8, W16, W32, W64}
use Rattle.x86_forms.specs.declared.operands.Base.{Base}
use Rattle.x86_forms.specs.declared.operands.Base.TheVariants as base
use Rattle.x86_forms.specs.declared.operands.Mem.{Mem}
use Rattle.x86_forms.specs.declared.operands.Operand.{Operand}
use Rattle.x86_forms.specs.declared.operands.Operand.TheVariants as operand
use Rattle.x86_forms.specs.declared.instructions.AluOp.{AluOp}
use Rattle.x86_forms.specs.declared.instructions.AluOp.TheVariants as alu
use Rattle.x86_forms.specs.declared.instructions.OneOp.{OneOp}
use Rattle.x86_forms.specs.declared.instructions.OneOp.TheVariants as one
use Rattle.x86_forms.specs.declared.instructions.ShiftOp.{ShiftOp}
use Rattle.x86_forms.specs.declared.instructions.ShiftOp.TheVariants.{Shl, Shr, Sar, Rol, Ror}
use Rattle.x86_forms.specs.declared.instructions.Instr.{Instr}
use Rattle.x86_forms.specs.declared.instructions.Instr.TheVariants.{Alu, Mov, Zx, Sx, Lea, Push, Pop, One, Mul, Imul, Div, Shift, Widen, Spread, Xchg, Set, Cmov, Jcc, Jmp, JmpTo, Call, CallTo, Ret, Leave, Nop, Pause, Endbr, Mfence, LockAlu, LockOne, Xadd, Cmpxchg}
use Rattle.x86_forms.specs.Widths.{bits_in}
use Rattle.x86_forms.specs.Groups.{is_memory}

-- ---- operands

abbrev pub BaseFits : Base → Type 0
BaseFits base.None = ⊤
BaseFits (base.Reg r) = r < 16
BaseFits base.Rip = ⊤

-- an index is never rsp
abbrev pub IndexFits : Option ℕ → ℕ → Type 0
IndexFits None scale = scale ≡ 1
IndexFits (Some r) scale = (r < 16) × (r ≢ 4) × ((nat_eq scale 1 || (nat_eq scale 2 || (nat_eq scale 4 || nat_eq scale 8))) ≡ true)

-- a displacement or a relative target: a signed number of 32 bits
abbrev pub IsDistance : ℤ → Type 0
IsDistance (pos n) = n < 2 ^ 31
IsDistance (negsuc n) = n < 2 ^ 31

abbrev pub MemFits : Mem → Type 0
MemFits m = BaseFits m.base × IndexFits m.index m.scale × IsDistance m.disp

abbrev pub OperandFits : Width → Operand → Type 0
OperandFits w (operand.Reg r) = r < 16
OperandFits w (operand.High r) = (w ≡ W8) × (r < 4)
OperandFits w (operand.Mem m) = MemFits m
OperandFits w (operand.Imm n) = n < 2 ^ bits_in w

abbrev pub is_immediate : Operand → Bool
is_immediate (operand.Imm n) = true
is_immediate (operand.Reg r) = false
is_immediate (operand.High r) = false
is_immediate (operand.Mem m) = false

-- an operand that is written: no number
pub record PlaceFits (w : Width) (o : Operand) : Type 0 where
  pub fits : OperandFits w o
  pub place : is_immediate o ≡ false

-- an operand that is a register
pub record RegisterFits (w : Width) (o : Operand) : Type 0 where
  pub fits : OperandFits w o
  pub place : is_immediate o ≡ false
  pub no_memory : is_memory o ≡ false

-- a destination and a source, of which one at most is in memory
pub record PairFits (w : Width) (dst src : Operand) : Type 0 where
  pub target : PlaceFits w dst
  pub source : OperandFits w src
  pub one_memory : (is_memory dst && is_memory src) ≡ false

-- ---- instructions

-- 32 or 64 bits
abbrev pub IsWide : Width → Type 0
IsWide W8 = ⊥
IsWide W16 = ⊥
IsWide W32 = ⊤
IsWide W64 = ⊤

-- 16, 32 or 64 bits
abbrev pub IsOver8 : Width → Type 0
IsOver8 W8 = ⊥
IsOver8 W16 = ⊤
IsOver8 W32 = ⊤
IsOver8 W64 = ⊤

-- MOVZX, MOVSX and MOVSXD: from 8 bits to more, from 16 to 32 or 64, and from 32 to 64
abbrev pub Widens : Width → Width → Type 0
Widens W8 w = IsOver8 w
Widens W16 w = IsWide w
Widens W32 w = w ≡ W64
Widens W64 w = ⊥

abbrev pub ShiftFits : ShiftOp → Width → Type 0
ShiftFits Shl w = ⊤
ShiftFits Shr w = ⊤
ShiftFits Sar w = ⊤
ShiftFits Rol w = IsWide w
ShiftFits Ror w = IsWide w

-- a count that stands in an instruction is a byte
abbrev pub IsCount : Option ℕ → Type 0
IsCount None = ⊤
IsCount (Some n) = n < 2 ^ 8

-- ADD, OR, AND, SUB and XOR, and INC and DEC, take LOCK
abbrev pub CanLock : AluOp → Type 0
CanLock alu.Add = ⊤
CanLock alu.Or = ⊤
CanLock alu.And = ⊤
CanLock alu.Sub = ⊤
CanLock alu.Xor = ⊤
CanLock alu.Adc = ⊥
CanLock alu.Sbb = ⊥
CanLock alu.Cmp = ⊥
CanLock alu.Test = ⊥

abbrev pub CanLockOne : OneOp → Type 0
CanLockOne one.Inc = ⊤
CanLockOne one.Dec = ⊤
CanLockOne one.Not = ⊥
CanLockOne one.Neg = ⊥

abbrev pub InstrFits : Instr → Type 0
InstrFits (Alu op w dst src) = PairFits w dst src
InstrFits (Mov w dst src) = PairFits w dst src
InstrFits (Zx from w dst src) = Widens from w × (dst < 16) × PlaceFits from src
InstrFits (Sx from w dst src) = Widens from w × (dst < 16) × PlaceFits from src
InstrFits (Lea w dst mem) = IsOver8 w × (dst < 16) × MemFits mem
InstrFits (Push src) = OperandFits W64 src
InstrFits (Pop dst) = dst < 16
InstrFits (One op w dst) = PlaceFits w dst
InstrFits (Mul signed w src) = IsWide w × PlaceFits w src
InstrFits (Imul w dst a b) = IsWide w × (dst < 16) × PairFits w a b
InstrFits (Div signed w src) = IsWide w × PlaceFits w src
InstrFits (Shift op w dst count) = ShiftFits op w × PlaceFits w dst × IsCount count
InstrFits (Widen w) = IsWide w
InstrFits (Spread w) = IsWide w
InstrFits (Xchg w a b) = PlaceFits w a × RegisterFits w b
InstrFits (Set cc dst) = PlaceFits W8 dst
InstrFits (Cmov cc w dst src) = IsWide w × (dst < 16) × PlaceFits w src
InstrFits (Jcc cc rel) = IsDistance rel
InstrFits (Jmp rel) = IsDistance rel
InstrFits (JmpTo src) = PlaceFits W64 src
InstrFits (Call rel) = IsDistance rel
InstrFits (CallTo src) = PlaceFits W64 src
InstrFits (Ret extra) = extra < 2 ^ 16
InstrFits Leave = ⊤
InstrFits Nop = ⊤
InstrFits Pause = ⊤
InstrFits Endbr = ⊤
InstrFits Mfence = ⊤
InstrFits (LockAlu op w mem src) = CanLock op × MemFits mem × OperandFits w src × (is_memory src ≡ false)
InstrFits (LockOne op w mem) = CanLockOne op × MemFits mem
InstrFits (Xadd w mem reg) = MemFits mem × RegisterFits w reg
InstrFits (Cmpxchg w mem reg) = MemFits mem × RegisterFits w reg
