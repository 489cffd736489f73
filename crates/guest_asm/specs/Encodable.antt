-- Which instructions the assembler takes, without a REX byte or with one.
use Rattle.std.specs.Prelude.{ℕ, ◌^◌, ◌<◌, Bool, true, false, ◌&&◌, ◌||◌, not, Option, Some, None, nat_eq, nat_le, nat_lt, if◌then◌else◌}
use Rattle.std.specs.Int.{w32}
use Rattle.std.specs.Int.RustNames.{FitsSigned}
use Rattle.x86_forms.specs.declared.operands.Width.{Width}
use Rattle.x86_forms.specs.declared.operands.Width.TheVariants.{W8, W16, W32, W64}
use Rattle.x86_forms.specs.declared.operands.Mem.{Mem}
use Rattle.x86_forms.specs.declared.operands.Operand.{Operand}
use Rattle.x86_forms.specs.declared.operands.Operand.TheVariants as operand
use Rattle.x86_forms.specs.declared.instructions.AluOp.{AluOp}
use Rattle.x86_forms.specs.declared.instructions.AluOp.TheVariants as alu
use Rattle.x86_forms.specs.declared.instructions.OneOp.{OneOp}
use Rattle.x86_forms.specs.declared.instructions.OneOp.TheVariants as one
use Rattle.x86_forms.specs.declared.instructions.ShiftOp.{ShiftOp}
use Rattle.x86_forms.specs.declared.instructions.ShiftOp.TheVariants.{Shl, Shr, Sar, Rol, Ror}
use Rattle.x86_forms.specs.declared.instructions.Instr.{Instr}
use Rattle.x86_forms.specs.declared.instructions.Instr.TheVariants as instr
use Rattle.guest_asm.specs.Places.{below, mem_can}
use Rattle.guest_asm.specs.Pieces.{is_64, marks_can}

-- ---- operands

-- The numbers 4 to 7 at 8 bits are registers only where a REX byte stands.
abbrev pub reg_can : Bool → Width → ℕ → Bool
reg_can no_rex W8 r = nat_lt r (if no_rex then 4 else 16)
reg_can no_rex W16 r = below no_rex r
reg_can no_rex W32 r = below no_rex r
reg_can no_rex W64 r = below no_rex r

-- AH to BH are registers only where none stands
abbrev pub high_can : Bool → Width → ℕ → Bool
high_can no_rex W8 r = no_rex && nat_lt r 4
high_can no_rex W16 r = false
high_can no_rex W32 r = false
high_can no_rex W64 r = false

abbrev pub register_can : Bool → Width → Operand → Bool
register_can no_rex w (operand.Reg r) = reg_can no_rex w r
register_can no_rex w (operand.High r) = high_can no_rex w r
register_can no_rex w (operand.Mem m) = false
register_can no_rex w (operand.Imm n) = false

-- a register or memory
abbrev pub rm_can : Bool → Width → Operand → Bool
rm_can no_rex w (operand.Reg r) = reg_can no_rex w r
rm_can no_rex w (operand.High r) = high_can no_rex w r
rm_can no_rex w (operand.Mem m) = mem_can no_rex m
rm_can no_rex w (operand.Imm n) = false

-- an immediate of at most 32 bits, which is extended by its sign
abbrev pub imm_can : Width → ℕ → Bool
imm_can W8 n = nat_lt n 256
imm_can W16 n = nat_lt n 65536
imm_can W32 n = nat_lt n 4294967296
imm_can W64 n = nat_lt n 2147483648 || nat_le 18446744071562067968 n

-- an immediate of as many bits as the width
abbrev pub whole_imm_can : Width → ℕ → Bool
whole_imm_can W8 n = nat_lt n 256
whole_imm_can W16 n = nat_lt n 65536
whole_imm_can W32 n = nat_lt n 4294967296
whole_imm_can W64 n = true

abbrev pub value_can : Bool → Width → Operand → Bool
value_can no_rex w (operand.Reg r) = reg_can no_rex w r
value_can no_rex w (operand.High r) = high_can no_rex w r
value_can no_rex w (operand.Mem m) = false
value_can no_rex w (operand.Imm n) = imm_can w n

-- a destination and a source; `loads` says that a register may take from memory
abbrev pub pair_can : Bool → Width → Bool → Operand → Operand → Bool
pair_can no_rex w loads dst (operand.Mem m) = loads && (register_can no_rex w dst && mem_can no_rex m)
pair_can no_rex w loads dst (operand.Reg r) = rm_can no_rex w dst && reg_can no_rex w r
pair_can no_rex w loads dst (operand.High r) = rm_can no_rex w dst && high_can no_rex w r
pair_can no_rex w loads dst (operand.Imm n) = rm_can no_rex w dst && imm_can w n

abbrev pub mov_imm_can : Bool → Width → Operand → ℕ → Bool
mov_imm_can no_rex w (operand.Reg r) n = reg_can no_rex w r && whole_imm_can w n
mov_imm_can no_rex w (operand.High r) n = high_can no_rex w r && imm_can w n
mov_imm_can no_rex w (operand.Mem m) n = mem_can no_rex m && imm_can w n
mov_imm_can no_rex w (operand.Imm m) n = false

abbrev pub mov_can : Bool → Width → Operand → Operand → Bool
mov_can no_rex w dst (operand.Imm n) = mov_imm_can no_rex w dst n
mov_can no_rex w dst (operand.Mem m) = register_can no_rex w dst && mem_can no_rex m
mov_can no_rex w dst (operand.Reg r) = rm_can no_rex w dst && reg_can no_rex w r
mov_can no_rex w dst (operand.High r) = rm_can no_rex w dst && high_can no_rex w r

-- IMUL with two operands, whose first is the destination, and with three
abbrev pub is_reg : ℕ → Operand → Bool
is_reg n (operand.Reg r) = nat_eq r n
is_reg n (operand.High r) = false
is_reg n (operand.Mem m) = false
is_reg n (operand.Imm m) = false

abbrev pub imul_can : Bool → Width → ℕ → Operand → Operand → Bool
imul_can no_rex w dst a (operand.Imm n) = rm_can no_rex w a && imm_can w n
imul_can no_rex w dst a (operand.Reg r) = is_reg dst a && reg_can no_rex w r
imul_can no_rex w dst a (operand.High r) = is_reg dst a && high_can no_rex w r
imul_can no_rex w dst a (operand.Mem m) = is_reg dst a && mem_can no_rex m

-- ---- widths

abbrev pub is_wide : Width → Bool
is_wide W8 = false
is_wide W16 = false
is_wide W32 = true
is_wide W64 = true

abbrev pub is_over8 : Width → Bool
is_over8 W8 = false
is_over8 W16 = true
is_over8 W32 = true
is_over8 W64 = true

abbrev pub zx_can : Width → Width → Bool
zx_can W8 w = is_over8 w
zx_can W16 w = is_wide w
zx_can W32 w = false
zx_can W64 w = false

abbrev pub sx_can : Width → Width → Bool
sx_can W8 w = is_over8 w
sx_can W16 w = is_wide w
sx_can W32 w = is_64 w
sx_can W64 w = false

abbrev pub shift_can : ShiftOp → Width → Bool
shift_can Shl w = true
shift_can Shr w = true
shift_can Sar w = true
shift_can Rol w = is_wide w
shift_can Ror w = is_wide w

-- ---- operations

abbrev pub is_test : AluOp → Bool
is_test alu.Test = true
is_test alu.Add = false
is_test alu.Or = false
is_test alu.Adc = false
is_test alu.Sbb = false
is_test alu.And = false
is_test alu.Sub = false
is_test alu.Xor = false
is_test alu.Cmp = false

abbrev pub can_lock : AluOp → Bool
can_lock alu.Add = true
can_lock alu.Or = true
can_lock alu.And = true
can_lock alu.Sub = true
can_lock alu.Xor = true
can_lock alu.Adc = false
can_lock alu.Sbb = false
can_lock alu.Cmp = false
can_lock alu.Test = false

abbrev pub can_lock_one : OneOp → Bool
can_lock_one one.Inc = true
can_lock_one one.Dec = true
can_lock_one one.Not = false
can_lock_one one.Neg = false

-- ---- instructions

abbrev pub push_can : Bool → Operand → Bool
push_can no_rex (operand.Reg r) = below no_rex r
push_can no_rex (operand.High r) = false
push_can no_rex (operand.Mem m) = mem_can no_rex m
push_can no_rex (operand.Imm n) = imm_can W64 n

abbrev pub can : Bool → Instr → Bool
can no_rex (instr.Alu op w dst src) = marks_can no_rex w && pair_can no_rex w (not (is_test op)) dst src
can no_rex (instr.Mov w dst src) = marks_can no_rex w && mov_can no_rex w dst src
can no_rex (instr.Zx from w dst src) = marks_can no_rex w && (zx_can from w && (below no_rex dst && rm_can no_rex from src))
can no_rex (instr.Sx from w dst src) = marks_can no_rex w && (sx_can from w && (below no_rex dst && rm_can no_rex from src))
can no_rex (instr.Lea w dst mem) = marks_can no_rex w && (is_over8 w && (below no_rex dst && mem_can no_rex mem))
can no_rex (instr.Push src) = push_can no_rex src
can no_rex (instr.Pop dst) = below no_rex dst
can no_rex (instr.One op w dst) = marks_can no_rex w && rm_can no_rex w dst
can no_rex (instr.Mul signed w src) = marks_can no_rex w && (is_wide w && rm_can no_rex w src)
can no_rex (instr.Imul w dst a b) = marks_can no_rex w && (is_wide w && (below no_rex dst && imul_can no_rex w dst a b))
can no_rex (instr.Div signed w src) = marks_can no_rex w && (is_wide w && rm_can no_rex w src)
can no_rex (instr.Shift op w dst count) = marks_can no_rex w && (shift_can op w && rm_can no_rex w dst)
can no_rex (instr.Widen w) = marks_can no_rex w && is_wide w
can no_rex (instr.Spread w) = marks_can no_rex w && is_wide w
can no_rex (instr.Xchg w a b) = marks_can no_rex w && (rm_can no_rex w a && register_can no_rex w b)
can no_rex (instr.Set c dst) = rm_can no_rex W8 dst
can no_rex (instr.Cmov c w dst src) = marks_can no_rex w && (is_wide w && (below no_rex dst && rm_can no_rex w src))
can no_rex (instr.Jcc c rel) = true
can no_rex (instr.Jmp rel) = true
can no_rex (instr.JmpTo src) = rm_can no_rex W64 src
can no_rex (instr.Call rel) = true
can no_rex (instr.CallTo src) = rm_can no_rex W64 src
can no_rex (instr.Ret extra) = true
can no_rex instr.Leave = true
can no_rex instr.Nop = true
can no_rex instr.Pause = true
can no_rex instr.Endbr = true
can no_rex instr.Mfence = true
can no_rex (instr.LockAlu op w mem src) = marks_can no_rex w && (can_lock op && (mem_can no_rex mem && value_can no_rex w src))
can no_rex (instr.LockOne op w mem) = marks_can no_rex w && (can_lock_one op && mem_can no_rex mem)
can no_rex (instr.Xadd w mem reg) = marks_can no_rex w && (mem_can no_rex mem && register_can no_rex w reg)
can no_rex (instr.Cmpxchg w mem reg) = marks_can no_rex w && (mem_can no_rex mem && register_can no_rex w reg)

-- ---- the numbers of an instruction are within their types

abbrev pub MemTyped : Mem → Type 0
MemTyped m = FitsSigned w32 m.disp

abbrev pub OperandTyped : Operand → Type 0
OperandTyped (operand.Reg r) = Unit {0}
OperandTyped (operand.High r) = Unit {0}
OperandTyped (operand.Mem m) = MemTyped m
OperandTyped (operand.Imm n) = n < 2 ^ 64

abbrev pub CountTyped : Option ℕ → Type 0
CountTyped None = Unit {0}
CountTyped (Some n) = n < 256

abbrev pub Typed : Instr → Type 0
Typed (instr.Alu op w dst src) = OperandTyped dst × OperandTyped src
Typed (instr.Mov w dst src) = OperandTyped dst × OperandTyped src
Typed (instr.Zx from w dst src) = OperandTyped src
Typed (instr.Sx from w dst src) = OperandTyped src
Typed (instr.Lea w dst mem) = MemTyped mem
Typed (instr.Push src) = OperandTyped src
Typed (instr.Pop dst) = Unit {0}
Typed (instr.One op w dst) = OperandTyped dst
Typed (instr.Mul signed w src) = OperandTyped src
Typed (instr.Imul w dst a b) = OperandTyped a × OperandTyped b
Typed (instr.Div signed w src) = OperandTyped src
Typed (instr.Shift op w dst count) = OperandTyped dst × CountTyped count
Typed (instr.Widen w) = Unit {0}
Typed (instr.Spread w) = Unit {0}
Typed (instr.Xchg w a b) = OperandTyped a
Typed (instr.Set c dst) = OperandTyped dst
Typed (instr.Cmov c w dst src) = OperandTyped src
Typed (instr.Jcc c rel) = FitsSigned w32 rel
Typed (instr.Jmp rel) = FitsSigned w32 rel
Typed (instr.JmpTo src) = OperandTyped src
Typed (instr.Call rel) = FitsSigned w32 rel
Typed (instr.CallTo src) = OperandTyped src
Typed (instr.Ret extra) = extra < 65536
Typed instr.Leave = Unit {0}
Typed instr.Nop = Unit {0}
Typed instr.Pause = Unit {0}
Typed instr.Endbr = Unit {0}
Typed instr.Mfence = Unit {0}
Typed (instr.LockAlu op w mem src) = MemTyped mem × OperandTyped src
Typed (instr.LockOne op w mem) = MemTyped mem
Typed (instr.Xadd w mem reg) = MemTyped mem
Typed (instr.Cmpxchg w mem reg) = MemTyped mem
