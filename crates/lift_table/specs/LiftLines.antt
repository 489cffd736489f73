-- The lines that a lifted instruction is made of. Register 0 is rax, 1 rcx, 2 rdx, 4 rsp and 5 rbp;
-- temporary 0 has the address of an operand in memory.
use Rattle.std.specs.Prelude.{ℕ, ℤ, Bool, true, false, List, [], ◌∷◌, ◌++◌, Option, Some, None}
use Rattle.std.specs.Int.{w64, cast_unsigned}
use Rattle.ir_syntax.specs.declared.block.Part.{Part}
use Rattle.ir_syntax.specs.declared.cond.Cond.{Cond as IrCond}
use Rattle.ir_syntax.specs.declared.cond.Cond.TheVariants as ir
use Rattle.ir_syntax.specs.declared.cond.Flag.{Flag}
use Rattle.ir_syntax.specs.declared.cond.Flag.TheVariants.{Cf, Pf, Zf, Sf, Of}
use Rattle.ir_syntax.specs.declared.line.Family.{Family}
use Rattle.ir_syntax.specs.declared.line.Family.TheVariants as family
use Rattle.ir_syntax.specs.declared.line.LockOp.{LockOp}
use Rattle.ir_syntax.specs.declared.line.LockOp.TheVariants as lock
use Rattle.ir_syntax.specs.declared.line.Op.{Op}
use Rattle.ir_syntax.specs.declared.line.Op.TheVariants as line
use Rattle.ir_syntax.specs.declared.line.PartEnd.{PartEnd}
use Rattle.ir_syntax.specs.declared.line.PartEnd.TheVariants as ends
use Rattle.ir_syntax.specs.declared.width.Width.{Width as IrWidth}
use Rattle.ir_syntax.specs.declared.width.Width.TheVariants as ir_w
use Rattle.x86_forms.specs.declared.conditions.Cond.{Cond}
use Rattle.x86_forms.specs.declared.conditions.Cond.TheVariants as cond
use Rattle.x86_forms.specs.declared.operands.Width.{Width}
use Rattle.x86_forms.specs.declared.operands.Width.TheVariants.{W8, W16, W32, W64}
use Rattle.x86_forms.specs.declared.operands.Base.{Base}
use Rattle.x86_forms.specs.declared.operands.Base.TheVariants as base
use Rattle.x86_forms.specs.declared.operands.Mem.{Mem}
use Rattle.x86_forms.specs.declared.operands.Operand.{Operand}
use Rattle.x86_forms.specs.declared.operands.Operand.TheVariants as operand
use Rattle.x86_forms.specs.declared.instructions.AluOp.{AluOp}
use Rattle.x86_forms.specs.declared.instructions.AluOp.TheVariants as alu
use Rattle.x86_forms.specs.declared.instructions.OneOp.{OneOp}
use Rattle.x86_forms.specs.declared.instructions.OneOp.TheVariants as one
use Rattle.x86_forms.specs.declared.instructions.ShiftOp.{ShiftOp}
use Rattle.x86_forms.specs.declared.instructions.ShiftOp.TheVariants as shift
use Rattle.x86_model.specs.Operands.{target}

-- ---- widths and conditions

abbrev pub ir_width : Width → IrWidth
ir_width W8 = ir_w.W8
ir_width W16 = ir_w.W16
ir_width W32 = ir_w.W32
ir_width W64 = ir_w.W64

abbrev pub ir_cond : Cond → IrCond
ir_cond cond.O = ir.O
ir_cond cond.No = ir.No
ir_cond cond.B = ir.B
ir_cond cond.Ae = ir.Ae
ir_cond cond.E = ir.E
ir_cond cond.Ne = ir.Ne
ir_cond cond.Be = ir.Be
ir_cond cond.A = ir.A
ir_cond cond.S = ir.S
ir_cond cond.Ns = ir.Ns
ir_cond cond.P = ir.P
ir_cond cond.Np = ir.Np
ir_cond cond.L = ir.L
ir_cond cond.Ge = ir.Ge
ir_cond cond.Le = ir.Le
ir_cond cond.G = ir.G

-- ---- operands

abbrev pub base_register : Base → Option ℕ
base_register base.None = None
base_register (base.Reg r) = Some r
base_register base.Rip = None

-- the number in an address: a displacement, counted from the next instruction where the base says so
abbrev pub number_in : ℕ → Base → ℤ → ℕ
number_in next base.None disp = cast_unsigned w64 disp
number_in next (base.Reg r) disp = cast_unsigned w64 disp
number_in next base.Rip disp = target next disp

-- the address of an operand goes to t0; memory that counts from the next instruction has no index and scale 1
abbrev pub address_line : ℕ → Mem → Op
address_line next m = line.Ea 0 (base_register m.base) m.index m.scale (number_in next m.base m.disp)

-- the address of an operand, if it is in memory
abbrev pub addressed : ℕ → Operand → List Op
addressed next (operand.Mem m) = address_line next m ∷ []
addressed next (operand.Reg r) = []
addressed next (operand.High r) = []
addressed next (operand.Imm n) = []

-- an operand goes to temporary t; one in memory was loaded to it before
abbrev pub reads : Width → Operand → ℕ → List Op
reads w (operand.Reg r) t = line.Get (ir_width w) t r ∷ []
reads w (operand.High r) t = line.GetHigh t r ∷ []
reads w (operand.Imm n) t = line.Const (ir_width w) t n ∷ []
reads w (operand.Mem m) t = []

-- the part that loads an operand to temporary t, if it is in memory
abbrev pub loads : ℕ → Width → Operand → ℕ → List Part
loads next w (operand.Mem m) t = record { ops = address_line next m ∷ []; end = ends.Load (ir_width w) t 0 } ∷ []
loads next w (operand.Reg r) t = []
loads next w (operand.High r) t = []
loads next w (operand.Imm n) t = []

-- temporary t goes to an operand: to a register by a line, to memory by the end of the part
abbrev pub puts : Width → Operand → ℕ → List Op
puts w (operand.Reg r) t = line.Put (ir_width w) r t ∷ []
puts w (operand.High r) t = line.PutHigh r t ∷ []
puts w (operand.Mem m) t = []
puts w (operand.Imm n) t = []

abbrev pub end_at : Width → Operand → ℕ → PartEnd
end_at w (operand.Mem m) t = ends.Store (ir_width w) 0 t
end_at w (operand.Reg r) t = ends.Tick
end_at w (operand.High r) t = ends.Tick
end_at w (operand.Imm n) t = ends.Tick

-- ---- parts

abbrev pub part : List Op → PartEnd → Part
part ops end = record { ops = ops; end = end }

abbrev pub alone : List Op → PartEnd → List Part
alone ops end = part ops end ∷ []

-- lines, and then temporary t goes to an operand
abbrev pub given_at : List Op → Width → Operand → ℕ → List Part
given_at ops w dst t = alone (ops ++ puts w dst t) (end_at w dst t)

-- ---- flags

-- a line for each of these flags, in this order
abbrev pub flag_lines : List Flag → Family → Width → ℕ → Option ℕ → List Op
flag_lines [] family w a b = []
flag_lines (f ∷ fs) family w a b = line.FlagOf f family (ir_width w) a b ∷ flag_lines fs family w a b

-- lines that clear these flags
abbrev pub zero_lines : List Flag → List Op
zero_lines [] = []
zero_lines (f ∷ fs) = line.FlagZero f ∷ zero_lines fs

-- all flags, with cf last, since an addition with carry reads it
abbrev pub all_five : List Flag
all_five = Pf ∷ Zf ∷ Sf ∷ Of ∷ Cf ∷ []

-- all but cf
abbrev pub all_but_carry : List Flag
all_but_carry = Pf ∷ Zf ∷ Sf ∷ Of ∷ []

abbrev pub overflow_and_carry : List Flag
overflow_and_carry = Of ∷ Cf ∷ []

-- what a multiplication clears
abbrev pub cleared : List Flag
cleared = Pf ∷ Zf ∷ Sf ∷ []

-- ---- families

abbrev pub alu_family : AluOp → Family
alu_family alu.Add = family.Add
alu_family alu.Or = family.Or
alu_family alu.Adc = family.Adc
alu_family alu.Sbb = family.Sbb
alu_family alu.And = family.And
alu_family alu.Sub = family.Sub
alu_family alu.Xor = family.Xor
alu_family alu.Cmp = family.Sub
alu_family alu.Test = family.And

abbrev pub one_family : OneOp → Family
one_family one.Inc = family.Inc
one_family one.Dec = family.Dec
one_family one.Not = family.Not
one_family one.Neg = family.Neg

-- INC and DEC keep cf, and NOT keeps all flags
abbrev pub one_flags : OneOp → List Flag
one_flags one.Inc = all_but_carry
one_flags one.Dec = all_but_carry
one_flags one.Not = []
one_flags one.Neg = all_five

abbrev pub shift_family : ShiftOp → Family
shift_family shift.Shl = family.Shl
shift_family shift.Shr = family.Shr
shift_family shift.Sar = family.Sar
shift_family shift.Rol = family.Rol
shift_family shift.Ror = family.Ror

-- a rotation puts of and cf alone
abbrev pub shift_flags : ShiftOp → List Flag
shift_flags shift.Shl = all_five
shift_flags shift.Shr = all_five
shift_flags shift.Sar = all_five
shift_flags shift.Rol = overflow_and_carry
shift_flags shift.Ror = overflow_and_carry

-- MUL and IMUL: the family of the high half, and that of the flags
abbrev pub high_family : Bool → Family
high_family false = family.Umulh
high_family true = family.Smulh

abbrev pub product_family : Bool → Family
product_family false = family.Umul
product_family true = family.Smul

-- what ADD, OR, AND, SUB and XOR, and INC and DEC, are under LOCK; nothing else takes it
abbrev pub lock_op : AluOp → Option LockOp
lock_op alu.Add = Some lock.Add
lock_op alu.Or = Some lock.Or
lock_op alu.And = Some lock.And
lock_op alu.Sub = Some lock.Sub
lock_op alu.Xor = Some lock.Xor
lock_op alu.Adc = None
lock_op alu.Sbb = None
lock_op alu.Cmp = None
lock_op alu.Test = None

abbrev pub lock_one_op : OneOp → Option LockOp
lock_one_op one.Inc = Some lock.Add
lock_one_op one.Dec = Some lock.Sub
lock_one_op one.Not = None
lock_one_op one.Neg = None
