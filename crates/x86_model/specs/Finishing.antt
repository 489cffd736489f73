-- What an instruction does once what it reads is there (Intel SDM, Volume 2, the instruction's page). Register 0 is rax,
-- 1 rcx, 2 rdx, 4 rsp and 5 rbp; next is the address of the next instruction.
use Rattle.std.specs.Prelude.{ℕ, ◌+◌, ◌-◌, ◌%◌, ◌^◌, Bool, if◌then◌else◌, Option, Some, None}
use Rattle.std.specs.Int.{from_bool}
use Rattle.x86_flags.specs.Outcome.{Outcome}
use Rattle.x86_flags.specs.Sums.{add_of, sub_of}
use Rattle.x86_flags.specs.Shifts.{shl_of, shr_of, sar_of}
use Rattle.x86_flags.specs.Rotations.{rol_of, ror_of}
use Rattle.x86_flags.specs.Products.{Product, smul_of}
use Rattle.x86_forms.specs.declared.conditions.Cond.{Cond}
use Rattle.x86_forms.specs.declared.operands.Width.{Width}
use Rattle.x86_forms.specs.declared.operands.Width.TheVariants.{W8, W64}
use Rattle.x86_forms.specs.declared.operands.Operand.{Operand}
use Rattle.x86_forms.specs.declared.operands.Operand.TheVariants.{Reg}
use Rattle.x86_forms.specs.declared.instructions.AluOp.{AluOp}
use Rattle.x86_forms.specs.declared.instructions.OneOp.{OneOp}
use Rattle.x86_forms.specs.declared.instructions.ShiftOp.{ShiftOp}
use Rattle.x86_forms.specs.declared.instructions.ShiftOp.TheVariants.{Shl, Shr, Sar, Rol, Ror}
use Rattle.x86_forms.specs.declared.instructions.Instr.{Instr}
use Rattle.x86_forms.specs.declared.instructions.Instr.TheVariants.{Alu, Mov, Zx, Sx, Lea, Push, Pop, One, Mul, Imul, Div, Shift, Widen, Spread, Xchg, Set, Cmov, Jcc, Jmp, JmpTo, Call, CallTo, Ret, Leave, Nop, Pause, Endbr, Mfence, LockAlu, LockOne, Xadd, Cmpxchg}
use Rattle.x86_forms.specs.Widths.{bits_in}
use Rattle.x86_model.specs.declared.cpu.Cpu.{Cpu}
use Rattle.x86_model.specs.declared.want.BadStep.TheVariants.{Code, Divide}
use Rattle.x86_model.specs.declared.want.Want.{Want}
use Rattle.x86_model.specs.declared.want.Want.TheVariants.{Private, Store, Fence, Bad}
use Rattle.x86_model.specs.Thread.{no_flags}
use Rattle.x86_model.specs.Registers.{reg, get, put, with_flags, loaded, going_to, sign_extended, spread, is_wide, half}
use Rattle.x86_model.specs.Operands.{address, target, value, assigned, given}
use Rattle.x86_model.specs.Results.{alu, keeps_result, one, product, quotient, holds}

-- ---- arithmetic

-- a result with its flags
unfoldable pub resulting : Cpu → ℕ → Width → Operand → Outcome → Want
resulting s next w dst o = given (with_flags s o.flags) next w dst o.value

-- flags alone
unfoldable pub comparing : Cpu → ℕ → Outcome → Want
comparing s next o = Private (going_to (with_flags s o.flags) next)

unfoldable pub alu_want : AluOp → Width → Operand → Operand → ℕ → Cpu → Want
alu_want op w dst src next s =
    if keeps_result op
    then resulting s next w dst (alu op (bits_in w) (value s w dst) (value s w src) s.flags)
    else comparing s next (alu op (bits_in w) (value s w dst) (value s w src) s.flags)

unfoldable pub one_want : OneOp → Width → Operand → ℕ → Cpu → Want
one_want op w dst next s = resulting s next w dst (one op (bits_in w) (value s w dst) s.flags)

-- rdx:rax becomes the product
unfoldable pub multiplied : Cpu → ℕ → Width → Product → Want
multiplied s next w p = Private (going_to (with_flags (put (put s w 0 p.low) w 2 p.high) p.flags) next)

unfoldable pub mul_want : Bool → Width → Operand → ℕ → Cpu → Want
mul_want signed w src next s = if is_wide w then multiplied s next w (product signed (bits_in w) (get s w 0) (value s w src)) else Bad Code

-- the destination becomes the low half of the product
unfoldable pub low_multiplied : Cpu → ℕ → Width → ℕ → Product → Want
low_multiplied s next w dst p = Private (going_to (with_flags (put s w dst p.low) p.flags) next)

unfoldable pub imul_want : Width → ℕ → Operand → Operand → ℕ → Cpu → Want
imul_want w dst a b next s = if is_wide w then low_multiplied s next w dst (smul_of (bits_in w) (value s w a) (value s w b)) else Bad Code

-- rax becomes the quotient and rdx the remainder of rdx:rax; flags, which the manual leaves undefined, are 0
unfoldable pub divided : Cpu → ℕ → Width → Option (ℕ × ℕ) → Want
divided s next w None = Bad Divide
divided s next w (Some q) = Private (going_to (with_flags (put (put s w 0 q.0) w 2 q.1) no_flags) next)

unfoldable pub div_want : Bool → Width → Operand → ℕ → Cpu → Want
div_want signed w src next s = if is_wide w then divided s next w (quotient signed (bits_in w) (get s w 2) (get s w 0) (value s w src)) else Bad Code

-- the number in the instruction, or cl
abbrev pub count_in : Cpu → Option ℕ → ℕ
count_in s None = get s W8 1
count_in s (Some n) = n

unfoldable pub shift_want : ShiftOp → Width → Operand → Option ℕ → ℕ → Cpu → Want
shift_want Shl w dst count next s = resulting s next w dst (shl_of (bits_in w) (value s w dst) (count_in s count) s.flags)
shift_want Shr w dst count next s = resulting s next w dst (shr_of (bits_in w) (value s w dst) (count_in s count) s.flags)
shift_want Sar w dst count next s = resulting s next w dst (sar_of (bits_in w) (value s w dst) (count_in s count) s.flags)
shift_want Rol w dst count next s = if is_wide w then resulting s next w dst (rol_of (bits_in w) (value s w dst) (count_in s count) s.flags) else Bad Code
shift_want Ror w dst count next s = if is_wide w then resulting s next w dst (ror_of (bits_in w) (value s w dst) (count_in s count) s.flags) else Bad Code

-- ---- moves

-- each operand gets what the other had
unfoldable pub exchanged : Width → Operand → Operand → ℕ → Cpu → Want
exchanged w a b next s = Private (going_to (assigned (assigned s w a (value s w b)) w b (value s w a)) next)

unfoldable pub cmov_want : Cond → Width → ℕ → Operand → ℕ → Cpu → Want
cmov_want cc w dst src next s = given s next w (Reg dst) (if holds cc s.flags then value s w src else get s w dst)

-- ---- the stack

-- eight bytes below rsp
unfoldable pub pushing_at : Cpu → ℕ
pushing_at s = (reg s 4 + (2 ^ 64 - 8)) % 2 ^ 64

-- a number is pushed, and the instruction ends at an address
unfoldable pub pushing : Cpu → ℕ → ℕ → Want
pushing s v a = Store (pushing_at s) W64 v (going_to (put s W64 4 (pushing_at s)) a)

-- rsp is so many bytes above an address
unfoldable pub released : Cpu → ℕ → ℕ → Cpu
released s a n = put s W64 4 ((a + n) % 2 ^ 64)

-- ---- locked instructions, whose old value in memory was loaded

unfoldable pub lock_alu_end : AluOp → Width → Operand → ℕ → Cpu → Want
lock_alu_end op w src next s = comparing s next (alu op (bits_in w) (loaded s w) (value s w src) s.flags)

unfoldable pub lock_one_end : OneOp → Width → ℕ → Cpu → Want
lock_one_end op w next s = comparing s next (one op (bits_in w) (loaded s w) s.flags)

unfoldable pub xadd_end : Width → Operand → ℕ → Cpu → Want
xadd_end w r next s = comparing (assigned s w r (loaded s w)) next (add_of (bits_in w) (loaded s w) (value s w r) s.flags)

-- the accumulator gets the value in memory where that differs from it, and else stays whole
unfoldable pub compared : Cpu → ℕ → Width → Outcome → Want
compared s next w o = comparing (if o.flags.zf then s else put s w 0 (loaded s w)) next o

unfoldable pub cmpxchg_end : Width → ℕ → Cpu → Want
cmpxchg_end w next s = compared s next w (sub_of (bits_in w) (get s w 0) (loaded s w) s.flags)

-- ---- every instruction

unfoldable pub finished : Instr → ℕ → Cpu → Want
finished (Alu op w dst src) next s = alu_want op w dst src next s
finished (Mov w dst src) next s = given s next w dst (value s w src)
finished (Zx from w dst src) next s = given s next w (Reg dst) (value s from src)
finished (Sx from w dst src) next s = given s next w (Reg dst) (sign_extended from w (value s from src))
finished (Lea w dst mem) next s = given s next w (Reg dst) (address s next mem)
finished (Push src) next s = pushing s (value s W64 src) next
finished (Pop dst) next s = given (released s (reg s 4) 8) next W64 (Reg dst) (loaded s W64)
finished (One op w dst) next s = one_want op w dst next s
finished (Mul signed w src) next s = mul_want signed w src next s
finished (Imul w dst a b) next s = imul_want w dst a b next s
finished (Div signed w src) next s = div_want signed w src next s
finished (Shift op w dst count) next s = shift_want op w dst count next s
finished (Widen w) next s = given s next w (Reg 0) (sign_extended (half w) w (get s (half w) 0))
finished (Spread w) next s = given s next w (Reg 2) (spread w (get s w 0))
finished (Xchg w a b) next s = exchanged w a b next s
finished (Set cc dst) next s = given s next W8 dst (from_bool (holds cc s.flags))
finished (Cmov cc w dst src) next s = cmov_want cc w dst src next s
finished (Jcc cc rel) next s = Private (going_to s (if holds cc s.flags then target next rel else next))
finished (Jmp rel) next s = Private (going_to s (target next rel))
finished (JmpTo src) next s = Private (going_to s (value s W64 src))
finished (Call rel) next s = pushing s next (target next rel)
finished (CallTo src) next s = pushing s next (value s W64 src)
finished (Ret extra) next s = Private (going_to (released s (reg s 4) (8 + extra)) (loaded s W64))
finished Leave next s = given (released s (reg s 5) 8) next W64 (Reg 5) (loaded s W64)
finished Nop next s = Private (going_to s next)
finished Pause next s = Private (going_to s next)
finished Endbr next s = Private (going_to s next)
finished Mfence next s = Fence (going_to s next)
finished (LockAlu op w mem src) next s = lock_alu_end op w src next s
finished (LockOne op w mem) next s = lock_one_end op w next s
finished (Xadd w mem r) next s = xadd_end w r next s
finished (Cmpxchg w mem r) next s = cmpxchg_end w next s
