-- The choice of a row as the code makes it, an opcode's range at a time. The proofs compare it with the table at every key.
use Rattle.std.specs.Prelude.{ℕ, ◌/◌, ◌%◌, Bool, true, false, ◌&&◌, Option, Some, None, nat_eq, nat_le, nat_lt, if◌then◌else◌}
use Rattle.x86_forms.specs.declared.operands.Width.TheVariants.{W8, W16, W32}
use Rattle.x86_forms.specs.declared.instructions.AluOp.{AluOp}
use Rattle.x86_forms.specs.declared.instructions.AluOp.TheVariants.{Add, Or, Adc, Sbb, And, Sub, Xor, Cmp, Test}
use Rattle.x86_forms.specs.declared.instructions.OneOp.TheVariants.{Inc, Dec, Not, Neg}
use Rattle.x86_forms.specs.declared.instructions.ShiftOp.{ShiftOp}
use Rattle.x86_forms.specs.declared.instructions.ShiftOp.TheVariants.{Shl, Shr, Sar, Rol, Ror}
use Rattle.x86_forms.specs.declared.rows.Prefixes.{Prefixes}
use Rattle.x86_forms.specs.declared.rows.Prefixes.TheVariants.{Sized, Bare, Locked, Mixed, Track, Repeated}
use Rattle.x86_forms.specs.declared.rows.Mark.{Mark}
use Rattle.x86_forms.specs.declared.rows.Mark.TheVariants.{Plain, Lock, Rep}
use Rattle.x86_forms.specs.declared.rows.Rex.{Rex}
use Rattle.x86_forms.specs.declared.rows.Rex.TheVariants as rex
use Rattle.x86_forms.specs.declared.rows.Size.{Size}
use Rattle.x86_forms.specs.declared.rows.Size.TheVariants.{B, V, D, Q}
use Rattle.x86_forms.specs.declared.rows.Tail.{Tail}
use Rattle.x86_forms.specs.declared.rows.Tail.TheVariants.{Nothing, Ib, Iz, Iv, Iw, Rel8, Rel32}
use Rattle.x86_forms.specs.declared.rows.Shape.{Shape}
use Rattle.x86_forms.specs.declared.rows.Shape.TheVariants.{RmReg, RegRm, RmImm, AccImm, CodeImm, CodeAcc, Rm, Imm}
use Rattle.x86_forms.specs.declared.rows.Kind.{Kind}
use Rattle.x86_forms.specs.declared.rows.Kind.TheVariants as kind
use Rattle.x86_forms.specs.declared.rows.Row.{Row}
use Rattle.x86_forms.specs.Table.{rm, no, alone, asking}

abbrev pub between : ℕ → ℕ → ℕ → Bool
between low high n = nat_le low n && nat_le n high

abbrev pub row : Prefixes → Size → Tail → Shape → Kind → Option Row
row p w t s k = Some (rm p w t s k)

abbrev pub short : Prefixes → Size → Tail → Shape → Kind → Option Row
short p w t s k = Some (no p w t s k)

abbrev pub fixed : ℕ → Prefixes → Kind → Option Row
fixed m p k = Some (alone m p k)

abbrev pub asks : Rex → Option Row → Option Row
asks x None = None
asks x (Some r) = Some (asking x r)

-- ---- ADD to CMP, and the shifts

unfoldable pub alu_op : ℕ → AluOp
alu_op n = if nat_eq n 0 then Add else if nat_eq n 1 then Or else if nat_eq n 2 then Adc else if nat_eq n 3 then Sbb else if nat_eq n 4 then And else if nat_eq n 5 then Sub else if nat_eq n 6 then Xor else Cmp

-- 00 to 3F, by the low three bits
unfoldable pub alu_row : Kind → ℕ → Option Row
alu_row k form = if nat_eq form 0 then row Sized B Nothing RmReg k else if nat_eq form 1 then row Sized V Nothing RmReg k else if nat_eq form 2 then row Sized B Nothing RegRm k else if nat_eq form 3 then row Sized V Nothing RegRm k else if nat_eq form 4 then short Sized B Ib AccImm k else if nat_eq form 5 then short Sized V Iz AccImm k else None

unfoldable pub narrow_shift : ShiftOp → ℕ → Option Row
narrow_shift s op = if nat_eq op 0xC0 then row Sized B Ib Rm (kind.ShiftBy s) else if nat_eq op 0xD0 then row Sized B Nothing Rm (kind.ShiftOne s) else if nat_eq op 0xD2 then row Sized B Nothing Rm (kind.ShiftCl s) else None

unfoldable pub wide_shift : Size → ShiftOp → ℕ → Option Row
wide_shift w s op = if nat_eq op 0xC1 then row Sized w Ib Rm (kind.ShiftBy s) else if nat_eq op 0xD1 then row Sized w Nothing Rm (kind.ShiftOne s) else if nat_eq op 0xD3 then row Sized w Nothing Rm (kind.ShiftCl s) else None

unfoldable pub any_shift : ShiftOp → ℕ → Option Row
any_shift s op = if nat_eq (op % 2) 0 then narrow_shift s op else wide_shift V s op

unfoldable pub shift : ℕ → ℕ → Option Row
shift op reg = if nat_eq reg 0 then wide_shift D Rol op else if nat_eq reg 1 then wide_shift D Ror op else if nat_eq reg 4 then any_shift Shl op else if nat_eq reg 5 then any_shift Shr op else if nat_eq reg 7 then any_shift Sar op else None

-- ---- opcodes without 0F

unfoldable pub from_40 : ℕ → Option Row
from_40 op = if between 0x50 0x57 op then short Bare Q Nothing CodeAcc kind.Push else if between 0x58 0x5F op then short Bare Q Nothing CodeAcc kind.Pop else if nat_eq op 0x63 then asks rex.Wide (row Sized V Nothing RegRm (kind.Sx W32)) else if nat_eq op 0x68 then short Bare Q Iz Imm kind.Push else if nat_eq op 0x69 then row Sized D Iz RegRm kind.ImulThree else if nat_eq op 0x6A then short Bare Q Ib Imm kind.Push else if nat_eq op 0x6B then row Sized D Ib RegRm kind.ImulThree else if between 0x70 0x7F op then short Bare Q Rel8 Imm kind.Jcc else None

unfoldable pub from_80 : ℕ → ℕ → Option Row
from_80 op reg = if nat_eq op 0x80 then row Sized B Ib RmImm (kind.Alu (alu_op reg)) else if nat_eq op 0x81 then row Sized V Iz RmImm (kind.Alu (alu_op reg)) else if nat_eq op 0x83 then row Sized V Ib RmImm (kind.Alu (alu_op reg)) else if nat_eq op 0x84 then row Sized B Nothing RmReg (kind.Alu Test) else if nat_eq op 0x85 then row Sized V Nothing RmReg (kind.Alu Test) else if nat_eq op 0x86 then row Sized B Nothing RmReg kind.Xchg else if nat_eq op 0x87 then row Sized V Nothing RmReg kind.Xchg else if nat_eq op 0x88 then row Sized B Nothing RmReg kind.Mov else if nat_eq op 0x89 then row Sized V Nothing RmReg kind.Mov else if nat_eq op 0x8A then row Sized B Nothing RegRm kind.Mov else if nat_eq op 0x8B then row Sized V Nothing RegRm kind.Mov else if nat_eq op 0x8D then row Sized V Nothing RegRm kind.Lea else None

unfoldable pub from_90 : ℕ → ℕ → Option Row
from_90 b op = if nat_eq op 0x90 && nat_eq b 1 then asks rex.High (short Sized V Nothing CodeAcc kind.Xchg) else if nat_eq op 0x90 then asks rex.Low (short Mixed Q Nothing Imm kind.Nop) else if between 0x91 0x97 op then short Sized V Nothing CodeAcc kind.Xchg else if nat_eq op 0x98 then short Sized D Nothing Imm kind.Widen else if nat_eq op 0x99 then short Sized D Nothing Imm kind.Spread else if nat_eq op 0xA8 then short Sized B Ib AccImm (kind.Alu Test) else if nat_eq op 0xA9 then short Sized V Iz AccImm (kind.Alu Test) else if between 0xB0 0xB7 op then short Sized B Ib CodeImm kind.Mov else if between 0xB8 0xBF op then short Sized V Iv CodeImm kind.Mov else None

unfoldable pub from_c0 : ℕ → ℕ → Option Row
from_c0 op reg = if nat_eq op 0xC2 then asks rex.Absent (short Bare Q Iw Imm kind.Ret) else if nat_eq op 0xC3 then asks rex.Absent (short Bare Q Nothing Imm kind.Ret) else if nat_eq op 0xC6 && nat_eq reg 0 then row Sized B Ib RmImm kind.Mov else if nat_eq op 0xC7 && nat_eq reg 0 then row Sized V Iz RmImm kind.Mov else if nat_eq op 0xC9 then asks rex.Absent (short Bare Q Nothing Imm kind.Leave) else shift op reg

unfoldable pub group_f6 : ℕ → Option Row
group_f6 reg = if nat_eq reg 0 then row Sized B Ib RmImm (kind.Alu Test) else if nat_eq reg 2 then row Sized B Nothing Rm (kind.One Not) else if nat_eq reg 3 then row Sized B Nothing Rm (kind.One Neg) else None

unfoldable pub group_f7 : ℕ → Option Row
group_f7 reg = if nat_eq reg 0 then row Sized V Iz RmImm (kind.Alu Test) else if nat_eq reg 2 then row Sized V Nothing Rm (kind.One Not) else if nat_eq reg 3 then row Sized V Nothing Rm (kind.One Neg) else if nat_eq reg 4 then row Sized D Nothing Rm (kind.Mul false) else if nat_eq reg 5 then row Sized D Nothing Rm (kind.Mul true) else if nat_eq reg 6 then row Sized D Nothing Rm (kind.Div false) else if nat_eq reg 7 then row Sized D Nothing Rm (kind.Div true) else None

unfoldable pub group_fe : ℕ → Option Row
group_fe reg = if nat_eq reg 0 then row Sized B Nothing Rm (kind.One Inc) else if nat_eq reg 1 then row Sized B Nothing Rm (kind.One Dec) else None

unfoldable pub group_ff : ℕ → Option Row
group_ff reg = if nat_eq reg 0 then row Sized V Nothing Rm (kind.One Inc) else if nat_eq reg 1 then row Sized V Nothing Rm (kind.One Dec) else if nat_eq reg 2 then row Track Q Nothing Rm kind.CallTo else if nat_eq reg 4 then row Track Q Nothing Rm kind.JmpTo else if nat_eq reg 6 then row Bare Q Nothing Rm kind.Push else None

unfoldable pub from_e0 : ℕ → ℕ → Option Row
from_e0 op reg = if nat_eq op 0xE8 then short Bare Q Rel32 Imm kind.Call else if nat_eq op 0xE9 then short Bare Q Rel32 Imm kind.Jmp else if nat_eq op 0xEB then short Bare Q Rel8 Imm kind.Jmp else if nat_eq op 0xF6 then group_f6 reg else if nat_eq op 0xF7 then group_f7 reg else if nat_eq op 0xFE then group_fe reg else if nat_eq op 0xFF then group_ff reg else None

unfoldable pub plain : ℕ → ℕ → ℕ → Option Row
plain b op reg = if nat_lt op 0x40 then alu_row (kind.Alu (alu_op (op / 8))) (op % 8) else if nat_lt op 0x80 then from_40 op else if nat_lt op 0x90 then from_80 op reg else if nat_lt op 0xC0 then from_90 b op else if nat_lt op 0xE0 then from_c0 op reg else from_e0 op reg

-- ---- opcodes behind 0F

unfoldable pub escaped : ℕ → ℕ → Option Row
escaped op reg = if nat_eq op 0x1F && nat_eq reg 0 then row Mixed Q Nothing Rm kind.Nop else if between 0x40 0x4F op then row Sized D Nothing RegRm kind.Cmov else if between 0x80 0x8F op then short Bare Q Rel32 Imm kind.Jcc else if between 0x90 0x9F op then row Sized B Nothing Rm kind.Set else if nat_eq op 0xAE && nat_eq reg 6 then fixed 0xF0 Bare kind.Mfence else if nat_eq op 0xAF then row Sized D Nothing RegRm kind.ImulTwo else if nat_eq op 0xB6 then row Sized V Nothing RegRm (kind.Zx W8) else if nat_eq op 0xB7 then row Sized D Nothing RegRm (kind.Zx W16) else if nat_eq op 0xBE then row Sized V Nothing RegRm (kind.Sx W8) else if nat_eq op 0xBF then row Sized D Nothing RegRm (kind.Sx W16) else None

-- ---- LOCK and REP

unfoldable pub can_lock : ℕ → Bool
can_lock n = if nat_eq n 2 then false else if nat_eq n 3 then false else if nat_eq n 7 then false else true

unfoldable pub lock_row : Size → Tail → Shape → ℕ → Option Row
lock_row w t s n = if can_lock n then row Locked w t s (kind.LockAlu (alu_op n)) else None

unfoldable pub lock_alu : ℕ → Option Row
lock_alu op = if nat_eq (op % 8) 0 then lock_row B Nothing RmReg (op / 8) else if nat_eq (op % 8) 1 then lock_row V Nothing RmReg (op / 8) else None

unfoldable pub lock_one : Size → ℕ → Option Row
lock_one w reg = if nat_eq reg 0 then row Locked w Nothing Rm (kind.LockOne Inc) else if nat_eq reg 1 then row Locked w Nothing Rm (kind.LockOne Dec) else None

unfoldable pub locked : ℕ → ℕ → Option Row
locked op reg = if nat_lt op 0x40 then lock_alu op else if nat_eq op 0x80 then lock_row B Ib RmImm reg else if nat_eq op 0x81 then lock_row V Iz RmImm reg else if nat_eq op 0x83 then lock_row V Ib RmImm reg else if nat_eq op 0x86 then row Locked B Nothing RmReg kind.LockXchg else if nat_eq op 0x87 then row Locked V Nothing RmReg kind.LockXchg else if nat_eq op 0xFE then lock_one B reg else if nat_eq op 0xFF then lock_one V reg else None

unfoldable pub locked_escaped : ℕ → Option Row
locked_escaped op = if nat_eq op 0xB0 then row Locked B Nothing RmReg kind.Cmpxchg else if nat_eq op 0xB1 then row Locked V Nothing RmReg kind.Cmpxchg else if nat_eq op 0xC0 then row Locked B Nothing RmReg kind.Xadd else if nat_eq op 0xC1 then row Locked V Nothing RmReg kind.Xadd else None

unfoldable pub repeated : ℕ → Option Row
repeated op = if nat_eq op 0x90 then asks rex.Absent (short Repeated Q Nothing Imm kind.Pause) else if nat_eq op 0xC3 then asks rex.Absent (short Repeated Q Nothing Imm kind.Ret) else None

unfoldable pub repeated_escaped : ℕ → ℕ → Option Row
repeated_escaped op reg = if nat_eq op 0x1E && nat_eq reg 7 then fixed 0xFA Repeated kind.Endbr else None

-- ---- the whole choice

unfoldable pub chosen : Mark → ℕ → Bool → ℕ → ℕ → Option Row
chosen Plain b false op reg = plain b op reg
chosen Plain b true op reg = escaped op reg
chosen Lock b false op reg = locked op reg
chosen Lock b true op reg = locked_escaped op
chosen Rep b false op reg = repeated op
chosen Rep b true op reg = repeated_escaped op reg
