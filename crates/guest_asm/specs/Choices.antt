-- Which opcode and operands the assembler chooses for an instruction.
use Rattle.std.specs.Prelude.{ℕ, ◌+◌, ◌*◌, ◌%◌, Bool, true, false, ◌&&◌, ◌||◌, not, Option, Some, None, nat_eq, nat_le, nat_lt, if◌then◌else◌}
use Rattle.std.specs.Int.{w32, cast_unsigned}
use Rattle.x86_forms.specs.declared.operands.Width.{Width}
use Rattle.x86_forms.specs.declared.operands.Width.TheVariants.{W8, W16, W32, W64}
use Rattle.x86_forms.specs.declared.operands.Operand.{Operand}
use Rattle.x86_forms.specs.declared.operands.Operand.TheVariants as operand
use Rattle.x86_forms.specs.declared.operands.Place.{Place}
use Rattle.x86_forms.specs.declared.operands.Place.TheVariants as place
use Rattle.x86_forms.specs.declared.conditions.Cond.{Cond}
use Rattle.x86_forms.specs.declared.conditions.Cond.TheVariants as condition
use Rattle.x86_forms.specs.declared.instructions.AluOp.{AluOp}
use Rattle.x86_forms.specs.declared.instructions.AluOp.TheVariants as alu
use Rattle.x86_forms.specs.declared.instructions.OneOp.{OneOp}
use Rattle.x86_forms.specs.declared.instructions.OneOp.TheVariants as one
use Rattle.x86_forms.specs.declared.instructions.ShiftOp.{ShiftOp}
use Rattle.x86_forms.specs.declared.instructions.ShiftOp.TheVariants.{Shl, Shr, Sar, Rol, Ror}
use Rattle.x86_forms.specs.declared.instructions.Instr.{Instr}
use Rattle.x86_forms.specs.declared.instructions.Instr.TheVariants as instr
use Rattle.guest_asm.specs.declared.assembler.pieces.Number.{Number}
use Rattle.guest_asm.specs.declared.assembler.pieces.Opcode.{Opcode}
use Rattle.guest_asm.specs.declared.assembler.pieces.Pieces.{Pieces}
use Rattle.guest_asm.specs.Places.{is_short}
use Rattle.guest_asm.specs.Pieces.{number, with_place, with_code}
use Rattle.guest_asm.specs.Encodable.{is_over8, is_test, imm_can}

-- ---- operands

abbrev pub nothing : Number
nothing = number 0 0

abbrev pub plain : ℕ → Opcode
plain op = record { prefix = None; escape = false; byte = op }

abbrev pub escaped : ℕ → Opcode
escaped op = record { prefix = None; escape = true; byte = op }

abbrev pub behind : Option ℕ → ℕ → Opcode
behind p op = record { prefix = p; escape = false; byte = op }

abbrev pub behind_escaped : Option ℕ → ℕ → Opcode
behind_escaped p op = record { prefix = p; escape = true; byte = op }

-- the number of a register; AH to BH have 4 to 7
abbrev pub number_of : Operand → ℕ
number_of (operand.Reg r) = r
number_of (operand.High r) = r % 4 + 4
number_of (operand.Mem m) = 0
number_of (operand.Imm n) = 0

abbrev pub to_place : Operand → Place
to_place (operand.Reg r) = place.Reg r
to_place (operand.High r) = place.Reg (r % 4 + 4)
to_place (operand.Mem m) = place.Mem m
to_place (operand.Imm n) = place.Reg 0

abbrev pub is_acc : Operand → Bool
is_acc (operand.Reg r) = nat_eq r 0
is_acc (operand.High r) = false
is_acc (operand.Mem m) = false
is_acc (operand.Imm n) = false

-- an opcode at 8 bits, and the next one at the other widths
abbrev pub wide_bit : Width → ℕ
wide_bit W8 = 0
wide_bit W16 = 1
wide_bit W32 = 1
wide_bit W64 = 1

-- the least number with a sign that one byte has, at each width
abbrev pub short_from : Width → ℕ
short_from W8 = 128
short_from W16 = 65408
short_from W32 = 4294967168
short_from W64 = 18446744073709551488

abbrev pub is_short_imm : Width → ℕ → Bool
is_short_imm w n = nat_lt n 128 || nat_le (short_from w) n

-- how many bytes iz has, and ib at 8 bits
abbrev pub imm_bytes : Width → ℕ
imm_bytes W8 = 1
imm_bytes W16 = 2
imm_bytes W32 = 4
imm_bytes W64 = 4

-- ---- ADD to CMP, and TEST

abbrev pub alu_number : AluOp → ℕ
alu_number alu.Add = 0
alu_number alu.Or = 1
alu_number alu.Adc = 2
alu_number alu.Sbb = 3
alu_number alu.And = 4
alu_number alu.Sub = 5
alu_number alu.Xor = 6
alu_number alu.Cmp = 7
alu_number alu.Test = 0

-- the opcodes to a register or memory, from memory, for the accumulator with an immediate, and for others
abbrev pub store_byte : AluOp → Width → ℕ
store_byte op w = if is_test op then 0x84 + wide_bit w else 8 * alu_number op + wide_bit w

abbrev pub load_byte : AluOp → Width → ℕ
load_byte op w = 8 * alu_number op + 2 + wide_bit w

abbrev pub acc_byte : AluOp → Width → ℕ
acc_byte op w = if is_test op then 0xA8 + wide_bit w else 8 * alu_number op + 4 + wide_bit w

abbrev pub group_byte : AluOp → Width → ℕ
group_byte op w = if is_test op then 0xF6 + wide_bit w else 0x80 + wide_bit w

abbrev pub takes_short : AluOp → Width → ℕ → Bool
takes_short op w n = not (is_test op) && (is_over8 w && is_short_imm w n)

abbrev pub alu_imm : Bool → Option ℕ → AluOp → Width → Operand → ℕ → Pieces
alu_imm no_rex p op w dst n =
    if takes_short op w n
    then with_place no_rex w (behind p 0x83) (alu_number op) (to_place dst) (number 1 n)
    else if is_acc dst
    then with_code no_rex w (behind p (acc_byte op w)) 0 (number (imm_bytes w) n)
    else with_place no_rex w (behind p (group_byte op w)) (alu_number op) (to_place dst) (number (imm_bytes w) n)

abbrev pub alu_pieces : Bool → Option ℕ → AluOp → Width → Operand → Operand → Pieces
alu_pieces no_rex p op w dst (operand.Imm n) = alu_imm no_rex p op w dst n
alu_pieces no_rex p op w dst (operand.Mem m) = with_place no_rex w (behind p (load_byte op w)) (number_of dst) (place.Mem m) nothing
alu_pieces no_rex p op w dst (operand.Reg r) = with_place no_rex w (behind p (store_byte op w)) r (to_place dst) nothing
alu_pieces no_rex p op w dst (operand.High r) = with_place no_rex w (behind p (store_byte op w)) (r % 4 + 4) (to_place dst) nothing

-- ---- MOV

abbrev pub mov_reg_imm : Bool → Width → ℕ → ℕ → Pieces
mov_reg_imm no_rex W8 r n = with_code no_rex W8 (plain (0xB0 + r % 8)) r (number 1 n)
mov_reg_imm no_rex W16 r n = with_code no_rex W16 (plain (0xB8 + r % 8)) r (number 2 n)
mov_reg_imm no_rex W32 r n = with_code no_rex W32 (plain (0xB8 + r % 8)) r (number 4 n)
mov_reg_imm no_rex W64 r n = if imm_can W64 n then with_place no_rex W64 (plain 0xC7) 0 (place.Reg r) (number 4 n) else with_code no_rex W64 (plain (0xB8 + r % 8)) r (number 8 n)

abbrev pub mov_imm : Bool → Width → Operand → ℕ → Pieces
mov_imm no_rex w (operand.Mem m) n = with_place no_rex w (plain (0xC6 + wide_bit w)) 0 (place.Mem m) (number (imm_bytes w) n)
mov_imm no_rex w (operand.Reg r) n = mov_reg_imm no_rex w r n
mov_imm no_rex w (operand.High r) n = mov_reg_imm no_rex w (r % 4 + 4) n
mov_imm no_rex w (operand.Imm m) n = mov_reg_imm no_rex w 0 n

abbrev pub mov_pieces : Bool → Width → Operand → Operand → Pieces
mov_pieces no_rex w dst (operand.Imm n) = mov_imm no_rex w dst n
mov_pieces no_rex w dst (operand.Mem m) = with_place no_rex w (plain (0x8A + wide_bit w)) (number_of dst) (place.Mem m) nothing
mov_pieces no_rex w dst (operand.Reg r) = with_place no_rex w (plain (0x88 + wide_bit w)) r (to_place dst) nothing
mov_pieces no_rex w dst (operand.High r) = with_place no_rex w (plain (0x88 + wide_bit w)) (r % 4 + 4) (to_place dst) nothing

-- ---- MOVZX, MOVSX and MOVSXD; PUSH

abbrev pub zx_byte : Width → ℕ
zx_byte W8 = 0xB6
zx_byte W16 = 0xB7
zx_byte W32 = 0xB7
zx_byte W64 = 0xB7

abbrev pub sx_opcode : Width → Opcode
sx_opcode W8 = escaped 0xBE
sx_opcode W16 = escaped 0xBF
sx_opcode W32 = plain 0x63
sx_opcode W64 = plain 0x63

abbrev pub push_pieces : Bool → Operand → Pieces
push_pieces no_rex (operand.Reg r) = with_code no_rex W32 (plain (0x50 + r % 8)) r nothing
push_pieces no_rex (operand.High r) = with_code no_rex W32 (plain (0x50 + r % 8)) r nothing
push_pieces no_rex (operand.Mem m) = with_place no_rex W32 (plain 0xFF) 6 (place.Mem m) nothing
push_pieces no_rex (operand.Imm n) = if is_short_imm W64 n then with_code true W32 (plain 0x6A) 0 (number 1 n) else with_code true W32 (plain 0x68) 0 (number 4 n)

-- ---- numbers

abbrev pub one_byte : OneOp → ℕ
one_byte one.Inc = 0xFE
one_byte one.Dec = 0xFE
one_byte one.Not = 0xF6
one_byte one.Neg = 0xF6

abbrev pub one_number : OneOp → ℕ
one_number one.Inc = 0
one_number one.Dec = 1
one_number one.Not = 2
one_number one.Neg = 3

abbrev pub imul_pieces : Bool → Width → ℕ → Operand → Operand → Pieces
imul_pieces no_rex w dst a (operand.Imm n) = if is_short_imm w n then with_place no_rex w (plain 0x6B) dst (to_place a) (number 1 n) else with_place no_rex w (plain 0x69) dst (to_place a) (number 4 n)
imul_pieces no_rex w dst a (operand.Reg r) = with_place no_rex w (escaped 0xAF) dst (place.Reg r) nothing
imul_pieces no_rex w dst a (operand.High r) = with_place no_rex w (escaped 0xAF) dst (place.Reg (r % 4 + 4)) nothing
imul_pieces no_rex w dst a (operand.Mem m) = with_place no_rex w (escaped 0xAF) dst (place.Mem m) nothing

abbrev pub shift_number : ShiftOp → ℕ
shift_number Shl = 4
shift_number Shr = 5
shift_number Sar = 7
shift_number Rol = 0
shift_number Ror = 1

abbrev pub shift_pieces : Bool → ShiftOp → Width → Operand → Option ℕ → Pieces
shift_pieces no_rex op w dst None = with_place no_rex w (plain (0xD2 + wide_bit w)) (shift_number op) (to_place dst) nothing
shift_pieces no_rex op w dst (Some n) = if nat_eq n 1 then with_place no_rex w (plain (0xD0 + wide_bit w)) (shift_number op) (to_place dst) nothing else with_place no_rex w (plain (0xC0 + wide_bit w)) (shift_number op) (to_place dst) (number 1 n)

-- ---- XCHG with the accumulator, whose opcode 90 is another instruction

abbrev pub has_code : Operand → Bool
has_code (operand.Reg r) = not (nat_eq (r % 8) 0)
has_code (operand.High r) = false
has_code (operand.Mem m) = false
has_code (operand.Imm n) = false

abbrev pub is_exchange : Width → Operand → Operand → Bool
is_exchange w a b = is_acc b && (is_over8 w && has_code a)

abbrev pub xchg_pieces : Bool → Width → Operand → Operand → Pieces
xchg_pieces no_rex w a b =
    if is_exchange w a b
    then with_code no_rex w (plain (0x90 + number_of a % 8)) (number_of a) nothing
    else with_place no_rex w (plain (0x86 + wide_bit w)) (number_of b) (to_place a) nothing

-- ---- conditions and targets

abbrev pub cond_code : Cond → ℕ
cond_code condition.O = 0
cond_code condition.No = 1
cond_code condition.B = 2
cond_code condition.Ae = 3
cond_code condition.E = 4
cond_code condition.Ne = 5
cond_code condition.Be = 6
cond_code condition.A = 7
cond_code condition.S = 8
cond_code condition.Ns = 9
cond_code condition.P = 10
cond_code condition.Np = 11
cond_code condition.L = 12
cond_code condition.Ge = 13
cond_code condition.Le = 14
cond_code condition.G = 15

-- a relative target in one byte, or in four
abbrev pub jump_pieces : Opcode → Opcode → ℕ → Pieces
jump_pieces near far bits = if is_short bits then with_code true W32 near 0 (number 1 bits) else with_code true W32 far 0 (number 4 bits)

abbrev pub call_pieces : ℕ → Pieces
call_pieces bits = with_code true W32 (plain 0xE8) 0 (number 4 bits)

abbrev pub alone : Opcode → Pieces
alone o = with_code true W32 o 0 nothing

abbrev pub ret_pieces : ℕ → Pieces
ret_pieces n = if nat_eq n 0 then with_code true W32 (plain 0xC3) 0 nothing else with_code true W32 (plain 0xC2) 0 (number 2 n)

-- ---- instructions

abbrev pub lock : Option ℕ
lock = Some 0xF0

abbrev pub pieces : Bool → Instr → Pieces
pieces no_rex (instr.Alu op w dst src) = alu_pieces no_rex None op w dst src
pieces no_rex (instr.Mov w dst src) = mov_pieces no_rex w dst src
pieces no_rex (instr.Zx from w dst src) = with_place no_rex w (escaped (zx_byte from)) dst (to_place src) nothing
pieces no_rex (instr.Sx from w dst src) = with_place no_rex w (sx_opcode from) dst (to_place src) nothing
pieces no_rex (instr.Lea w dst mem) = with_place no_rex w (plain 0x8D) dst (place.Mem mem) nothing
pieces no_rex (instr.Push src) = push_pieces no_rex src
pieces no_rex (instr.Pop dst) = with_code no_rex W32 (plain (0x58 + dst % 8)) dst nothing
pieces no_rex (instr.One op w dst) = with_place no_rex w (plain (one_byte op + wide_bit w)) (one_number op) (to_place dst) nothing
pieces no_rex (instr.Mul signed w src) = with_place no_rex w (plain 0xF7) (if signed then 5 else 4) (to_place src) nothing
pieces no_rex (instr.Imul w dst a b) = imul_pieces no_rex w dst a b
pieces no_rex (instr.Div signed w src) = with_place no_rex w (plain 0xF7) (if signed then 7 else 6) (to_place src) nothing
pieces no_rex (instr.Shift op w dst count) = shift_pieces no_rex op w dst count
pieces no_rex (instr.Widen w) = with_code no_rex w (plain 0x98) 0 nothing
pieces no_rex (instr.Spread w) = with_code no_rex w (plain 0x99) 0 nothing
pieces no_rex (instr.Xchg w a b) = xchg_pieces no_rex w a b
pieces no_rex (instr.Set c dst) = with_place no_rex W8 (escaped (0x90 + cond_code c)) 0 (to_place dst) nothing
pieces no_rex (instr.Cmov c w dst src) = with_place no_rex w (escaped (0x40 + cond_code c)) dst (to_place src) nothing
pieces no_rex (instr.Jcc c rel) = jump_pieces (plain (0x70 + cond_code c)) (escaped (0x80 + cond_code c)) (cast_unsigned w32 rel)
pieces no_rex (instr.Jmp rel) = jump_pieces (plain 0xEB) (plain 0xE9) (cast_unsigned w32 rel)
pieces no_rex (instr.JmpTo src) = with_place no_rex W32 (plain 0xFF) 4 (to_place src) nothing
pieces no_rex (instr.Call rel) = call_pieces (cast_unsigned w32 rel)
pieces no_rex (instr.CallTo src) = with_place no_rex W32 (plain 0xFF) 2 (to_place src) nothing
pieces no_rex (instr.Ret extra) = ret_pieces extra
pieces no_rex instr.Leave = alone (plain 0xC9)
pieces no_rex instr.Nop = alone (plain 0x90)
pieces no_rex instr.Pause = alone (behind (Some 0xF3) 0x90)
pieces no_rex instr.Endbr = with_place true W32 (behind_escaped (Some 0xF3) 0x1E) 7 (place.Reg 2) nothing
pieces no_rex instr.Mfence = with_place true W32 (escaped 0xAE) 6 (place.Reg 0) nothing
pieces no_rex (instr.LockAlu op w mem src) = alu_pieces no_rex lock op w (operand.Mem mem) src
pieces no_rex (instr.LockOne op w mem) = with_place no_rex w (behind lock (one_byte op + wide_bit w)) (one_number op) (place.Mem mem) nothing
pieces no_rex (instr.Xadd w mem reg) = with_place no_rex w (behind_escaped lock (0xC0 + wide_bit w)) (number_of reg) (place.Mem mem) nothing
pieces no_rex (instr.Cmpxchg w mem reg) = with_place no_rex w (behind_escaped lock (0xB0 + wide_bit w)) (number_of reg) (place.Mem mem) nothing
