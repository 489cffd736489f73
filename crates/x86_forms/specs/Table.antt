-- The spelling table: which opcodes there are, what each asks of the bytes round it, and what it means
-- (Intel SDM, Volume 2, chapters 3 to 5, the instruction's page; 3.1.1.1 has the notation of opcodes).
use Rattle.std.specs.Prelude.{ℕ, zero, suc, ◌+◌, ◌*◌, List, [], ◌∷◌, ◌++◌, Bool, true, false, not, ◌&&◌, Option, Some, None, nat_le, nat_lt, if◌then◌else◌}
use Rattle.std.specs.List.{list_any}
use Rattle.x86_forms.specs.declared.operands.Width.TheVariants.{W8, W16, W32}
use Rattle.x86_forms.specs.declared.instructions.AluOp.{AluOp}
use Rattle.x86_forms.specs.declared.instructions.AluOp.TheVariants.{Add, Or, Adc, Sbb, And, Sub, Xor, Cmp, Test}
use Rattle.x86_forms.specs.declared.instructions.OneOp.TheVariants.{Inc, Dec, Not, Neg}
use Rattle.x86_forms.specs.declared.instructions.ShiftOp.{ShiftOp}
use Rattle.x86_forms.specs.declared.instructions.ShiftOp.TheVariants.{Shl, Shr, Sar, Rol, Ror}
use Rattle.x86_forms.specs.declared.rows.Prefixes.{Prefixes}
use Rattle.x86_forms.specs.declared.rows.Prefixes.TheVariants.{Sized, Bare, Locked, Mixed, Track, Repeated}
use Rattle.x86_forms.specs.declared.rows.Rex.{Rex}
use Rattle.x86_forms.specs.declared.rows.Rex.TheVariants as rex
use Rattle.x86_forms.specs.declared.rows.Size.{Size}
use Rattle.x86_forms.specs.declared.rows.Size.TheVariants.{B, V, D, Q}
use Rattle.x86_forms.specs.declared.rows.Tail.{Tail}
use Rattle.x86_forms.specs.declared.rows.Tail.TheVariants.{Nothing, Ib, Iz, Iv, Iw, Rel8, Rel32}
use Rattle.x86_forms.specs.declared.rows.Shape.{Shape}
use Rattle.x86_forms.specs.declared.rows.Shape.TheVariants.{RmReg, RegRm, RmImm, AccImm, CodeImm, CodeAcc, Rm, Imm}
use Rattle.x86_forms.specs.declared.rows.Kind.{Kind}
use Rattle.x86_forms.specs.declared.rows.Kind.TheVariants as kind
use Rattle.x86_forms.specs.declared.rows.Row.{Row}

-- A line of the table: whether 0F stands before the opcode, the opcode or the first of several that
-- follow one another, how many they are, the reg field of ModRM where the line fixes it, and the row.
pub record Line : Type 0 where
  pub escape : Bool
  pub first : ℕ
  pub count : ℕ
  pub ext : Option ℕ
  pub row : Row

-- an opcode; several, as +r and +c; one with a fixed reg field, as /n
abbrev pub one : ℕ → Row → Line
one op r = record { escape = false; first = op; count = 1; ext = None; row = r }

abbrev pub many : ℕ → ℕ → Row → Line
many op n r = record { escape = false; first = op; count = n; ext = None; row = r }

abbrev pub group : ℕ → ℕ → Row → Line
group op g r = record { escape = false; first = op; count = 1; ext = Some g; row = r }

-- the same behind 0F
abbrev pub one_0f : ℕ → Row → Line
one_0f op r = record { escape = true; first = op; count = 1; ext = None; row = r }

abbrev pub many_0f : ℕ → ℕ → Row → Line
many_0f op n r = record { escape = true; first = op; count = n; ext = None; row = r }

abbrev pub group_0f : ℕ → ℕ → Row → Line
group_0f op g r = record { escape = true; first = op; count = 1; ext = Some g; row = r }

-- a row with ModRM; one without; one whose ModRM is this byte and that takes no REX
abbrev pub rm : Prefixes → Size → Tail → Shape → Kind → Row
rm p w t s k = record { prefixes = p; rex = rex.Any; size = w; modrm = true; fixed = None; tail = t; shape = s; kind = k }

abbrev pub no : Prefixes → Size → Tail → Shape → Kind → Row
no p w t s k = record { prefixes = p; rex = rex.Any; size = w; modrm = false; fixed = None; tail = t; shape = s; kind = k }

abbrev pub alone : ℕ → Prefixes → Kind → Row
alone m p k = record { prefixes = p; rex = rex.Absent; size = Q; modrm = true; fixed = Some m; tail = Nothing; shape = Rm; kind = k }

-- a row that asks something of REX
abbrev pub asking : Rex → Row → Row
asking x r = record r { rex = x }

-- an opcode at 8 bits, and the next one at the other widths
abbrev pub pair : ℕ → Prefixes → Shape → Kind → List Line
pair op p s k = one op (rm p B Nothing s k) ∷ one (op + 1) (rm p V Nothing s k) ∷ []

abbrev pub pair_0f : ℕ → Prefixes → Shape → Kind → List Line
pair_0f op p s k = one_0f op (rm p B Nothing s k) ∷ one_0f (op + 1) (rm p V Nothing s k) ∷ []

abbrev pub group_pair : ℕ → ℕ → Prefixes → Shape → Kind → List Line
group_pair op g p s k = group op g (rm p B Nothing s k) ∷ group (op + 1) g (rm p V Nothing s k) ∷ []

-- 80 /g ib, 81 /g iz, 83 /g ib
abbrev pub immediates : ℕ → Prefixes → Kind → List Line
immediates g p k =
    group 0x80 g (rm p B Ib RmImm k)
    ∷ group 0x81 g (rm p V Iz RmImm k)
    ∷ group 0x83 g (rm p V Ib RmImm k)
    ∷ []

-- ADD, OR, ADC, SBB, AND, SUB, XOR and CMP, each with its number g from 0 to 7
abbrev pub alu : ℕ → AluOp → List Line
alu g op =
    pair (8 * g) Sized RmReg (kind.Alu op)
    ++ pair (8 * g + 2) Sized RegRm (kind.Alu op)
    ++ (one (8 * g + 4) (no Sized B Ib AccImm (kind.Alu op))
    ∷ one (8 * g + 5) (no Sized V Iz AccImm (kind.Alu op))
    ∷ [])
    ++ immediates g Sized (kind.Alu op)

-- the locked ones, to memory alone
abbrev pub locked_alu : ℕ → AluOp → List Line
locked_alu g op = pair (8 * g) Locked RmReg (kind.LockAlu op) ++ immediates g Locked (kind.LockAlu op)

-- SHL, SHR and SAR: by a byte, by 1, by cl
abbrev pub shift : ℕ → ShiftOp → List Line
shift n op =
    group 0xC0 n (rm Sized B Ib Rm (kind.ShiftBy op))
    ∷ group 0xC1 n (rm Sized V Ib Rm (kind.ShiftBy op))
    ∷ []
    ++ group_pair 0xD0 n Sized Rm (kind.ShiftOne op)
    ++ group_pair 0xD2 n Sized Rm (kind.ShiftCl op)

-- ROL and ROR, at 32 and 64 bits alone
abbrev pub rotate : ℕ → ShiftOp → List Line
rotate n op =
    group 0xC1 n (rm Sized D Ib Rm (kind.ShiftBy op))
    ∷ group 0xD1 n (rm Sized D Nothing Rm (kind.ShiftOne op))
    ∷ group 0xD3 n (rm Sized D Nothing Rm (kind.ShiftCl op))
    ∷ []

-- TEST
abbrev pub tests : List Line
tests =
    pair 0x84 Sized RmReg (kind.Alu Test)
    ++ (one 0xA8 (no Sized B Ib AccImm (kind.Alu Test))
    ∷ one 0xA9 (no Sized V Iz AccImm (kind.Alu Test))
    ∷ group 0xF6 0 (rm Sized B Ib RmImm (kind.Alu Test))
    ∷ group 0xF7 0 (rm Sized V Iz RmImm (kind.Alu Test))
    ∷ [])

-- MOV; MOVZX, MOVSX and MOVSXD; LEA; PUSH and POP
abbrev pub moves : List Line
moves =
    pair 0x88 Sized RmReg kind.Mov
    ++ pair 0x8A Sized RegRm kind.Mov
    ++ (many 0xB0 8 (no Sized B Ib CodeImm kind.Mov)
    ∷ many 0xB8 8 (no Sized V Iv CodeImm kind.Mov)
    ∷ group 0xC6 0 (rm Sized B Ib RmImm kind.Mov)
    ∷ group 0xC7 0 (rm Sized V Iz RmImm kind.Mov)
    ∷ one_0f 0xB6 (rm Sized V Nothing RegRm (kind.Zx W8))
    ∷ one_0f 0xBE (rm Sized V Nothing RegRm (kind.Sx W8))
    ∷ one_0f 0xB7 (rm Sized D Nothing RegRm (kind.Zx W16))
    ∷ one_0f 0xBF (rm Sized D Nothing RegRm (kind.Sx W16))
    ∷ one 0x63 (asking rex.Wide (rm Sized V Nothing RegRm (kind.Sx W32)))
    ∷ one 0x8D (rm Sized V Nothing RegRm kind.Lea)
    ∷ many 0x50 8 (no Bare Q Nothing CodeAcc kind.Push)
    ∷ one 0x68 (no Bare Q Iz Imm kind.Push)
    ∷ one 0x6A (no Bare Q Ib Imm kind.Push)
    ∷ group 0xFF 6 (rm Bare Q Nothing Rm kind.Push)
    ∷ many 0x58 8 (no Bare Q Nothing CodeAcc kind.Pop)
    ∷ [])

-- INC, DEC, NOT and NEG; MUL, IMUL, DIV and IDIV; CWDE and CDQE, CDQ and CQO
abbrev pub numbers : List Line
numbers =
    group_pair 0xFE 0 Sized Rm (kind.One Inc)
    ++ group_pair 0xFE 1 Sized Rm (kind.One Dec)
    ++ group_pair 0xF6 2 Sized Rm (kind.One Not)
    ++ group_pair 0xF6 3 Sized Rm (kind.One Neg)
    ++ (group 0xF7 4 (rm Sized D Nothing Rm (kind.Mul false))
    ∷ group 0xF7 5 (rm Sized D Nothing Rm (kind.Mul true))
    ∷ group 0xF7 6 (rm Sized D Nothing Rm (kind.Div false))
    ∷ group 0xF7 7 (rm Sized D Nothing Rm (kind.Div true))
    ∷ one_0f 0xAF (rm Sized D Nothing RegRm kind.ImulTwo)
    ∷ one 0x69 (rm Sized D Iz RegRm kind.ImulThree)
    ∷ one 0x6B (rm Sized D Ib RegRm kind.ImulThree)
    ∷ one 0x98 (no Sized D Nothing Imm kind.Widen)
    ∷ one 0x99 (no Sized D Nothing Imm kind.Spread)
    ∷ [])

-- XCHG: 90 exchanges rax with r8, and is NOP where REX.B is 0; SETcc and CMOVcc
abbrev pub choices : List Line
choices =
    pair 0x86 Sized RmReg kind.Xchg
    ++ (many 0x91 7 (no Sized V Nothing CodeAcc kind.Xchg)
    ∷ one 0x90 (asking rex.High (no Sized V Nothing CodeAcc kind.Xchg))
    ∷ many_0f 0x90 16 (rm Sized B Nothing Rm kind.Set)
    ∷ many_0f 0x40 16 (rm Sized D Nothing RegRm kind.Cmov)
    ∷ [])

-- Jcc, JMP, CALL and RET; 3E before an indirect jump or call is the NOTRACK prefix
abbrev pub transfers : List Line
transfers =
    many 0x70 16 (no Bare Q Rel8 Imm kind.Jcc)
    ∷ many_0f 0x80 16 (no Bare Q Rel32 Imm kind.Jcc)
    ∷ one 0xEB (no Bare Q Rel8 Imm kind.Jmp)
    ∷ one 0xE9 (no Bare Q Rel32 Imm kind.Jmp)
    ∷ group 0xFF 4 (rm Track Q Nothing Rm kind.JmpTo)
    ∷ group 0xFF 2 (rm Track Q Nothing Rm kind.CallTo)
    ∷ one 0xE8 (no Bare Q Rel32 Imm kind.Call)
    ∷ one 0xC3 (asking rex.Absent (no Bare Q Nothing Imm kind.Ret))
    ∷ one 0xC3 (asking rex.Absent (no Repeated Q Nothing Imm kind.Ret))
    ∷ one 0xC2 (asking rex.Absent (no Bare Q Iw Imm kind.Ret))
    ∷ []

-- LEAVE; NOP, which touches no memory; PAUSE; ENDBR64, which is F3 0F 1E FA; MFENCE, which is 0F AE F0
abbrev pub others : List Line
others =
    one 0xC9 (asking rex.Absent (no Bare Q Nothing Imm kind.Leave))
    ∷ one 0x90 (asking rex.Low (no Mixed Q Nothing Imm kind.Nop))
    ∷ group_0f 0x1F 0 (rm Mixed Q Nothing Rm kind.Nop)
    ∷ one 0x90 (asking rex.Absent (no Repeated Q Nothing Imm kind.Pause))
    ∷ group_0f 0x1E 7 (alone 0xFA Repeated kind.Endbr)
    ∷ group_0f 0xAE 6 (alone 0xF0 Bare kind.Mfence)
    ∷ []

-- LOCK, with memory alone: ADD, OR, AND, SUB, XOR, INC, DEC, XADD and CMPXCHG, and XCHG, which is the same instruction without F0
abbrev pub locks : List Line
locks =
    locked_alu 0 Add
    ++ locked_alu 1 Or
    ++ locked_alu 4 And
    ++ locked_alu 5 Sub
    ++ locked_alu 6 Xor
    ++ group_pair 0xFE 0 Locked Rm (kind.LockOne Inc)
    ++ group_pair 0xFE 1 Locked Rm (kind.LockOne Dec)
    ++ pair_0f 0xC0 Locked RmReg kind.Xadd
    ++ pair_0f 0xB0 Locked RmReg kind.Cmpxchg
    ++ pair 0x86 Locked RmReg kind.LockXchg

unfoldable pub table : List Line
table =
    alu 0 Add
    ++ alu 1 Or
    ++ alu 2 Adc
    ++ alu 3 Sbb
    ++ alu 4 And
    ++ alu 5 Sub
    ++ alu 6 Xor
    ++ alu 7 Cmp
    ++ tests
    ++ moves
    ++ numbers
    ++ shift 4 Shl
    ++ shift 5 Shr
    ++ shift 7 Sar
    ++ rotate 0 Rol
    ++ rotate 1 Ror
    ++ choices
    ++ transfers
    ++ others
    ++ locks

abbrev pub same : Bool → Bool → Bool
same true b = b
same false b = not b

-- whether a line of the table has this opcode
unfoldable pub is_opcode : Bool → ℕ → Bool
is_opcode escape op = list_any (λ l. same escape l.escape && (nat_le l.first op && nat_lt op (l.first + l.count))) table

-- how many of the numbers below n are such opcodes
unfoldable pub opcode_count : Bool → ℕ → ℕ
opcode_count escape zero = 0
opcode_count escape (suc n) = (if is_opcode escape n then 1 else 0) + opcode_count escape n
