-- Which byte strings spell an instruction (Intel SDM, Volume 2, 2.1, "Instruction format").
use Rattle.std.specs.Prelude.{◌≡◌, ◌≤◌, ℕ, ◌+◌, ◌*◌, ◌%◌, List, [], ◌∷◌, ◌++◌, length, take, Bool, true, false, ◌&&◌, ◌||◌, Option, Some, None, nat_eq, nat_lt, nat_le, slice_get, if◌then◌else◌, count_by}
use Rattle.std.specs.List.{list_all, list_any}
use Rattle.x86_forms.specs.declared.operands.Width.{Width}
use Rattle.x86_forms.specs.declared.operands.Mem.{Mem}
use Rattle.x86_forms.specs.declared.operands.Operand.{Operand}
use Rattle.x86_forms.specs.declared.operands.Operand.TheVariants as operand
use Rattle.x86_forms.specs.declared.conditions.Cond.{Cond}
use Rattle.x86_forms.specs.declared.instructions.Instr.{Instr}
use Rattle.x86_forms.specs.declared.instructions.Instr.TheVariants as instr
use Rattle.x86_forms.specs.declared.rows.Prefixes.{Prefixes}
use Rattle.x86_forms.specs.declared.rows.Prefixes.TheVariants.{Sized, Bare, Locked, Mixed, Track, Repeated}
use Rattle.x86_forms.specs.declared.rows.Mark.{Mark}
use Rattle.x86_forms.specs.declared.rows.Mark.TheVariants.{Plain, Lock, Rep}
use Rattle.x86_forms.specs.declared.rows.Rex.{Rex}
use Rattle.x86_forms.specs.declared.rows.Rex.TheVariants as rex
use Rattle.x86_forms.specs.declared.rows.Shape.{Shape}
use Rattle.x86_forms.specs.declared.rows.Shape.TheVariants as shape
use Rattle.x86_forms.specs.declared.rows.Kind.{Kind}
use Rattle.x86_forms.specs.declared.rows.Kind.TheVariants as kind
use Rattle.x86_forms.specs.declared.rows.Row.{Row}
use Rattle.x86_forms.specs.Conditions.{conditions}
use Rattle.x86_forms.specs.Operands.{byte, unsigned, signed, displacement, is_rex, rex_w, rex_r, rex_b, middle_field, has_sib, disp_len, place_of, register, operand_of, width_of, tail_len, at_width}
use Rattle.x86_forms.specs.Table.{Line, same, table}

-- The bytes of one instruction, cut into parts (2.1, figure 2-1). A part that may be missing is [].
pub record Parts : Type 0 where
  pub prefixes : List ℕ
  pub rex : List ℕ
  pub escape : List ℕ
  pub opcode : List ℕ
  pub modrm : List ℕ
  pub sib : List ℕ
  pub disp : List ℕ
  pub imm : List ℕ

abbrev pub bytes_of : Parts → List ℕ
bytes_of p = p.prefixes ++ (p.rex ++ (p.escape ++ (p.opcode ++ (p.modrm ++ (p.sib ++ (p.disp ++ p.imm))))))

-- ---- prefixes (2.1.1, 2.2.1)

abbrev pub has : ℕ → List ℕ → Bool
has x bs = list_any (λ b. nat_eq b x) bs

abbrev pub count : ℕ → List ℕ → ℕ
count x bs = count_by (λ b. nat_eq b x) bs

-- what a row takes of legacy prefixes
unfoldable pub allows : Prefixes → List ℕ → Bool
allows Sized ps = list_all (λ b. nat_eq b 0x66) ps
allows Bare ps = nat_eq (length ps) 0
allows Locked ps = list_all (λ b. nat_eq b 0x66 || nat_eq b 0xF0) ps && nat_eq (count 0xF0 ps) 1
allows Mixed ps = list_all (λ b. nat_eq b 0x66 || nat_eq b 0x2E) ps
allows Track ps = list_all (λ b. nat_eq b 0x3E) ps && nat_le (length ps) 1
allows Repeated ps = list_all (λ b. nat_eq b 0xF3) ps && nat_eq (length ps) 1

-- whether a 66 stands, which makes the operands narrower
unfoldable pub is_narrowed : List ℕ → Bool
is_narrowed ps = has 0x66 ps

-- no REX byte, or one
abbrev pub is_rex_part : List ℕ → Bool
is_rex_part [] = true
is_rex_part (x ∷ []) = is_rex x
is_rex_part (x ∷ y ∷ more) = false

-- what a row asks of REX
unfoldable pub allows_rex : Rex → List ℕ → Bool
allows_rex rex.Any x = true
allows_rex rex.Absent x = nat_eq (length x) 0
allows_rex rex.Wide x = nat_eq (rex_w (byte x)) 1
allows_rex rex.Low x = nat_eq (rex_b (byte x)) 0
allows_rex rex.High x = nat_eq (rex_b (byte x)) 1

-- a number that a line fixes, or leaves open
abbrev pub is_asked : Option ℕ → ℕ → Bool
is_asked None n = true
is_asked (Some k) n = nat_eq k n

-- ---- what the parts mean

-- the destination and the source of a row
unfoldable pub operands_of : Shape → Operand → Operand → Operand → Operand → Operand × Operand
operands_of shape.RmReg rm reg code imm = (rm, reg)
operands_of shape.RegRm rm reg code imm = (reg, rm)
operands_of shape.RmImm rm reg code imm = (rm, imm)
operands_of shape.AccImm rm reg code imm = (operand.Reg 0, imm)
operands_of shape.CodeImm rm reg code imm = (code, imm)
operands_of shape.CodeAcc rm reg code imm = (code, operand.Reg 0)
operands_of shape.Rm rm reg code imm = (rm, rm)
operands_of shape.Imm rm reg code imm = (imm, imm)

-- the condition in the low four bits of an opcode
abbrev pub condition : ℕ → Option Cond
condition code = slice_get conditions (code % 16)

-- an instruction whose first operand is a register, or in memory
abbrev pub with_reg : Operand → (ℕ → Instr) → Option Instr
with_reg (operand.Reg r) f = Some (f r)
with_reg _ f = None

abbrev pub with_mem : Operand → (Mem → Instr) → Option Instr
with_mem (operand.Mem m) f = Some (f m)
with_mem _ f = None

abbrev pub lea : Width → Operand → Operand → Option Instr
lea w (operand.Reg r) src = with_mem src (λ m. instr.Lea w r m)
lea w _ src = None

abbrev pub with_cond : Option Cond → (Cond → Option Instr) → Option Instr
with_cond (Some c) f = f c
with_cond None f = None

-- the instruction of a row, if it takes such operands: the destination and the source, the immediate
-- as an operand and as bytes, and the opcode
unfoldable pub instr_of : Kind → Width → Operand × Operand → Operand → ℕ → List ℕ → Option Instr
instr_of (kind.Alu op) w ds imm code tail = Some (instr.Alu op w ds.0 ds.1)
instr_of kind.Mov w ds imm code tail = Some (instr.Mov w ds.0 ds.1)
instr_of (kind.Zx from) w ds imm code tail = with_reg ds.0 (λ r. instr.Zx from w r ds.1)
instr_of (kind.Sx from) w ds imm code tail = with_reg ds.0 (λ r. instr.Sx from w r ds.1)
instr_of kind.Lea w ds imm code tail = lea w ds.0 ds.1
instr_of kind.Push w ds imm code tail = Some (instr.Push ds.0)
instr_of kind.Pop w ds imm code tail = with_reg ds.0 (λ r. instr.Pop r)
instr_of (kind.One op) w ds imm code tail = Some (instr.One op w ds.0)
instr_of (kind.Mul s) w ds imm code tail = Some (instr.Mul s w ds.0)
instr_of kind.ImulTwo w ds imm code tail = with_reg ds.0 (λ r. instr.Imul w r ds.0 ds.1)
instr_of kind.ImulThree w ds imm code tail = with_reg ds.0 (λ r. instr.Imul w r ds.1 imm)
instr_of (kind.Div s) w ds imm code tail = Some (instr.Div s w ds.0)
instr_of (kind.ShiftBy op) w ds imm code tail = Some (instr.Shift op w ds.0 (Some (byte tail)))
instr_of (kind.ShiftOne op) w ds imm code tail = Some (instr.Shift op w ds.0 (Some 1))
instr_of (kind.ShiftCl op) w ds imm code tail = Some (instr.Shift op w ds.0 None)
instr_of kind.Widen w ds imm code tail = Some (instr.Widen w)
instr_of kind.Spread w ds imm code tail = Some (instr.Spread w)
instr_of kind.Xchg w ds imm code tail = Some (instr.Xchg w ds.0 ds.1)
instr_of kind.Set w ds imm code tail = with_cond (condition code) (λ c. Some (instr.Set c ds.0))
instr_of kind.Cmov w ds imm code tail = with_cond (condition code) (λ c. with_reg ds.0 (λ r. instr.Cmov c w r ds.1))
instr_of kind.Jcc w ds imm code tail = with_cond (condition code) (λ c. Some (instr.Jcc c (displacement tail)))
instr_of kind.Jmp w ds imm code tail = Some (instr.Jmp (displacement tail))
instr_of kind.JmpTo w ds imm code tail = Some (instr.JmpTo ds.0)
instr_of kind.Call w ds imm code tail = Some (instr.Call (displacement tail))
instr_of kind.CallTo w ds imm code tail = Some (instr.CallTo ds.0)
instr_of kind.Ret w ds imm code tail = Some (instr.Ret (unsigned (take 2 tail)))
instr_of kind.Leave w ds imm code tail = Some instr.Leave
instr_of kind.Nop w ds imm code tail = Some instr.Nop
instr_of kind.Pause w ds imm code tail = Some instr.Pause
instr_of kind.Endbr w ds imm code tail = Some instr.Endbr
instr_of kind.Mfence w ds imm code tail = Some instr.Mfence
instr_of (kind.LockAlu op) w ds imm code tail = with_mem ds.0 (λ m. instr.LockAlu op w m ds.1)
instr_of (kind.LockOne op) w ds imm code tail = with_mem ds.0 (λ m. instr.LockOne op w m)
instr_of kind.LockXchg w ds imm code tail = with_mem ds.0 (λ m. instr.Xchg w (operand.Mem m) ds.1)
instr_of kind.Xadd w ds imm code tail = with_mem ds.0 (λ m. instr.Xadd w m ds.1)
instr_of kind.Cmpxchg w ds imm code tail = with_mem ds.0 (λ m. instr.Cmpxchg w m ds.1)

-- the width at which rm is read
unfoldable pub rm_width : Kind → Width → Width
rm_width (kind.Zx from) w = from
rm_width (kind.Sx from) w = from
rm_width _ w = w

-- what the parts say under a row at a width
unfoldable pub meaning : Row → Width → Parts → Option Instr
meaning row w p =
    let x = byte p.rex in
    let m = byte p.modrm in
    let no_rex = nat_eq (length p.rex) 0 in
    let imm = operand.Imm (at_width w (signed p.imm)) in
    instr_of row.kind w
    (operands_of row.shape
    (operand_of (rm_width row.kind w) no_rex (place_of x m (byte p.sib) (displacement p.disp)))
    (register w no_rex (middle_field m + 8 * rex_r x))
    (register w no_rex (byte p.opcode % 8 + 8 * rex_b x))
    imm)
    imm (byte p.opcode) p.imm

-- ---- rows

-- the prefix by which rows of one opcode are told apart
abbrev pub mark_of : Prefixes → Mark
mark_of Sized = Plain
mark_of Bare = Plain
mark_of Mixed = Plain
mark_of Track = Plain
mark_of Locked = Lock
mark_of Repeated = Rep

abbrev pub mark_number : Mark → ℕ
mark_number Plain = 0
mark_number Lock = 1
mark_number Rep = 2

-- the bit REX.B that a row asks for: the opcode 90 is two instructions by it
abbrev pub asked_b : Rex → Option ℕ
asked_b rex.Any = None
asked_b rex.Absent = None
asked_b rex.Wide = None
asked_b rex.Low = Some 0
asked_b rex.High = Some 1

-- whether a mark, REX.B, these opcode bytes and this reg field are those of a line
unfoldable pub covers : Mark → ℕ → Bool → ℕ → ℕ → Line → Bool
covers mark b escape op reg line =
    nat_eq (mark_number mark) (mark_number (mark_of line.row.prefixes)) && (is_asked (asked_b line.row.rex) b && (same escape line.escape && (nat_le line.first op && (nat_lt op (line.first + line.count) && is_asked line.ext reg))))

abbrev pub sib_len : Bool → ℕ → ℕ
sib_len false m = 0
sib_len true m = if has_sib m then 1 else 0

abbrev pub disp_size : Bool → ℕ → ℕ → ℕ
disp_size false m sib = 0
disp_size true m sib = disp_len m sib

abbrev pub escape_bytes : Bool → List ℕ
escape_bytes false = []
escape_bytes true = 0x0F ∷ []

abbrev pub modrm_len : Bool → ℕ
modrm_len false = 0
modrm_len true = 1

-- the parts have the form that a line of the table asks for at a width
pub record HasForm (line : Line) (w : Width) (p : Parts) : Type 0 where
  pub prefixes : allows line.row.prefixes p.prefixes ≡ true
  pub rex : is_rex_part p.rex ≡ true
  pub asked : allows_rex line.row.rex p.rex ≡ true
  pub width : width_of line.row.size (is_narrowed p.prefixes) (rex_w (byte p.rex)) ≡ Some w
  pub escape : p.escape ≡ escape_bytes line.escape
  pub opcode : length p.opcode ≡ 1
  pub covered : covers (mark_of line.row.prefixes) (rex_b (byte p.rex)) line.escape (byte p.opcode) (middle_field (byte p.modrm)) line ≡ true
  pub modrm : length p.modrm ≡ modrm_len line.row.modrm
  pub fixed : is_asked line.row.fixed (byte p.modrm) ≡ true
  pub sib : length p.sib ≡ sib_len line.row.modrm (byte p.modrm)
  pub disp : length p.disp ≡ disp_size line.row.modrm (byte p.modrm) (byte p.sib)
  pub imm : length p.imm ≡ tail_len line.row.tail w

abbrev pub are_bytes : List ℕ → Bool
are_bytes s = list_all (λ b. nat_lt b 256) s

-- The byte string s spells the instruction i: it has the form that a line of the table asks for, with the operands that the line builds, and is at most 15 bytes long (2.3.11).
pub record Spells (i : Instr) (s : List ℕ) : Type 0 where
  pub parts : Parts
  pub width : Width
  pub number : ℕ
  pub line : Line
  pub listed : slice_get table number ≡ Some line
  pub form : HasForm line width parts
  pub means : meaning line.row width parts ≡ Some i
  pub string : s ≡ bytes_of parts
  pub bytes : are_bytes s ≡ true
  pub short : length s ≤ 15

-- no instruction has this spelling
abbrev pub SpellsNothing : List ℕ → Type 0
SpellsNothing s = (i : Instr) → Spells i s → ⊥
