-- Reading a byte string from left to right: which instruction it begins with, and how long that is.
use Rattle.std.specs.Prelude.{ℕ, ◌+◌, ◌-◌, List, [], ◌∷◌, length, take, drop, Bool, ◌&&◌, ◌||◌, Option, Some, None, nat_eq, nat_lt, if◌then◌else◌}
use Rattle.x86_forms.specs.declared.operands.Width.{Width}
use Rattle.x86_forms.specs.declared.instructions.Instr.{Instr}
use Rattle.x86_forms.specs.declared.rows.Mark.{Mark}
use Rattle.x86_forms.specs.declared.rows.Mark.TheVariants.{Plain, Lock, Rep}
use Rattle.x86_forms.specs.declared.rows.Row.{Row}
use Rattle.x86_forms.specs.Operands.{byte, is_rex, rex_w, rex_b, middle_field, width_of, tail_len}
use Rattle.x86_forms.specs.Table.{Line, table}
use Rattle.x86_forms.specs.Spelling.{Parts, has, allows, allows_rex, is_asked, is_narrowed, covers, sib_len, disp_size, modrm_len, meaning}

infixl 10 ◌>>=◌
abbrev pub ◌>>=◌ : {A B : Type 0} → Option A → (A → Option B) → Option B
(Some x) >>= f = f x
None >>= f = None

-- the first n bytes, and the others
unfoldable pub cut : ℕ → List ℕ → Option (List ℕ × List ℕ)
cut n bytes = if nat_lt (length bytes) n then None else Some (take n bytes, drop n bytes)

abbrev pub is_prefix : ℕ → Bool
is_prefix b = nat_eq b 0x66 || (nat_eq b 0xF0 || (nat_eq b 0x2E || (nat_eq b 0x3E || nat_eq b 0xF3)))

-- how many prefixes stand in front
unfoldable pub prefix_count : List ℕ → ℕ
prefix_count [] = 0
prefix_count (b ∷ bs) = if is_prefix b then prefix_count bs + 1 else 0

unfoldable pub rex_len : List ℕ → ℕ
rex_len [] = 0
rex_len (b ∷ bs) = if is_rex b then 1 else 0

unfoldable pub escape_len : List ℕ → ℕ
escape_len [] = 0
escape_len (b ∷ bs) = if nat_eq b 0x0F then 1 else 0

unfoldable pub mark_in : List ℕ → Mark
mark_in ps = if has 0xF0 ps then Lock else if has 0xF3 ps then Rep else Plain

unfoldable pub find_line : List Line → Mark → ℕ → Bool → ℕ → ℕ → Option Line
find_line [] mark b escape op reg = None
find_line (l ∷ ls) mark b escape op reg = if covers mark b escape op reg l then Some l else find_line ls mark b escape op reg

abbrev pub row_of : Option Line → Option Row
row_of None = None
row_of (Some l) = Some l.row

unfoldable pub find_row : Mark → ℕ → Bool → ℕ → ℕ → Option Row
find_row mark b escape op reg = row_of (find_line table mark b escape op reg)

-- what stands before the operands
pub record Head : Type 0 where
  pub prefixes : List ℕ
  pub rex : List ℕ
  pub escape : List ℕ
  pub opcode : List ℕ

abbrev pub with_operands : Head → List ℕ → List ℕ → List ℕ → List ℕ → Parts
with_operands h modrm sib disp imm = record { prefixes = h.prefixes; rex = h.rex; escape = h.escape; opcode = h.opcode; modrm = modrm; sib = sib; disp = disp; imm = imm }

unfoldable pub read_head : List ℕ → Option (Head × List ℕ)
read_head bytes = do
  ps ← cut (prefix_count bytes) bytes
  rex ← cut (rex_len ps.1) ps.1
  escape ← cut (escape_len rex.1) rex.1
  opcode ← cut 1 escape.1
  Some (record { prefixes = ps.0; rex = rex.0; escape = escape.0; opcode = opcode.0 }, opcode.1)

-- the row of what stands before the operands and the byte after it
unfoldable pub row_at : Head → List ℕ → Option Row
row_at h rest = find_row (mark_in h.prefixes) (rex_b (byte h.rex)) (nat_eq (length h.escape) 1) (byte h.opcode) (middle_field (byte rest))

-- a ModRM byte that is fixed
abbrev pub cut_fixed : Option ℕ → Option (List ℕ × List ℕ) → Option (List ℕ × List ℕ)
cut_fixed f None = None
cut_fixed f (Some x) = if is_asked f (byte x.0) then Some x else None

unfoldable pub read_operands : Head → Row → Width → List ℕ → Option (Parts × List ℕ)
read_operands h row w rest = do
  modrm ← cut_fixed row.fixed (cut (modrm_len row.modrm) rest)
  sib ← cut (sib_len row.modrm (byte modrm.0)) modrm.1
  disp ← cut (disp_size row.modrm (byte modrm.0) (byte sib.0)) sib.1
  imm ← cut (tail_len row.tail w) disp.1
  Some (with_operands h modrm.0 sib.0 disp.0 imm.0, imm.1)

abbrev pub with_rest : {A B : Type 0} → B → Option A → Option (A × B)
with_rest r None = None
with_rest r (Some x) = Some (x, r)

unfoldable pub width_at : Head → Row → Option Width
width_at h row = if (allows row.prefixes h.prefixes && allows_rex row.rex h.rex) then width_of row.size (is_narrowed h.prefixes) (rex_w (byte h.rex)) else None

unfoldable pub read_instr : List ℕ → Option (Instr × List ℕ)
read_instr bytes = do
  h ← read_head bytes
  row ← row_at h.0 h.1
  w ← width_at h.0 row
  p ← read_operands h.0 row w h.1
  with_rest p.1 (meaning row w p.0)

abbrev pub counted : ℕ → Option (Instr × List ℕ) → Option (Instr × ℕ)
counted n None = None
counted n (Some x) = Some (x.0, n - length x.1)

-- at most 15 bytes are looked at
unfoldable pub read : List ℕ → Option (Instr × ℕ)
read bytes = counted (length (take 15 bytes)) (read_instr (take 15 bytes))
