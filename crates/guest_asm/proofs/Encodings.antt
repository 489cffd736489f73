-- What is put together with ModRM, or without, spells what its row says.
use Rattle.std.proofs.Common.{◌≡◌, ℕ, ◌+◌, ◌*◌, ◌/◌, ◌%◌, ◌<◌, ◌≤◌, Bool, true, false, List, [], ◌++◌, inl, inr, length, Some, None, refl, arith, ◌∙◌, length-append}
use Rattle.std.specs.Prelude.{nat_eq}
use Rattle.x86_forms.specs.declared.operands.Width.{Width}
use Rattle.std.proofs.lemmas.Bool.{cases_Bool}
use Rattle.x86_forms.specs.declared.operands.Base.{Base}
use Rattle.x86_forms.specs.declared.operands.Base.TheVariants as base
use Rattle.x86_forms.specs.declared.operands.Place.TheVariants as place
use Rattle.x86_forms.specs.declared.operands.Operand.{Operand}
use Rattle.x86_forms.specs.declared.operands.Operand.TheVariants as operand
use Rattle.x86_forms.specs.declared.operands.Place.{Place}
use Rattle.x86_forms.specs.declared.instructions.Instr.{Instr}
use Rattle.x86_forms.specs.declared.rows.Row.{Row}
use Rattle.x86_forms.specs.Operands.{byte, signed, displacement, rex_w, rex_r, rex_b, middle_field, place_of, register, operand_of, width_of, tail_len, at_width}
use Rattle.x86_forms.specs.Spelling.{bytes_of, Spells, mark_of, operands_of, instr_of, rm_width, meaning, allows, allows_rex, is_narrowed, are_bytes}
use Rattle.x86_forms.specs.Reading.{find_row}
use Rattle.guest_asm.specs.declared.assembler.pieces.Number.{Number}
use Rattle.guest_asm.specs.declared.assembler.pieces.Opcode.{Opcode}
use Rattle.guest_asm.specs.Places.{optional, modrm_of, b_of, x_of, sib_part, reg_disp_mode, disp_bits, mode_len, base_disp_len, disp_len_of, bits_of, below, place_can}
use Rattle.guest_asm.specs.Pieces.{is_16, w_of, number_bytes, with_place, with_code, narrow_bytes, parts_of, marks_can}
use Rattle.guest_asm.proofs.PlacesMade.{DispFits, place_made}
use Rattle.guest_asm.proofs.Found.{Finds, found_at}
use Rattle.guest_asm.proofs.Spelled.{RowFacts, spell, low_length, low_are_bytes, bytes_both, one_byte, some_byte, optional_short, narrow_short, narrow_are_bytes, escape_short, escape_are_bytes, rex_made, zero_bit, below_bit, place_bits}

-- what a row asks of prefixes, width and immediate
pub record Fit (row : Row) (no_rex : Bool) (marks w : Width) (o : Opcode) (imm : Number) : Type 0 where
  pub allowed : allows row.prefixes (narrow_bytes (is_16 marks) ++ optional o.prefix) ≡ true
  pub narrowed : is_narrowed (narrow_bytes (is_16 marks) ++ optional o.prefix) ≡ is_16 marks
  pub width : width_of row.size (is_16 marks) (w_of marks) ≡ Some w
  pub asked : (x : List ℕ) → nat_eq (length x) 0 ≡ no_rex → rex_w (byte x) ≡ w_of marks → allows_rex row.rex x ≡ true
  pub fixed : row.fixed ≡ None
  pub tail : imm.len ≡ tail_len row.tail w
  pub prefix_byte : byte (optional o.prefix) < 256
  pub op_byte : o.byte < 256

abbrev pub imm_of : Width → Number → Operand
imm_of w n = operand.Imm (at_width w (signed (number_bytes n)))

-- what a row says of a place and of the number in the reg field
abbrev pub MeansPlace : Row → Bool → Width → Opcode → ℕ → Place → Number → Instr → Type 0
MeansPlace row no_rex w o reg p imm i = (code : Operand) → instr_of row.kind w (operands_of row.shape (operand_of (rm_width row.kind w) no_rex p) (register w no_rex reg) code (imm_of w imm)) (imm_of w imm) o.byte (number_bytes imm) ≡ Some i

-- ---- the whole string

all_bytes : (a b c d e f g h : List ℕ) → are_bytes a ≡ true → are_bytes b ≡ true → are_bytes c ≡ true → are_bytes d ≡ true → are_bytes e ≡ true → are_bytes f ≡ true → are_bytes g ≡ true → are_bytes h ≡ true → are_bytes (a ++ (b ++ (c ++ (d ++ (e ++ (f ++ (g ++ h))))))) ≡ true
all_bytes a b c d e f g h pa pb pc pd pe pf pg ph =
    let fg = bytes_both g h pg ph in
    let ff = bytes_both f (g ++ h) pf fg in
    let fe = bytes_both e (f ++ (g ++ h)) pe ff in
    let fd = bytes_both d (e ++ (f ++ (g ++ h))) pd fe in
    let fc = bytes_both c (d ++ (e ++ (f ++ (g ++ h)))) pc fd in
    let fb = bytes_both b (c ++ (d ++ (e ++ (f ++ (g ++ h))))) pb fc in
    bytes_both a (b ++ (c ++ (d ++ (e ++ (f ++ (g ++ h)))))) pa fb

all_length : (a b c d e f g h : List ℕ) → length (a ++ (b ++ (c ++ (d ++ (e ++ (f ++ (g ++ h))))))) ≡ length a + (length b + (length c + (length d + (length e + (length f + (length g + length h))))))
all_length a b c d e f g h = simp length-append

mode_len_small : (n : ℕ) → mode_len n ≤ 4
mode_len_small n = elim (cases_Bool (nat_eq n 0)) [ inl t ↦ rw t (omega arith) | inr f ↦ elim (cases_Bool (nat_eq n 1)) [ inl t ↦ rw (f, t) (omega arith) | inr g ↦ rw (f, g) (omega arith) ] ]

base_disp_small : (b : Base) (bits : ℕ) → base_disp_len b bits ≤ 4
base_disp_small base.None bits = omega arith
base_disp_small base.Rip bits = omega arith
base_disp_small (base.Reg r) bits = mode_len_small (reg_disp_mode (r % 8) bits)

disp_small : (p : Place) → disp_len_of p ≤ 4
disp_small (place.Reg n) = omega arith
disp_small (place.Mem m) = base_disp_small m.base (disp_bits m)

pub spells_place : (row : Row) (no_rex : Bool) (marks w : Width) (o : Opcode) (reg : ℕ) (p : Place) (imm : Number) (i : Instr) → row.modrm ≡ true → Finds row o.escape o.byte (reg % 8) → Fit row no_rex marks w o imm → imm.len ≤ 4 → marks_can no_rex marks ≡ true → below no_rex reg ≡ true → place_can no_rex p ≡ true → DispFits p → MeansPlace row no_rex w o reg p imm i → Spells i (bytes_of (parts_of (with_place no_rex marks o reg p imm)))
unfolding meaning
spells_place row no_rex marks w o reg p imm i has found fit small mc rc pc df means =
    let bits = place_bits no_rex p pc in
    let rx = rex_made no_rex marks reg (x_of p) (b_of p) mc (below_bit no_rex reg rc) bits.0 bits.1 in
    let parts = parts_of (with_place no_rex marks o reg p imm) in
    let x = byte parts.rex in
    let pm = place_made no_rex x reg p df pc rx.bit_b rx.bit_x in
    let reg_is : middle_field (modrm_of reg p) + 8 * rex_r x ≡ reg = omega (arith, pm.middle, rx.bit_r) in
    let row_is : find_row (mark_of row.prefixes) (rex_b x) o.escape o.byte (middle_field (modrm_of reg p)) ≡ Some row = rw pm.middle (found_at row o.escape o.byte (reg % 8) (rex_b x) found (omega arith)) in
    let facts : RowFacts row w parts i = record {
      allowed = fit.allowed;
      asked = fit.asked parts.rex rx.none rx.bit_w;
      width = rw (fit.narrowed, rx.bit_w) fit.width;
      modrm = rw has refl;
      fixed = rw fit.fixed refl;
      sib = rw has pm.sib;
      disp = rw has (low_length (disp_len_of p) (bits_of p) ∙ pm.disp);
      imm = low_length imm.len imm.bits ∙ fit.tail;
      means = rw (rx.none, pm.is, reg_is) (means (register w no_rex (o.byte % 8 + 8 * rex_b x)));
    } in
    let prefixes : are_bytes parts.prefixes ≡ true = bytes_both (narrow_bytes (is_16 marks)) (optional o.prefix) (narrow_are_bytes (is_16 marks)) (some_byte o.prefix fit.prefix_byte) in
    let len = all_length parts.prefixes parts.rex parts.escape parts.opcode parts.modrm parts.sib parts.disp parts.imm in
    let front : length parts.prefixes ≤ 2 = omega (arith, length-append (narrow_bytes (is_16 marks)) (optional o.prefix), narrow_short (is_16 marks), optional_short o.prefix) in
    let behind : length parts.imm ≤ 4 = omega (arith, low_length imm.len imm.bits, small) in
    let disp : length parts.disp ≤ 4 = omega (arith, low_length (disp_len_of p) (bits_of p), disp_small p) in
    spell o.escape row w parts i row_is facts (record {
      rex = rx.part;
      escape = refl;
      opcode = refl;
      bytes = all_bytes parts.prefixes parts.rex parts.escape parts.opcode parts.modrm parts.sib parts.disp parts.imm prefixes rx.bytes (escape_are_bytes o.escape) (one_byte o.byte fit.op_byte) (one_byte (modrm_of reg p) pm.small) (some_byte (sib_part p) pm.sib_small) (low_are_bytes (disp_len_of p) (bits_of p)) (low_are_bytes imm.len imm.bits);
      short = omega (arith, len, front, rx.short, escape_short o.escape, optional_short (sib_part p), disp, behind);
    })

-- ---- without ModRM

abbrev pub MeansCode : Row → Bool → Width → Opcode → ℕ → Number → Instr → Type 0
MeansCode row no_rex w o code imm i = (rm reg : Operand) → instr_of row.kind w (operands_of row.shape rm reg (register w no_rex (o.byte % 8 + 8 * (code / 8))) (imm_of w imm)) (imm_of w imm) o.byte (number_bytes imm) ≡ Some i

pub spells_code : (row : Row) (no_rex : Bool) (marks w : Width) (o : Opcode) (code : ℕ) (imm : Number) (i : Instr) → row.modrm ≡ false → Finds row o.escape o.byte 0 → Fit row no_rex marks w o imm → imm.len ≤ 8 → marks_can no_rex marks ≡ true → below no_rex code ≡ true → MeansCode row no_rex w o code imm i → Spells i (bytes_of (parts_of (with_code no_rex marks o code imm)))
unfolding meaning
spells_code row no_rex marks w o code imm i has found fit small mc cc means =
    let rx = rex_made no_rex marks 0 0 (code / 8) mc (zero_bit no_rex) (zero_bit no_rex) (below_bit no_rex code cc) in
    let parts = parts_of (with_code no_rex marks o code imm) in
    let x = byte parts.rex in
    let row_is : find_row (mark_of row.prefixes) (rex_b x) o.escape o.byte (middle_field (byte [])) ≡ Some row = found_at row o.escape o.byte 0 (rex_b x) found (omega arith) in
    let facts : RowFacts row w parts i = record {
      allowed = fit.allowed;
      asked = fit.asked parts.rex rx.none rx.bit_w;
      width = rw (fit.narrowed, rx.bit_w) fit.width;
      modrm = rw has refl;
      fixed = rw fit.fixed refl;
      sib = rw has refl;
      disp = rw has refl;
      imm = low_length imm.len imm.bits ∙ fit.tail;
      means = rw (rx.none, rx.bit_b) (means (operand_of (rm_width row.kind w) no_rex (place_of x 0 0 (displacement []))) (register w no_rex (middle_field 0 + 8 * rex_r x)));
    } in
    let prefixes : are_bytes parts.prefixes ≡ true = bytes_both (narrow_bytes (is_16 marks)) (optional o.prefix) (narrow_are_bytes (is_16 marks)) (some_byte o.prefix fit.prefix_byte) in
    let len = all_length parts.prefixes parts.rex parts.escape parts.opcode parts.modrm parts.sib parts.disp parts.imm in
    let front : length parts.prefixes ≤ 2 = omega (arith, length-append (narrow_bytes (is_16 marks)) (optional o.prefix), narrow_short (is_16 marks), optional_short o.prefix) in
    let behind : length parts.imm ≤ 8 = omega (arith, low_length imm.len imm.bits, small) in
    spell o.escape row w parts i row_is facts (record {
      rex = rx.part;
      escape = refl;
      opcode = refl;
      bytes = all_bytes parts.prefixes parts.rex parts.escape parts.opcode parts.modrm parts.sib parts.disp parts.imm prefixes rx.bytes (escape_are_bytes o.escape) (one_byte o.byte fit.op_byte) refl refl refl (low_are_bytes imm.len imm.bits);
      short = omega (arith, len, front, rx.short, escape_short o.escape, behind);
    })
