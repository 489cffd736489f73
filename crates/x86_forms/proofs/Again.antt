-- What spells an instruction is read as that instruction, whatever follows.
use Rattle.std.proofs.Common.{◌≡◌, ℕ, ◌+◌, ◌-◌, ◌≤◌, Bool, true, false, List, [], ◌∷◌, ◌++◌, length, take, Some, refl, sym, ap, arith, ◌∙◌, append_assoc, length-append}
use Rattle.std.specs.Prelude.{nat_eq, slice_get}
use Rattle.std.proofs.Math.Seq.{take-append-add}
use Rattle.x86_forms.specs.declared.operands.Width.{Width}
use Rattle.x86_forms.specs.declared.instructions.Instr.{Instr}
use Rattle.x86_forms.specs.Operands.{byte, rex_b, middle_field, is_rex}
use Rattle.x86_forms.specs.Table.{Line, table}
use Rattle.x86_forms.specs.Spelling.{Parts, bytes_of, HasForm, Spells, escape_bytes, modrm_len, mark_of}
use Rattle.x86_forms.specs.Reading.{Head, is_prefix, prefix_count, rex_len, escape_len, read_head, row_at, width_at, read_operands, read_instr, read, mark_in}
use Rattle.x86_forms.proofs.Cuts.{cut_again, fixed_again, byte_front}
use Rattle.x86_forms.proofs.TableLemmas.{covers_parts, covers_from, row_again, any_reg, IsOpcode, opens}
use Rattle.x86_forms.proofs.PrefixLemmas.{are_prefixes, mark_is, counted_again, rex_again, rex_opens}

abbrev pub head_of : Parts → Head
head_of p = record { prefixes = p.prefixes; rex = p.rex; escape = p.escape; opcode = p.opcode }

-- the bytes after the opcode, and after all parts
abbrev pub operands_with : Parts → List ℕ → List ℕ
operands_with p rest = p.modrm ++ (p.sib ++ (p.disp ++ (p.imm ++ rest)))

pub joined : (p : Parts) (rest : List ℕ) → bytes_of p ++ rest ≡ p.prefixes ++ (p.rex ++ (p.escape ++ (p.opcode ++ operands_with p rest)))
joined p rest = simp append_assoc

-- ---- 0F and the opcode open neither with a prefix nor with a REX byte

record IsOpen (bytes : List ℕ) : Type 0 where
  prefix : prefix_count bytes ≡ 0
  rex : rex_len bytes ≡ 0

opened : (e : Bool) (es op t : List ℕ) → es ≡ escape_bytes e → length op ≡ 1 → (e ≡ false → IsOpcode (byte op)) → IsOpen (es ++ (op ++ t)) × (length es ≡ escape_len (es ++ (op ++ t)))
unfolding prefix_count rex_len escape_len
opened e es [] t h len o = absurd (omega (arith, len))
opened true es op t h len o = rw h (record { prefix = refl; rex = refl }, refl)
opened false es (b ∷ bs) t h len o =
    let i = o refl in
    let p : is_prefix b ≡ false = i.prefix in
    let r : is_rex b ≡ false = i.rex in
    let x : nat_eq b 0x0F ≡ false = i.escape in
    rw h (record { prefix = rw p refl; rex = rw r refl }, rw x refl)

pub head_again : (k : ℕ) (l : Line) (w : Width) (p : Parts) (t : List ℕ) → slice_get table k ≡ Some l → HasForm l w p → read_head (p.prefixes ++ (p.rex ++ (p.escape ++ (p.opcode ++ t)))) ≡ Some (head_of p, t)
unfolding read_head
head_again k l w p t at f =
    let c = covers_parts _ _ _ _ _ l f.covered in
    let o = opened l.escape p.escape p.opcode t f.escape f.opcode (λ plain. opens k l (byte p.opcode) at plain c.from c.below) in
    let after = p.escape ++ (p.opcode ++ t) in
    let ps : length p.prefixes ≡ prefix_count (p.prefixes ++ (p.rex ++ after)) = counted_again p.prefixes (p.rex ++ after) (are_prefixes l.row.prefixes p.prefixes f.prefixes) (rex_opens p.rex after f.rex o.0.prefix) in
    let rex : length p.rex ≡ rex_len (p.rex ++ after) = rex_again p.rex after f.rex o.0.rex in
    rw (cut_again p.prefixes (p.rex ++ after) _ ps, cut_again p.rex after _ rex, cut_again p.escape (p.opcode ++ t) _ o.1, cut_again p.opcode t 1 f.opcode) refl

-- ---- the row

is_escaped : (e : Bool) (es : List ℕ) → es ≡ escape_bytes e → nat_eq (length es) 1 ≡ e
is_escaped true es h = rw h refl
is_escaped false es h = rw h refl

first_byte : (m : Bool) (modrm t : List ℕ) → length modrm ≡ modrm_len m → m ≡ true → byte (modrm ++ t) ≡ byte modrm
first_byte true modrm t len h = byte_front modrm t len
first_byte false modrm t len h = absurd cc

pub row_at_again : (k : ℕ) (l : Line) (w : Width) (p : Parts) (rest : List ℕ) → slice_get table k ≡ Some l → HasForm l w p → row_at (head_of p) (operands_with p rest) ≡ Some l.row
unfolding row_at
row_at_again k l w p rest at f =
    let t = operands_with p rest in
    let m : mark_in p.prefixes ≡ mark_of l.row.prefixes = mark_is l.row.prefixes p.prefixes f.prefixes in
    let e : nat_eq (length p.escape) 1 ≡ l.escape = is_escaped l.escape p.escape f.escape in
    let reg : l.row.modrm ≡ true → middle_field (byte p.modrm) ≡ middle_field (byte t) = λ h. ap middle_field (sym (first_byte l.row.modrm p.modrm _ f.modrm h)) in
    let c = covers_from (mark_of l.row.prefixes) (mark_of l.row.prefixes) (rex_b (byte p.rex)) l.escape (byte p.opcode) (middle_field (byte p.modrm)) (middle_field (byte t)) l refl (any_reg k l _ _ at reg) f.covered in
    rw (m, e) (row_again (mark_of l.row.prefixes) (rex_b (byte p.rex)) l.escape (byte p.opcode) (middle_field (byte t)) k l at c)

pub width_again : (l : Line) (w : Width) (p : Parts) → HasForm l w p → width_at (head_of p) l.row ≡ Some w
unfolding width_at
width_again l w p f = rw (f.prefixes, f.asked) f.width

pub operands_again : (l : Line) (w : Width) (p : Parts) (rest : List ℕ) → HasForm l w p → read_operands (head_of p) l.row w (operands_with p rest) ≡ Some (p, rest)
unfolding read_operands
operands_again l w p rest f =
    rw (cut_again p.modrm (p.sib ++ (p.disp ++ (p.imm ++ rest))) _ f.modrm, fixed_again l.row.fixed (p.modrm, p.sib ++ (p.disp ++ (p.imm ++ rest))) f.fixed, cut_again p.sib (p.disp ++ (p.imm ++ rest)) _ f.sib, cut_again p.disp (p.imm ++ rest) _ f.disp, cut_again p.imm rest _ f.imm) refl

pub instr_again : (i : Instr) (s rest : List ℕ) → Spells i s → read_instr (s ++ rest) ≡ Some (i, rest)
unfolding read_instr
instr_again i s rest h =
    let p = h.parts in
    let l = h.line in
    let text : s ++ rest ≡ p.prefixes ++ (p.rex ++ (p.escape ++ (p.opcode ++ operands_with p rest))) = ap (λ (x : List ℕ). x ++ rest) h.string ∙ joined p rest in
    rw (text, head_again h.number l h.width p (operands_with p rest) h.listed h.form, row_at_again h.number l h.width p rest h.listed h.form, width_again l h.width p h.form, operands_again l h.width p rest h.form, h.means) refl

-- A spelling is read again, and its length is its own.
pub again : (i : Instr) (s rest : List ℕ) → Spells i s → read (s ++ rest) ≡ Some (i, length s)
unfolding read
again i s rest h =
    let short : length s ≤ 15 = h.short in
    let n : length s + (15 - length s) ≡ 15 = omega (arith, short) in
    let t = take (15 - length s) rest in
    let front : take 15 (s ++ rest) ≡ s ++ t = ap (λ (k : ℕ). take k (s ++ rest)) (sym n) ∙ take-append-add s rest (15 - length s) in
    let len : length (s ++ t) - length t ≡ length s = omega (arith, length-append s t) in
    rw (front, instr_again i s t h) (ap (λ (k : ℕ). Some (i, k)) len)
