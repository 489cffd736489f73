-- What is put together for an operand, by the prefixes and widths of its row.
use Rattle.std.proofs.Common.{◌≡◌, ℕ, ◌+◌, ◌*◌, ◌%◌, ◌<◌, ◌≤◌, Bool, true, false, List, [], ◌∷◌, ◌++◌, length, Some, None, refl, subst, arith}
use Rattle.std.proofs.lemmas.Bool.{both_ways, cond_both}
use Rattle.std.proofs.Math.Seq.{take-length}
use Rattle.x86_forms.specs.declared.operands.Width.{Width}
use Rattle.x86_forms.specs.declared.operands.Width.TheVariants.{W8, W16, W32, W64}
use Rattle.x86_forms.specs.declared.operands.Operand.{Operand}
use Rattle.x86_forms.specs.declared.instructions.AluOp.{AluOp}
use Rattle.x86_forms.specs.declared.instructions.AluOp.TheVariants as alu
use Rattle.x86_forms.specs.declared.instructions.OneOp.{OneOp}
use Rattle.x86_forms.specs.declared.instructions.OneOp.TheVariants as one
use Rattle.x86_forms.specs.declared.instructions.Instr.{Instr}
use Rattle.x86_forms.specs.declared.rows.Prefixes.TheVariants.{Sized, Locked}
use Rattle.x86_forms.specs.declared.rows.Rex.{Rex}
use Rattle.x86_forms.specs.declared.rows.Rex.TheVariants as rex
use Rattle.x86_forms.specs.declared.rows.Size.TheVariants.{V, D, Q}
use Rattle.x86_forms.specs.declared.rows.Row.{Row}
use Rattle.x86_forms.specs.Operands.{register, width_of, tail_len}
use Rattle.x86_forms.specs.Spelling.{bytes_of, Spells, operands_of, instr_of, rm_width, allows, allows_rex, is_narrowed, are_bytes}
use Rattle.x86_forms.specs.Reading.{read}
use Rattle.x86_forms.proofs.Sound.{sound}
use Rattle.guest_asm.specs.declared.assembler.pieces.Number.{Number}
use Rattle.guest_asm.specs.declared.assembler.pieces.Opcode.{Opcode}
use Rattle.guest_asm.specs.Places.{below}
use Rattle.guest_asm.specs.Pieces.{is_16, w_of, number_bytes, with_place, narrow_bytes, parts_of, marks_can}
use Rattle.guest_asm.specs.Encodable.{rm_can, is_wide, is_over8, is_test, OperandTyped}
use Rattle.guest_asm.specs.Choices.{to_place, wide_bit, alu_number, store_byte, load_byte, acc_byte, group_byte, one_byte}
use Rattle.guest_asm.proofs.Found.{Finds, size_for}
use Rattle.guest_asm.proofs.Encodings.{Fit, imm_of, spells_place}
use Rattle.guest_asm.proofs.OperandLemmas.{rm_is, disp_fits}

-- ---- an operand in ModRM

pub place_form : (row : Row) (no_rex : Bool) (marks w : Width) (o : Opcode) (reg : ℕ) (rm : Operand) (imm : Number) (i : Instr) → row.modrm ≡ true → Finds row o.escape o.byte (reg % 8) → Fit row no_rex marks w o imm → imm.len ≤ 4 → marks_can no_rex marks ≡ true → below no_rex reg ≡ true → rm_can no_rex (rm_width row.kind w) rm ≡ true → OperandTyped rm → ((code : Operand) → instr_of row.kind w (operands_of row.shape rm (register w no_rex reg) code (imm_of w imm)) (imm_of w imm) o.byte (number_bytes imm) ≡ Some i) → Spells i (bytes_of (parts_of (with_place no_rex marks o reg (to_place rm) imm)))
place_form row no_rex marks w o reg rm imm i has found fit small mc rc oc typed means =
    let r = rm_is no_rex (rm_width row.kind w) rm oc in
    spells_place row no_rex marks w o reg (to_place rm) imm i has found fit small mc rc r.1 (disp_fits rm typed) (λ code. rw r.0 (means code))

-- ---- prefixes

sized_allowed : (w : Width) → allows Sized (narrow_bytes (is_16 w) ++ []) ≡ true
unfolding allows
sized_allowed W8 = refl
sized_allowed W16 = refl
sized_allowed W32 = refl
sized_allowed W64 = refl

sized_narrowed : (w : Width) → is_narrowed (narrow_bytes (is_16 w) ++ []) ≡ is_16 w
unfolding is_narrowed
sized_narrowed W8 = refl
sized_narrowed W16 = refl
sized_narrowed W32 = refl
sized_narrowed W64 = refl

locked_allowed : (w : Width) → allows Locked (narrow_bytes (is_16 w) ++ 0xF0 ∷ []) ≡ true
unfolding allows
locked_allowed W8 = refl
locked_allowed W16 = refl
locked_allowed W32 = refl
locked_allowed W64 = refl

locked_narrowed : (w : Width) → is_narrowed (narrow_bytes (is_16 w) ++ 0xF0 ∷ []) ≡ is_16 w
unfolding is_narrowed
locked_narrowed W8 = refl
locked_narrowed W16 = refl
locked_narrowed W32 = refl
locked_narrowed W64 = refl

any_rex : (r : Rex) (x : List ℕ) → r ≡ rex.Any → allows_rex r x ≡ true
unfolding allows_rex
any_rex r x e = rw e refl

pub sized_fit : (row : Row) (no_rex : Bool) (w : Width) (e : Bool) (op : ℕ) (imm : Number) → row.prefixes ≡ Sized → row.rex ≡ rex.Any → row.fixed ≡ None → width_of row.size (is_16 w) (w_of w) ≡ Some w → imm.len ≡ tail_len row.tail w → op < 256 → Fit row no_rex w w (record { prefix = None; escape = e; byte = op }) imm
sized_fit row no_rex w e op imm p x f wd t h =
    record {
      allowed = rw p (sized_allowed w);
      narrowed = sized_narrowed w;
      width = wd;
      asked = λ b _ _. any_rex row.rex b x;
      fixed = f;
      tail = t;
      prefix_byte = omega arith;
      op_byte = h;
    }

pub locked_fit : (row : Row) (no_rex : Bool) (w : Width) (e : Bool) (op : ℕ) (imm : Number) → row.prefixes ≡ Locked → row.rex ≡ rex.Any → row.fixed ≡ None → width_of row.size (is_16 w) (w_of w) ≡ Some w → imm.len ≡ tail_len row.tail w → op < 256 → Fit row no_rex w w (record { prefix = Some 0xF0; escape = e; byte = op }) imm
locked_fit row no_rex w e op imm p x f wd t h =
    record {
      allowed = rw p (locked_allowed w);
      narrowed = locked_narrowed w;
      width = wd;
      asked = λ b _ _. any_rex row.rex b x;
      fixed = f;
      tail = t;
      prefix_byte = omega arith;
      op_byte = h;
    }

-- a row of 64 bits that takes no 66
pub bare_fit : (row : Row) (no_rex : Bool) (e : Bool) (op : ℕ) (imm : Number) → allows row.prefixes [] ≡ true → row.rex ≡ rex.Any → row.fixed ≡ None → row.size ≡ Q → imm.len ≡ tail_len row.tail W64 → op < 256 → Fit row no_rex W32 W64 (record { prefix = None; escape = e; byte = op }) imm
unfolding is_narrowed width_of
bare_fit row no_rex e op imm p x f z t h =
    record {
      allowed = p;
      narrowed = refl;
      width = rw z refl;
      asked = λ b _ _. any_rex row.rex b x;
      fixed = f;
      tail = t;
      prefix_byte = omega arith;
      op_byte = h;
    }

-- ---- widths

pub size_is : (w : Width) → width_of (size_for w) (is_16 w) (w_of w) ≡ Some w
unfolding width_of
size_is W8 = refl
size_is W16 = refl
size_is W32 = refl
size_is W64 = refl

pub v_is : (w : Width) → is_over8 w ≡ true → width_of V (is_16 w) (w_of w) ≡ Some w
unfolding width_of
v_is W8 h = absurd (both_ways false refl h)
v_is W16 h = refl
v_is W32 h = refl
v_is W64 h = refl

pub d_is : (w : Width) → is_wide w ≡ true → width_of D (is_16 w) (w_of w) ≡ Some w
unfolding width_of
d_is W8 h = absurd (both_ways false refl h)
d_is W16 h = absurd (both_ways false refl h)
d_is W32 h = refl
d_is W64 h = refl

pub wide_over8 : (w : Width) → is_wide w ≡ true → is_over8 w ≡ true
wide_over8 W8 h = h
wide_over8 W16 h = refl
wide_over8 W32 h = refl
wide_over8 W64 h = refl

-- ---- opcodes are bytes

pub wide_small : (w : Width) → wide_bit w ≤ 1
wide_small W8 = omega arith
wide_small W16 = omega arith
wide_small W32 = omega arith
wide_small W64 = omega arith

pub number_small : (op : AluOp) → alu_number op < 8
number_small alu.Add = omega arith
number_small alu.Or = omega arith
number_small alu.Adc = omega arith
number_small alu.Sbb = omega arith
number_small alu.And = omega arith
number_small alu.Sub = omega arith
number_small alu.Xor = omega arith
number_small alu.Cmp = omega arith
number_small alu.Test = omega arith

pub store_small : (op : AluOp) (w : Width) → store_byte op w < 256
store_small op w = let l = wide_small w in let k = number_small op in cond_both (is_test op) (0x84 + wide_bit w) (8 * alu_number op + wide_bit w) (λ n. n < 256) (λ _. omega (arith, l)) (λ _. omega (arith, l, k))

pub load_small : (op : AluOp) (w : Width) → load_byte op w < 256
load_small op w = omega (arith, wide_small w, number_small op)

pub acc_small : (op : AluOp) (w : Width) → acc_byte op w < 256
acc_small op w = let l = wide_small w in let k = number_small op in cond_both (is_test op) (0xA8 + wide_bit w) (8 * alu_number op + 4 + wide_bit w) (λ n. n < 256) (λ _. omega (arith, l)) (λ _. omega (arith, l, k))

pub group_small : (op : AluOp) (w : Width) → group_byte op w < 256
group_small op w = let l = wide_small w in cond_both (is_test op) (0xF6 + wide_bit w) (0x80 + wide_bit w) (λ n. n < 256) (λ _. omega (arith, l)) (λ _. omega (arith, l))

pub one_small : (op : OneOp) (w : Width) → one_byte op + wide_bit w < 256
one_small one.Inc w = omega (arith, wide_small w)
one_small one.Dec w = omega (arith, wide_small w)
one_small one.Not w = omega (arith, wide_small w)
one_small one.Neg w = omega (arith, wide_small w)

-- ---- closed strings

pub closed : (i : Instr) (s : List ℕ) → are_bytes s ≡ true → read s ≡ Some (i, length s) → Spells i s
closed i s b e = subst (λ t. Spells i t) (take-length s) (sound s i (length s) b e)
