-- What is chosen for the other instructions is a spelling.
use Rattle.std.proofs.Common.{◌≡◌, ℕ, ◌+◌, ◌%◌, ◌^◌, ◌<◌, ℤ, Bool, true, false, cond, inl, inr, Option, Some, None, refl, sym, ap, subst, arith}
use Rattle.std.specs.Prelude.{nat_eq, slice_get}
use Rattle.std.specs.Int.{w32, cast_unsigned}
use Rattle.std.specs.Int.RustNames.{FitsSigned}
use Rattle.std.proofs.lemmas.Bool.{and_parts, both_ways, cases_Bool, eqb-true}
use Rattle.x86_forms.specs.declared.operands.Width.{Width}
use Rattle.x86_forms.specs.declared.operands.Width.TheVariants.{W8, W16, W32, W64}
use Rattle.x86_forms.specs.declared.operands.Mem.{Mem}
use Rattle.x86_forms.specs.declared.operands.Operand.{Operand}
use Rattle.x86_forms.specs.declared.operands.Operand.TheVariants as operand
use Rattle.x86_forms.specs.declared.operands.Place.TheVariants as place
use Rattle.x86_forms.specs.declared.conditions.Cond.{Cond}
use Rattle.x86_forms.specs.declared.conditions.Cond.TheVariants as condition
use Rattle.x86_forms.specs.declared.instructions.OneOp.{OneOp}
use Rattle.x86_forms.specs.declared.instructions.OneOp.TheVariants as one
use Rattle.x86_forms.specs.declared.instructions.ShiftOp.{ShiftOp}
use Rattle.x86_forms.specs.declared.instructions.ShiftOp.TheVariants.{Shl, Shr, Sar, Rol, Ror}
use Rattle.x86_forms.specs.declared.instructions.Instr.TheVariants as instr
use Rattle.x86_forms.specs.declared.rows.Prefixes.TheVariants.{Sized, Bare, Locked, Track}
use Rattle.x86_forms.specs.declared.rows.Rex.TheVariants as rex
use Rattle.x86_forms.specs.declared.rows.Tail.TheVariants.{Nothing, Ib, Iz, Iw, Rel8, Rel32}
use Rattle.x86_forms.specs.declared.rows.Size.TheVariants.{B, D, Q}
use Rattle.x86_forms.specs.declared.rows.Shape.TheVariants.{RmReg, RegRm, Rm, Imm}
use Rattle.x86_forms.specs.declared.rows.Kind.TheVariants as kind
use Rattle.x86_forms.specs.Conditions.{conditions}
use Rattle.x86_forms.specs.Operands.{unsigned, signed, displacement, has_sib, is_baseless, disp_len, indexed, based, place_of, register, operand_of, width_of, tail_len, at_width}
use Rattle.x86_forms.specs.Table.{table, rm, no, asking}
use Rattle.x86_forms.specs.Spelling.{bytes_of, operands_of, instr_of, rm_width, meaning, covers, allows, allows_rex, is_narrowed}
use Rattle.x86_forms.specs.Reading.{cut, prefix_count, rex_len, escape_len, mark_in, find_line, find_row, read_head, row_at, read_operands, width_at, read_instr, read}
use Rattle.guest_asm.specs.Places.{low_bytes, below, mem_can, is_short}
use Rattle.guest_asm.specs.Pieces.{is_16, w_of, number, with_place, with_code, parts_of, marks_can}
use Rattle.guest_asm.specs.Encodable.{reg_can, high_can, register_can, rm_can, imm_can, imul_can, is_reg, shift_can, is_wide, can_lock_one, OperandTyped, MemTyped, CountTyped}
use Rattle.guest_asm.specs.Choices.{nothing, plain, escaped, behind, behind_escaped, number_of, to_place, wide_bit, is_short_imm, one_byte, one_number, imul_pieces, shift_number, shift_pieces, cond_code, jump_pieces, call_pieces, alone, ret_pieces, lock}
use Rattle.guest_asm.proofs.Found.{size_for, find_one, find_mul, find_div, find_imul, find_imul8, find_imul32, shift_size, find_shift_by, find_shift_once, find_shift_cl, find_widen, find_spread, find_set, find_cmov, find_jcc8, find_jcc32, find_jmp8, find_jmp32, find_jmp_to, find_call, find_call_to, find_ret, find_lock_one, find_xadd, find_cmpxchg}
use Rattle.guest_asm.proofs.PlaceLemmas.{short_disp, long_disp}
use Rattle.guest_asm.proofs.Encodings.{spells_code}
use Rattle.guest_asm.proofs.OperandLemmas.{register_is, digit_below, imm_is, short_imm}
use Rattle.guest_asm.proofs.Forms.{place_form, sized_fit, locked_fit, bare_fit, size_is, d_is, wide_over8, wide_small, one_small, closed}
use Rattle.guest_asm.proofs.Written.{Written}
use Rattle.guest_asm.proofs.WrittenMov.{over8_reg, no_marks}

-- ---- one operand

one_digit : (op : OneOp) → (one_number op < 8) × (one_number op % 8 ≡ one_number op)
one_digit one.Inc = (omega arith, refl)
one_digit one.Dec = (omega arith, refl)
one_digit one.Not = (omega arith, refl)
one_digit one.Neg = (omega arith, refl)

pub one_written : (no_rex : Bool) (op : OneOp) (w : Width) (dst : Operand) → OperandTyped dst → marks_can no_rex w ≡ true → rm_can no_rex w dst ≡ true → Written (instr.One op w dst) (with_place no_rex w (plain (one_byte op + wide_bit w)) (one_number op) (to_place dst) nothing)
unfolding instr_of operands_of rm_width tail_len
one_written no_rex op w dst dt mc dc =
    let g = one_digit op in
    let row = rm Sized (size_for w) Nothing Rm (kind.One op) in
    place_form row no_rex w w (plain (one_byte op + wide_bit w)) (one_number op) dst nothing (instr.One op w dst) refl (rw g.1 (find_one op w)) (sized_fit row no_rex w false (one_byte op + wide_bit w) nothing refl refl refl (size_is w) refl (one_small op w)) (omega arith) mc (digit_below no_rex (one_number op) g.0) dc dt (λ code. refl)

pub lock_one_written : (no_rex : Bool) (op : OneOp) (w : Width) (m : Mem) → MemTyped m → marks_can no_rex w ≡ true → can_lock_one op ≡ true → mem_can no_rex m ≡ true → Written (instr.LockOne op w m) (with_place no_rex w (behind lock (one_byte op + wide_bit w)) (one_number op) (place.Mem m) nothing)
unfolding instr_of operands_of rm_width tail_len
lock_one_written no_rex op w m mt mc lc dc =
    let g = one_digit op in
    let row = rm Locked (size_for w) Nothing Rm (kind.LockOne op) in
    place_form row no_rex w w (behind lock (one_byte op + wide_bit w)) (one_number op) (operand.Mem m) nothing (instr.LockOne op w m) refl (rw g.1 (find_lock_one op w lc)) (locked_fit row no_rex w false (one_byte op + wide_bit w) nothing refl refl refl (size_is w) refl (one_small op w)) (omega arith) mc (digit_below no_rex (one_number op) g.0) dc mt (λ code. refl)

pub mul_written : (no_rex signed_ : Bool) (w : Width) (src : Operand) → OperandTyped src → marks_can no_rex w ≡ true → is_wide w ≡ true → rm_can no_rex w src ≡ true → Written (instr.Mul signed_ w src) (with_place no_rex w (plain 0xF7) (cond signed_ 5 4) (to_place src) nothing)
unfolding instr_of operands_of rm_width tail_len
mul_written no_rex true w src st mc wc sc = place_form (rm Sized D Nothing Rm (kind.Mul true)) no_rex w w (plain 0xF7) 5 src nothing (instr.Mul true w src) refl (find_mul true) (sized_fit (rm Sized D Nothing Rm (kind.Mul true)) no_rex w false 0xF7 nothing refl refl refl (d_is w wc) refl (omega arith)) (omega arith) mc (digit_below no_rex 5 (omega arith)) sc st (λ code. refl)
mul_written no_rex false w src st mc wc sc = place_form (rm Sized D Nothing Rm (kind.Mul false)) no_rex w w (plain 0xF7) 4 src nothing (instr.Mul false w src) refl (find_mul false) (sized_fit (rm Sized D Nothing Rm (kind.Mul false)) no_rex w false 0xF7 nothing refl refl refl (d_is w wc) refl (omega arith)) (omega arith) mc (digit_below no_rex 4 (omega arith)) sc st (λ code. refl)

pub div_written : (no_rex signed_ : Bool) (w : Width) (src : Operand) → OperandTyped src → marks_can no_rex w ≡ true → is_wide w ≡ true → rm_can no_rex w src ≡ true → Written (instr.Div signed_ w src) (with_place no_rex w (plain 0xF7) (cond signed_ 7 6) (to_place src) nothing)
unfolding instr_of operands_of rm_width tail_len
div_written no_rex true w src st mc wc sc = place_form (rm Sized D Nothing Rm (kind.Div true)) no_rex w w (plain 0xF7) 7 src nothing (instr.Div true w src) refl (find_div true) (sized_fit (rm Sized D Nothing Rm (kind.Div true)) no_rex w false 0xF7 nothing refl refl refl (d_is w wc) refl (omega arith)) (omega arith) mc (digit_below no_rex 7 (omega arith)) sc st (λ code. refl)
div_written no_rex false w src st mc wc sc = place_form (rm Sized D Nothing Rm (kind.Div false)) no_rex w w (plain 0xF7) 6 src nothing (instr.Div false w src) refl (find_div false) (sized_fit (rm Sized D Nothing Rm (kind.Div false)) no_rex w false 0xF7 nothing refl refl refl (d_is w wc) refl (omega arith)) (omega arith) mc (digit_below no_rex 6 (omega arith)) sc st (λ code. refl)

-- ---- IMUL

imul_two : (no_rex : Bool) (w : Width) (dst : ℕ) (a b : Operand) → OperandTyped b → marks_can no_rex w ≡ true → is_wide w ≡ true → below no_rex dst ≡ true → is_reg dst a ≡ true → rm_can no_rex w b ≡ true → Written (instr.Imul w dst a b) (with_place no_rex w (escaped 0xAF) dst (to_place b) nothing)
unfolding instr_of operands_of rm_width tail_len
imul_two no_rex w dst (operand.Reg r) b bt mc wc dc ac bc =
    let d = over8_reg no_rex w dst (wide_over8 w wc) dc in
    let same : r ≡ dst = eqb-true r dst ac in
    subst (λ v. Written (instr.Imul w dst (operand.Reg v) b) (with_place no_rex w (escaped 0xAF) dst (to_place b) nothing)) (sym same) (place_form (rm Sized D Nothing RegRm kind.ImulTwo) no_rex w w (escaped 0xAF) dst b nothing (instr.Imul w dst (operand.Reg dst) b) refl (find_imul (dst % 8)) (sized_fit (rm Sized D Nothing RegRm kind.ImulTwo) no_rex w true 0xAF nothing refl refl refl (d_is w wc) refl (omega arith)) (omega arith) mc dc bc bt (λ code. rw d refl))
imul_two no_rex w dst (operand.High r) b bt mc wc dc ac bc = absurd (both_ways false refl ac)
imul_two no_rex w dst (operand.Mem m) b bt mc wc dc ac bc = absurd (both_ways false refl ac)
imul_two no_rex w dst (operand.Imm n) b bt mc wc dc ac bc = absurd (both_ways false refl ac)

imul_8 : (no_rex : Bool) (w : Width) (dst : ℕ) (a : Operand) (n : ℕ) → OperandTyped a → n < 2 ^ 64 → marks_can no_rex w ≡ true → is_wide w ≡ true → below no_rex dst ≡ true → rm_can no_rex w a ≡ true → imm_can w n ≡ true → is_short_imm w n ≡ true → Written (instr.Imul w dst a (operand.Imm n)) (with_place no_rex w (plain 0x6B) dst (to_place a) (number 1 n))
unfolding instr_of operands_of rm_width tail_len
imul_8 no_rex w dst a n ta nt mc wc dc ac ic sc =
    let d = over8_reg no_rex w dst (wide_over8 w wc) dc in
    let e = short_imm w n (wide_over8 w wc) ic sc nt in
    place_form (rm Sized D Ib RegRm kind.ImulThree) no_rex w w (plain 0x6B) dst a (number 1 n) (instr.Imul w dst a (operand.Imm n)) refl (find_imul8 (dst % 8)) (sized_fit (rm Sized D Ib RegRm kind.ImulThree) no_rex w false 0x6B (number 1 n) refl refl refl (d_is w wc) refl (omega arith)) (omega arith) mc dc ac ta (λ code. rw (d, e) refl)

imul_32 : (no_rex : Bool) (w : Width) (dst : ℕ) (a : Operand) (n : ℕ) → OperandTyped a → n < 2 ^ 64 → marks_can no_rex w ≡ true → is_wide w ≡ true → below no_rex dst ≡ true → rm_can no_rex w a ≡ true → imm_can w n ≡ true → Written (instr.Imul w dst a (operand.Imm n)) (with_place no_rex w (plain 0x69) dst (to_place a) (number 4 n))
unfolding instr_of operands_of rm_width tail_len
imul_32 no_rex w dst a n ta nt mc wc dc ac ic =
    let d = over8_reg no_rex w dst (wide_over8 w wc) dc in
    let e = four w wc ic in
    place_form (rm Sized D Iz RegRm kind.ImulThree) no_rex w w (plain 0x69) dst a (number 4 n) (instr.Imul w dst a (operand.Imm n)) refl (find_imul32 (dst % 8)) (sized_fit (rm Sized D Iz RegRm kind.ImulThree) no_rex w false 0x69 (number 4 n) refl refl refl (d_is w wc) (len w wc) (omega arith)) (omega arith) mc dc ac ta (λ code. rw (d, e) refl)
  where
    four : (v : Width) → is_wide v ≡ true → imm_can v n ≡ true → at_width v (signed (low_bytes 4 n)) ≡ n
    four W8 h c = absurd (both_ways false refl h)
    four W16 h c = absurd (both_ways false refl h)
    four W32 h c = imm_is W32 n c nt
    four W64 h c = imm_is W64 n c nt

    len : (v : Width) → is_wide v ≡ true → 4 ≡ tail_len Iz v
    len W8 h = refl
    len W16 h = absurd (both_ways false refl h)
    len W32 h = refl
    len W64 h = refl

pub imul_written : (no_rex : Bool) (w : Width) (dst : ℕ) (a b : Operand) → OperandTyped a → OperandTyped b → marks_can no_rex w ≡ true → is_wide w ≡ true → below no_rex dst ≡ true → imul_can no_rex w dst a b ≡ true → Written (instr.Imul w dst a b) (imul_pieces no_rex w dst a b)
imul_written no_rex w dst a (operand.Reg r) ta tb mc wc dc h = let p = and_parts (is_reg dst a) (reg_can no_rex w r) h in imul_two no_rex w dst a (operand.Reg r) tb mc wc dc p.0 p.1
imul_written no_rex w dst a (operand.High r) ta tb mc wc dc h = let p = and_parts (is_reg dst a) (high_can no_rex w r) h in imul_two no_rex w dst a (operand.High r) tb mc wc dc p.0 p.1
imul_written no_rex w dst a (operand.Mem m) ta tb mc wc dc h = let p = and_parts (is_reg dst a) (mem_can no_rex m) h in imul_two no_rex w dst a (operand.Mem m) tb mc wc dc p.0 p.1
imul_written no_rex w dst a (operand.Imm n) ta tb mc wc dc h =
    let p = and_parts (rm_can no_rex w a) (imm_can w n) h in
    elim (cases_Bool (is_short_imm w n)) [
      | inl t ↦ rw t (imul_8 no_rex w dst a n ta tb mc wc dc p.0 p.1 t)
      | inr f ↦ rw f (imul_32 no_rex w dst a n ta tb mc wc dc p.0 p.1)
    ]

-- ---- shifts

shift_digit : (op : ShiftOp) → (shift_number op < 8) × (shift_number op % 8 ≡ shift_number op)
shift_digit Shl = (omega arith, refl)
shift_digit Shr = (omega arith, refl)
shift_digit Sar = (omega arith, refl)
shift_digit Rol = (omega arith, refl)
shift_digit Ror = (omega arith, refl)

shift_width : (op : ShiftOp) (w : Width) → shift_can op w ≡ true → width_of (shift_size op w) (is_16 w) (w_of w) ≡ Some w
shift_width Shl w h = size_is w
shift_width Shr w h = size_is w
shift_width Sar w h = size_is w
shift_width Rol w h = d_is w h
shift_width Ror w h = d_is w h

shift_cl : (no_rex : Bool) (op : ShiftOp) (w : Width) (dst : Operand) → OperandTyped dst → marks_can no_rex w ≡ true → shift_can op w ≡ true → rm_can no_rex w dst ≡ true → Written (instr.Shift op w dst None) (with_place no_rex w (plain (0xD2 + wide_bit w)) (shift_number op) (to_place dst) nothing)
unfolding instr_of operands_of rm_width tail_len
shift_cl no_rex op w dst dt mc wc dc =
    let g = shift_digit op in
    let l = wide_small w in
    let row = rm Sized (shift_size op w) Nothing Rm (kind.ShiftCl op) in
    place_form row no_rex w w (plain (0xD2 + wide_bit w)) (shift_number op) dst nothing (instr.Shift op w dst None) refl (rw g.1 (find_shift_cl op w wc)) (sized_fit row no_rex w false (0xD2 + wide_bit w) nothing refl refl refl (shift_width op w wc) refl (omega (arith, l))) (omega arith) mc (digit_below no_rex (shift_number op) g.0) dc dt (λ code. refl)

shift_once : (no_rex : Bool) (op : ShiftOp) (w : Width) (dst : Operand) → OperandTyped dst → marks_can no_rex w ≡ true → shift_can op w ≡ true → rm_can no_rex w dst ≡ true → Written (instr.Shift op w dst (Some 1)) (with_place no_rex w (plain (0xD0 + wide_bit w)) (shift_number op) (to_place dst) nothing)
unfolding instr_of operands_of rm_width tail_len
shift_once no_rex op w dst dt mc wc dc =
    let g = shift_digit op in
    let l = wide_small w in
    let row = rm Sized (shift_size op w) Nothing Rm (kind.ShiftOne op) in
    place_form row no_rex w w (plain (0xD0 + wide_bit w)) (shift_number op) dst nothing (instr.Shift op w dst (Some 1)) refl (rw g.1 (find_shift_once op w wc)) (sized_fit row no_rex w false (0xD0 + wide_bit w) nothing refl refl refl (shift_width op w wc) refl (omega (arith, l))) (omega arith) mc (digit_below no_rex (shift_number op) g.0) dc dt (λ code. refl)

shift_by : (no_rex : Bool) (op : ShiftOp) (w : Width) (dst : Operand) (n : ℕ) → OperandTyped dst → n < 256 → marks_can no_rex w ≡ true → shift_can op w ≡ true → rm_can no_rex w dst ≡ true → Written (instr.Shift op w dst (Some n)) (with_place no_rex w (plain (0xC0 + wide_bit w)) (shift_number op) (to_place dst) (number 1 n))
unfolding instr_of operands_of rm_width tail_len
shift_by no_rex op w dst n dt nt mc wc dc =
    let g = shift_digit op in
    let l = wide_small w in
    let same : n % 256 ≡ n = omega (arith, nt) in
    let row = rm Sized (shift_size op w) Ib Rm (kind.ShiftBy op) in
    place_form row no_rex w w (plain (0xC0 + wide_bit w)) (shift_number op) dst (number 1 n) (instr.Shift op w dst (Some n)) refl (rw g.1 (find_shift_by op w wc)) (sized_fit row no_rex w false (0xC0 + wide_bit w) (number 1 n) refl refl refl (shift_width op w wc) refl (omega (arith, l))) (omega arith) mc (digit_below no_rex (shift_number op) g.0) dc dt (λ code. ap (λ k. Some (instr.Shift op w dst (Some k))) same)

pub shift_written : (no_rex : Bool) (op : ShiftOp) (w : Width) (dst : Operand) (count : Option ℕ) → OperandTyped dst → CountTyped count → marks_can no_rex w ≡ true → shift_can op w ≡ true → rm_can no_rex w dst ≡ true → Written (instr.Shift op w dst count) (shift_pieces no_rex op w dst count)
shift_written no_rex op w dst None dt ct mc wc dc = shift_cl no_rex op w dst dt mc wc dc
shift_written no_rex op w dst (Some n) dt ct mc wc dc =
    elim (cases_Bool (nat_eq n 1)) [
      | inl t ↦ (let one : n ≡ 1 = eqb-true n 1 t in
          rw t (subst (λ k. Written (instr.Shift op w dst (Some k)) (with_place no_rex w (plain (0xD0 + wide_bit w)) (shift_number op) (to_place dst) nothing)) (sym one) (shift_once no_rex op w dst dt mc wc dc)))
      | inr f ↦ rw f (shift_by no_rex op w dst n dt ct mc wc dc)
    ]

-- ---- CWDE and CDQE, CDQ and CQO

pub widen_written : (no_rex : Bool) (w : Width) → marks_can no_rex w ≡ true → is_wide w ≡ true → Written (instr.Widen w) (with_code no_rex w (plain 0x98) 0 nothing)
unfolding instr_of operands_of tail_len
widen_written no_rex w mc wc = spells_code (no Sized D Nothing Imm kind.Widen) no_rex w w (plain 0x98) 0 nothing (instr.Widen w) refl (find_widen 0) (sized_fit (no Sized D Nothing Imm kind.Widen) no_rex w false 0x98 nothing refl refl refl (d_is w wc) refl (omega arith)) (omega arith) mc (digit_below no_rex 0 (omega arith)) (λ x y. refl)

pub spread_written : (no_rex : Bool) (w : Width) → marks_can no_rex w ≡ true → is_wide w ≡ true → Written (instr.Spread w) (with_code no_rex w (plain 0x99) 0 nothing)
unfolding instr_of operands_of tail_len
spread_written no_rex w mc wc = spells_code (no Sized D Nothing Imm kind.Spread) no_rex w w (plain 0x99) 0 nothing (instr.Spread w) refl (find_spread 0) (sized_fit (no Sized D Nothing Imm kind.Spread) no_rex w false 0x99 nothing refl refl refl (d_is w wc) refl (omega arith)) (omega arith) mc (digit_below no_rex 0 (omega arith)) (λ x y. refl)

-- ---- conditions

cond_small : (c : Cond) → cond_code c < 16
cond_small condition.O = omega arith
cond_small condition.No = omega arith
cond_small condition.B = omega arith
cond_small condition.Ae = omega arith
cond_small condition.E = omega arith
cond_small condition.Ne = omega arith
cond_small condition.Be = omega arith
cond_small condition.A = omega arith
cond_small condition.S = omega arith
cond_small condition.Ns = omega arith
cond_small condition.P = omega arith
cond_small condition.Np = omega arith
cond_small condition.L = omega arith
cond_small condition.Ge = omega arith
cond_small condition.Le = omega arith
cond_small condition.G = omega arith

cond_at : (c : Cond) → slice_get conditions (cond_code c) ≡ Some c
cond_at condition.O = refl
cond_at condition.No = refl
cond_at condition.B = refl
cond_at condition.Ae = refl
cond_at condition.E = refl
cond_at condition.Ne = refl
cond_at condition.Be = refl
cond_at condition.A = refl
cond_at condition.S = refl
cond_at condition.Ns = refl
cond_at condition.P = refl
cond_at condition.Np = refl
cond_at condition.L = refl
cond_at condition.Ge = refl
cond_at condition.Le = refl
cond_at condition.G = refl

-- the low four bits of an opcode
condition_is : (base : ℕ) (c : Cond) → base % 16 ≡ 0 → slice_get conditions ((base + cond_code c) % 16) ≡ Some c
condition_is base c h =
    let small = cond_small c in
    let low : (base + cond_code c) % 16 ≡ cond_code c = omega (arith, h, small) in
    rw low (cond_at c)

pub set_written : (no_rex : Bool) (c : Cond) (dst : Operand) → OperandTyped dst → rm_can no_rex W8 dst ≡ true → Written (instr.Set c dst) (with_place no_rex W8 (escaped (0x90 + cond_code c)) 0 (to_place dst) nothing)
unfolding instr_of operands_of rm_width tail_len width_of
set_written no_rex c dst dt dc =
    let small = cond_small c in
    let e = condition_is 0x90 c refl in
    place_form (rm Sized B Nothing Rm kind.Set) no_rex W8 W8 (escaped (0x90 + cond_code c)) 0 dst nothing (instr.Set c dst) refl (find_set c 0) (sized_fit (rm Sized B Nothing Rm kind.Set) no_rex W8 true (0x90 + cond_code c) nothing refl refl refl refl refl (omega (arith, small))) (omega arith) (marks no_rex) (digit_below no_rex 0 (omega arith)) dc dt (λ code. rw e refl)
  where
    marks : (nr : Bool) → marks_can nr W8 ≡ true
    marks true = refl
    marks false = refl

pub cmov_written : (no_rex : Bool) (c : Cond) (w : Width) (dst : ℕ) (src : Operand) → OperandTyped src → marks_can no_rex w ≡ true → is_wide w ≡ true → below no_rex dst ≡ true → rm_can no_rex w src ≡ true → Written (instr.Cmov c w dst src) (with_place no_rex w (escaped (0x40 + cond_code c)) dst (to_place src) nothing)
unfolding instr_of operands_of rm_width tail_len
cmov_written no_rex c w dst src st mc wc dc sc =
    let small = cond_small c in
    let e = condition_is 0x40 c refl in
    let d = over8_reg no_rex w dst (wide_over8 w wc) dc in
    place_form (rm Sized D Nothing RegRm kind.Cmov) no_rex w w (escaped (0x40 + cond_code c)) dst src nothing (instr.Cmov c w dst src) refl (find_cmov c (dst % 8)) (sized_fit (rm Sized D Nothing RegRm kind.Cmov) no_rex w true (0x40 + cond_code c) nothing refl refl refl (d_is w wc) refl (omega (arith, small))) (omega arith) mc dc sc st (λ code. rw (e, d) refl)

-- ---- jumps, calls and returns

pub jcc_written : (c : Cond) (rel : ℤ) → FitsSigned w32 rel → Written (instr.Jcc c rel) (jump_pieces (plain (0x70 + cond_code c)) (escaped (0x80 + cond_code c)) (cast_unsigned w32 rel))
unfolding instr_of operands_of tail_len allows
jcc_written c rel f =
    let small = cond_small c in
    let near = condition_is 0x70 c refl in
    let far = condition_is 0x80 c refl in
    let bits = cast_unsigned w32 rel in
    elim (cases_Bool (is_short bits)) [
      | inl t ↦ (let d = short_disp rel f t in
          rw t (spells_code (no Bare Q Rel8 Imm kind.Jcc) true W32 W64 (plain (0x70 + cond_code c)) 0 (number 1 bits) (instr.Jcc c rel) refl (find_jcc8 c 0) (bare_fit (no Bare Q Rel8 Imm kind.Jcc) true false (0x70 + cond_code c) (number 1 bits) refl refl refl refl refl (omega (arith, small))) (omega arith) refl refl (λ x y. rw (near, d) refl)))
      | inr g ↦ (let d = long_disp rel f in
          rw g (spells_code (no Bare Q Rel32 Imm kind.Jcc) true W32 W64 (escaped (0x80 + cond_code c)) 0 (number 4 bits) (instr.Jcc c rel) refl (find_jcc32 c 0) (bare_fit (no Bare Q Rel32 Imm kind.Jcc) true true (0x80 + cond_code c) (number 4 bits) refl refl refl refl refl (omega (arith, small))) (omega arith) refl refl (λ x y. rw (far, d) refl)))
    ]

pub jmp_written : (rel : ℤ) → FitsSigned w32 rel → Written (instr.Jmp rel) (jump_pieces (plain 0xEB) (plain 0xE9) (cast_unsigned w32 rel))
unfolding instr_of operands_of tail_len allows
jmp_written rel f =
    let bits = cast_unsigned w32 rel in
    elim (cases_Bool (is_short bits)) [
      | inl t ↦ (let d = short_disp rel f t in
          rw t (spells_code (no Bare Q Rel8 Imm kind.Jmp) true W32 W64 (plain 0xEB) 0 (number 1 bits) (instr.Jmp rel) refl (find_jmp8 0) (bare_fit (no Bare Q Rel8 Imm kind.Jmp) true false 0xEB (number 1 bits) refl refl refl refl refl (omega arith)) (omega arith) refl refl (λ x y. rw d refl)))
      | inr g ↦ (let d = long_disp rel f in
          rw g (spells_code (no Bare Q Rel32 Imm kind.Jmp) true W32 W64 (plain 0xE9) 0 (number 4 bits) (instr.Jmp rel) refl (find_jmp32 0) (bare_fit (no Bare Q Rel32 Imm kind.Jmp) true false 0xE9 (number 4 bits) refl refl refl refl refl (omega arith)) (omega arith) refl refl (λ x y. rw d refl)))
    ]

pub call_written : (rel : ℤ) → FitsSigned w32 rel → Written (instr.Call rel) (call_pieces (cast_unsigned w32 rel))
unfolding instr_of operands_of tail_len allows
call_written rel f =
    let bits = cast_unsigned w32 rel in
    let d = long_disp rel f in
    spells_code (no Bare Q Rel32 Imm kind.Call) true W32 W64 (plain 0xE8) 0 (number 4 bits) (instr.Call rel) refl (find_call 0) (bare_fit (no Bare Q Rel32 Imm kind.Call) true false 0xE8 (number 4 bits) refl refl refl refl refl (omega arith)) (omega arith) refl refl (λ x y. rw d refl)

pub jmp_to_written : (no_rex : Bool) (src : Operand) → OperandTyped src → rm_can no_rex W64 src ≡ true → Written (instr.JmpTo src) (with_place no_rex W32 (plain 0xFF) 4 (to_place src) nothing)
unfolding instr_of operands_of rm_width tail_len allows
jmp_to_written no_rex src st sc = place_form (rm Track Q Nothing Rm kind.JmpTo) no_rex W32 W64 (plain 0xFF) 4 src nothing (instr.JmpTo src) refl find_jmp_to (bare_fit (rm Track Q Nothing Rm kind.JmpTo) no_rex false 0xFF nothing refl refl refl refl refl (omega arith)) (omega arith) (no_marks no_rex) (digit_below no_rex 4 (omega arith)) sc st (λ code. refl)

pub call_to_written : (no_rex : Bool) (src : Operand) → OperandTyped src → rm_can no_rex W64 src ≡ true → Written (instr.CallTo src) (with_place no_rex W32 (plain 0xFF) 2 (to_place src) nothing)
unfolding instr_of operands_of rm_width tail_len allows
call_to_written no_rex src st sc = place_form (rm Track Q Nothing Rm kind.CallTo) no_rex W32 W64 (plain 0xFF) 2 src nothing (instr.CallTo src) refl find_call_to (bare_fit (rm Track Q Nothing Rm kind.CallTo) no_rex false 0xFF nothing refl refl refl refl refl (omega arith)) (omega arith) (no_marks no_rex) (digit_below no_rex 2 (omega arith)) sc st (λ code. refl)

ret_taking : (n : ℕ) → n < 65536 → Written (instr.Ret n) (with_code true W32 (plain 0xC2) 0 (number 2 n))
unfolding instr_of operands_of tail_len allows allows_rex is_narrowed width_of
ret_taking n nt =
    let same : unsigned (low_bytes 2 n) ≡ n = omega (arith, nt) in
    spells_code (asking rex.Absent (no Bare Q Iw Imm kind.Ret)) true W32 W64 (plain 0xC2) 0 (number 2 n) (instr.Ret n) refl (find_ret 0) (record {
      allowed = refl;
      narrowed = refl;
      width = refl;
      asked = λ x none _. none;
      fixed = refl;
      tail = refl;
      prefix_byte = omega arith;
      op_byte = omega arith;
    }) (omega arith) refl refl (λ x y. ap (λ k. Some (instr.Ret k)) same)

-- ---- strings without operands

pub ret_plain : Written (instr.Ret 0) (with_code true W32 (plain 0xC3) 0 nothing)
unfolding signed displacement has_sib is_baseless disp_len indexed based place_of register operand_of width_of tail_len at_width table allows is_narrowed allows_rex operands_of instr_of rm_width meaning covers cut prefix_count rex_len escape_len mark_in find_line find_row read_head row_at read_operands width_at read_instr read
ret_plain = closed (instr.Ret 0) (bytes_of (parts_of (with_code true W32 (plain 0xC3) 0 nothing))) refl refl

pub leave_written : Written instr.Leave (alone (plain 0xC9))
unfolding signed displacement has_sib is_baseless disp_len indexed based place_of register operand_of width_of tail_len at_width table allows is_narrowed allows_rex operands_of instr_of rm_width meaning covers cut prefix_count rex_len escape_len mark_in find_line find_row read_head row_at read_operands width_at read_instr read
leave_written = closed instr.Leave (bytes_of (parts_of (alone (plain 0xC9)))) refl refl

pub nop_written : Written instr.Nop (alone (plain 0x90))
unfolding signed displacement has_sib is_baseless disp_len indexed based place_of register operand_of width_of tail_len at_width table allows is_narrowed allows_rex operands_of instr_of rm_width meaning covers cut prefix_count rex_len escape_len mark_in find_line find_row read_head row_at read_operands width_at read_instr read
nop_written = closed instr.Nop (bytes_of (parts_of (alone (plain 0x90)))) refl refl

pub pause_written : Written instr.Pause (alone (behind (Some 0xF3) 0x90))
unfolding signed displacement has_sib is_baseless disp_len indexed based place_of register operand_of width_of tail_len at_width table allows is_narrowed allows_rex operands_of instr_of rm_width meaning covers cut prefix_count rex_len escape_len mark_in find_line find_row read_head row_at read_operands width_at read_instr read
pause_written = closed instr.Pause (bytes_of (parts_of (alone (behind (Some 0xF3) 0x90)))) refl refl

pub endbr_written : Written instr.Endbr (with_place true W32 (behind_escaped (Some 0xF3) 0x1E) 7 (place.Reg 2) nothing)
unfolding signed displacement has_sib is_baseless disp_len indexed based place_of register operand_of width_of tail_len at_width table allows is_narrowed allows_rex operands_of instr_of rm_width meaning covers cut prefix_count rex_len escape_len mark_in find_line find_row read_head row_at read_operands width_at read_instr read
endbr_written = closed instr.Endbr (bytes_of (parts_of (with_place true W32 (behind_escaped (Some 0xF3) 0x1E) 7 (place.Reg 2) nothing))) refl refl

pub mfence_written : Written instr.Mfence (with_place true W32 (escaped 0xAE) 6 (place.Reg 0) nothing)
unfolding signed displacement has_sib is_baseless disp_len indexed based place_of register operand_of width_of tail_len at_width table allows is_narrowed allows_rex operands_of instr_of rm_width meaning covers cut prefix_count rex_len escape_len mark_in find_line find_row read_head row_at read_operands width_at read_instr read
mfence_written = closed instr.Mfence (bytes_of (parts_of (with_place true W32 (escaped 0xAE) 6 (place.Reg 0) nothing))) refl refl

pub ret_written : (n : ℕ) → n < 65536 → Written (instr.Ret n) (ret_pieces n)
ret_written n nt =
    elim (cases_Bool (nat_eq n 0)) [
      | inl t ↦ (let none : n ≡ 0 = eqb-true n 0 t in
          rw t (subst (λ k. Written (instr.Ret k) (with_code true W32 (plain 0xC3) 0 nothing)) (sym none) ret_plain))
      | inr f ↦ rw f (ret_taking n nt)
    ]

-- ---- LOCK XADD and CMPXCHG

pub xadd_written : (no_rex : Bool) (w : Width) (m : Mem) (reg : Operand) → MemTyped m → marks_can no_rex w ≡ true → mem_can no_rex m ≡ true → register_can no_rex w reg ≡ true → Written (instr.Xadd w m reg) (with_place no_rex w (behind_escaped lock (0xC0 + wide_bit w)) (number_of reg) (place.Mem m) nothing)
unfolding instr_of operands_of rm_width tail_len
xadd_written no_rex w m reg mt mc dc sc =
    let s = register_is no_rex w reg sc in
    let l = wide_small w in
    let row = rm Locked (size_for w) Nothing RmReg kind.Xadd in
    place_form row no_rex w w (behind_escaped lock (0xC0 + wide_bit w)) (number_of reg) (operand.Mem m) nothing (instr.Xadd w m reg) refl (find_xadd w (number_of reg % 8)) (locked_fit row no_rex w true (0xC0 + wide_bit w) nothing refl refl refl (size_is w) refl (omega (arith, l))) (omega arith) mc s.1 dc mt (λ code. rw s.0 refl)

pub cmpxchg_written : (no_rex : Bool) (w : Width) (m : Mem) (reg : Operand) → MemTyped m → marks_can no_rex w ≡ true → mem_can no_rex m ≡ true → register_can no_rex w reg ≡ true → Written (instr.Cmpxchg w m reg) (with_place no_rex w (behind_escaped lock (0xB0 + wide_bit w)) (number_of reg) (place.Mem m) nothing)
unfolding instr_of operands_of rm_width tail_len
cmpxchg_written no_rex w m reg mt mc dc sc =
    let s = register_is no_rex w reg sc in
    let l = wide_small w in
    let row = rm Locked (size_for w) Nothing RmReg kind.Cmpxchg in
    place_form row no_rex w w (behind_escaped lock (0xB0 + wide_bit w)) (number_of reg) (operand.Mem m) nothing (instr.Cmpxchg w m reg) refl (find_cmpxchg w (number_of reg % 8)) (locked_fit row no_rex w true (0xB0 + wide_bit w) nothing refl refl refl (size_is w) refl (omega (arith, l))) (omega arith) mc s.1 dc mt (λ code. rw s.0 refl)
