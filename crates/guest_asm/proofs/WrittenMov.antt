-- What is chosen for MOV, PUSH, POP, MOVZX, MOVSX, LEA and XCHG is a spelling.
use Rattle.std.proofs.Common.{◌≡◌, ℕ, ◌+◌, ◌*◌, ◌/◌, ◌%◌, ◌^◌, ◌<◌, ◌≤◌, Bool, true, false, inl, inr, refl, sym, subst, arith, eq-eqb}
use Rattle.std.proofs.lemmas.Bool.{and_parts, both_ways, cases_Bool, not-true, lt-ltb, ltb-true}
use Rattle.x86_forms.specs.declared.operands.Width.{Width}
use Rattle.x86_forms.specs.declared.operands.Width.TheVariants.{W8, W16, W32, W64}
use Rattle.x86_forms.specs.declared.operands.Mem.{Mem}
use Rattle.x86_forms.specs.declared.operands.Operand.{Operand}
use Rattle.x86_forms.specs.declared.operands.Operand.TheVariants as operand
use Rattle.x86_forms.specs.declared.operands.Place.TheVariants as place
use Rattle.x86_forms.specs.declared.instructions.Instr.TheVariants as instr
use Rattle.x86_forms.specs.declared.rows.Prefixes.TheVariants.{Sized, Bare}
use Rattle.x86_forms.specs.declared.rows.Rex.TheVariants as rex
use Rattle.x86_forms.specs.declared.rows.Tail.TheVariants.{Nothing, Ib, Iz, Iv}
use Rattle.x86_forms.specs.declared.rows.Size.TheVariants.{B, V, D, Q}
use Rattle.x86_forms.specs.declared.rows.Shape.TheVariants.{RmReg, RegRm, RmImm, CodeImm, CodeAcc, Rm, Imm}
use Rattle.x86_forms.specs.declared.rows.Kind.TheVariants as kind
use Rattle.x86_forms.specs.Operands.{byte, rex_w, signed, register, width_of, tail_len, at_width}
use Rattle.x86_forms.specs.Widths.{bytes_in}
use Rattle.x86_forms.specs.Table.{rm, no, asking}
use Rattle.x86_forms.specs.Spelling.{operands_of, instr_of, rm_width, allows, allows_rex, is_narrowed}
use Rattle.guest_asm.specs.Places.{low_bytes, below, mem_can}
use Rattle.guest_asm.specs.Pieces.{number, with_place, with_code, marks_can}
use Rattle.guest_asm.specs.Encodable.{reg_can, high_can, register_can, rm_can, imm_can, whole_imm_can, mov_imm_can, mov_can, push_can, is_over8, zx_can, sx_can, OperandTyped, MemTyped}
use Rattle.guest_asm.specs.Choices.{nothing, plain, escaped, number_of, to_place, is_acc, wide_bit, is_short_imm, imm_bytes, mov_reg_imm, mov_imm, mov_pieces, zx_byte, sx_opcode, push_pieces, has_code, is_exchange, xchg_pieces}
use Rattle.guest_asm.proofs.Found.{size_for, tail_for, find_mov_store, find_mov_load, find_mov_imm, find_mov8, find_mov, find_push_code, find_pop, find_push, find_push8, find_push32, find_zx8, find_zx16, find_sx8, find_sx16, find_sx32, find_lea, find_xchg, find_xchg_code}
use Rattle.guest_asm.proofs.Encodings.{spells_code}
use Rattle.guest_asm.proofs.OperandLemmas.{reg_is, high_is, register_is, digit_below, imm_is, whole_imm, short_imm}
use Rattle.guest_asm.proofs.Forms.{place_form, sized_fit, bare_fit, size_is, v_is, d_is, wide_over8, wide_small}
use Rattle.guest_asm.proofs.Written.{Written, imm_len, imm_small, acc_is}

-- a number of a register at a width over 8 bits
pub over8_reg : (no_rex : Bool) (w : Width) (r : ℕ) → is_over8 w ≡ true → below no_rex r ≡ true → register w no_rex r ≡ operand.Reg r
unfolding register
over8_reg no_rex W8 r o b = absurd (both_ways false refl o)
over8_reg no_rex W16 r o b = refl
over8_reg no_rex W32 r o b = refl
over8_reg no_rex W64 r o b = refl

-- ---- MOV

mov_store : (no_rex : Bool) (w : Width) (dst src : Operand) → marks_can no_rex w ≡ true → rm_can no_rex w dst ≡ true → register_can no_rex w src ≡ true → OperandTyped dst → Written (instr.Mov w dst src) (with_place no_rex w (plain (0x88 + wide_bit w)) (number_of src) (to_place dst) nothing)
unfolding instr_of operands_of rm_width tail_len
mov_store no_rex w dst src mc dc sc dt =
    let s = register_is no_rex w src sc in
    let l = wide_small w in
    let row = rm Sized (size_for w) Nothing RmReg kind.Mov in
    place_form row no_rex w w (plain (0x88 + wide_bit w)) (number_of src) dst nothing (instr.Mov w dst src) refl (find_mov_store w (number_of src % 8)) (sized_fit row no_rex w false (0x88 + wide_bit w) nothing refl refl refl (size_is w) refl (omega (arith, l))) (omega arith) mc s.1 dc dt (λ code. rw s.0 refl)

mov_load : (no_rex : Bool) (w : Width) (dst : Operand) (m : Mem) → marks_can no_rex w ≡ true → register_can no_rex w dst ≡ true → mem_can no_rex m ≡ true → OperandTyped (operand.Mem m) → Written (instr.Mov w dst (operand.Mem m)) (with_place no_rex w (plain (0x8A + wide_bit w)) (number_of dst) (to_place (operand.Mem m)) nothing)
unfolding instr_of operands_of rm_width tail_len
mov_load no_rex w dst m mc dc sc st =
    let d = register_is no_rex w dst dc in
    let l = wide_small w in
    let row = rm Sized (size_for w) Nothing RegRm kind.Mov in
    place_form row no_rex w w (plain (0x8A + wide_bit w)) (number_of dst) (operand.Mem m) nothing (instr.Mov w dst (operand.Mem m)) refl (find_mov_load w (number_of dst % 8)) (sized_fit row no_rex w false (0x8A + wide_bit w) nothing refl refl refl (size_is w) refl (omega (arith, l))) (omega arith) mc d.1 sc st (λ code. rw d.0 refl)

mov_rm_imm : (no_rex : Bool) (w : Width) (dst : Operand) (n : ℕ) → marks_can no_rex w ≡ true → rm_can no_rex w dst ≡ true → imm_can w n ≡ true → OperandTyped dst → n < 2 ^ 64 → Written (instr.Mov w dst (operand.Imm n)) (with_place no_rex w (plain (0xC6 + wide_bit w)) 0 (to_place dst) (number (imm_bytes w) n))
unfolding instr_of operands_of rm_width
mov_rm_imm no_rex w dst n mc dc ic dt nt =
    let e = imm_is w n ic nt in
    let l = wide_small w in
    let row = rm Sized (size_for w) (tail_for w) RmImm kind.Mov in
    place_form row no_rex w w (plain (0xC6 + wide_bit w)) 0 dst (number (imm_bytes w) n) (instr.Mov w dst (operand.Imm n)) refl (find_mov_imm w) (sized_fit row no_rex w false (0xC6 + wide_bit w) (number (imm_bytes w) n) refl refl refl (size_is w) (imm_len w) (omega (arith, l))) (imm_small w) mc (digit_below no_rex 0 (omega arith)) dc dt (λ code. rw e refl)

-- the register's number is in the opcode
code_is : (base n : ℕ) → base % 8 ≡ 0 → (base + n % 8) % 8 + 8 * (n / 8) ≡ n
code_is base n h = omega (arith, h)

mov_code_8 : (no_rex : Bool) (dst : Operand) (r n : ℕ) → register W8 no_rex r ≡ dst → below no_rex r ≡ true → n < 256 → Written (instr.Mov W8 dst (operand.Imm n)) (with_code no_rex W8 (plain (0xB0 + r % 8)) r (number 1 n))
unfolding instr_of operands_of tail_len width_of
mov_code_8 no_rex dst r n d b h =
    let e : at_width W8 (signed (low_bytes 1 n)) ≡ n = whole_imm W8 n (lt-ltb n 256 h) (omega (arith, h)) in
    let c = code_is 0xB0 r refl in
    let row = no Sized B Ib CodeImm kind.Mov in
    spells_code row no_rex W8 W8 (plain (0xB0 + r % 8)) r (number 1 n) (instr.Mov W8 dst (operand.Imm n)) refl (find_mov8 r 0) (sized_fit row no_rex W8 false (0xB0 + r % 8) (number 1 n) refl refl refl refl refl (omega arith)) (omega arith) (marks_8 no_rex) b (λ x y. rw (c, d, e) refl)
  where
    marks_8 : (nr : Bool) → marks_can nr W8 ≡ true
    marks_8 true = refl
    marks_8 false = refl

mov_code : (no_rex : Bool) (w : Width) (dst : Operand) (r n : ℕ) → marks_can no_rex w ≡ true → is_over8 w ≡ true → register w no_rex r ≡ dst → below no_rex r ≡ true → whole_imm_can w n ≡ true → n < 2 ^ 64 → Written (instr.Mov w dst (operand.Imm n)) (with_code no_rex w (plain (0xB8 + r % 8)) r (number (bytes_in w) n))
unfolding instr_of operands_of tail_len
mov_code no_rex w dst r n mc o d b ic nt =
    let e = whole_imm w n ic nt in
    let c = code_is 0xB8 r refl in
    let row = no Sized V Iv CodeImm kind.Mov in
    spells_code row no_rex w w (plain (0xB8 + r % 8)) r (number (bytes_in w) n) (instr.Mov w dst (operand.Imm n)) refl (find_mov r 0) (sized_fit row no_rex w false (0xB8 + r % 8) (number (bytes_in w) n) refl refl refl (v_is w o) refl (omega arith)) (at_most_8 w) mc b (λ x y. rw (c, d, e) refl)
  where
    at_most_8 : (v : Width) → bytes_in v ≤ 8
    at_most_8 W8 = omega arith
    at_most_8 W16 = omega arith
    at_most_8 W32 = omega arith
    at_most_8 W64 = omega arith

mov_reg_written : (no_rex : Bool) (w : Width) (r n : ℕ) → marks_can no_rex w ≡ true → reg_can no_rex w r ≡ true → whole_imm_can w n ≡ true → n < 2 ^ 64 → Written (instr.Mov w (operand.Reg r) (operand.Imm n)) (mov_reg_imm no_rex w r n)
mov_reg_written no_rex W8 r n mc rc ic nt = let d = reg_is no_rex W8 r rc in mov_code_8 no_rex (operand.Reg r) r n d.0 d.1 (ltb-true n 256 ic)
mov_reg_written no_rex W16 r n mc rc ic nt = let d = reg_is no_rex W16 r rc in mov_code no_rex W16 (operand.Reg r) r n mc refl d.0 d.1 ic nt
mov_reg_written no_rex W32 r n mc rc ic nt = let d = reg_is no_rex W32 r rc in mov_code no_rex W32 (operand.Reg r) r n mc refl d.0 d.1 ic nt
mov_reg_written no_rex W64 r n mc rc ic nt =
    let d = reg_is no_rex W64 r rc in
    elim (cases_Bool (imm_can W64 n)) [
      | inl t ↦ rw t (mov_rm_imm no_rex W64 (operand.Reg r) n mc rc t tt nt)
      | inr f ↦ rw f (mov_code no_rex W64 (operand.Reg r) r n mc refl d.0 d.1 ic nt)
    ]

mov_high_written : (no_rex : Bool) (w : Width) (r n : ℕ) → marks_can no_rex w ≡ true → high_can no_rex w r ≡ true → imm_can w n ≡ true → Written (instr.Mov w (operand.High r) (operand.Imm n)) (mov_reg_imm no_rex w (r % 4 + 4) n)
mov_high_written no_rex W8 r n mc rc ic = let d = high_is no_rex W8 r rc in mov_code_8 no_rex (operand.High r) (r % 4 + 4) n d.0 d.1 (ltb-true n 256 ic)
mov_high_written no_rex W16 r n mc rc ic = absurd (both_ways false refl rc)
mov_high_written no_rex W32 r n mc rc ic = absurd (both_ways false refl rc)
mov_high_written no_rex W64 r n mc rc ic = absurd (both_ways false refl rc)

mov_imm_written : (no_rex : Bool) (w : Width) (dst : Operand) (n : ℕ) → OperandTyped dst → n < 2 ^ 64 → marks_can no_rex w ≡ true → mov_imm_can no_rex w dst n ≡ true → Written (instr.Mov w dst (operand.Imm n)) (mov_imm no_rex w dst n)
mov_imm_written no_rex w (operand.Reg r) n dt nt mc h = let p = and_parts (reg_can no_rex w r) (whole_imm_can w n) h in mov_reg_written no_rex w r n mc p.0 p.1 nt
mov_imm_written no_rex w (operand.High r) n dt nt mc h = let p = and_parts (high_can no_rex w r) (imm_can w n) h in mov_high_written no_rex w r n mc p.0 p.1
mov_imm_written no_rex w (operand.Mem m) n dt nt mc h = let p = and_parts (mem_can no_rex m) (imm_can w n) h in mov_rm_imm no_rex w (operand.Mem m) n mc p.0 p.1 dt nt
mov_imm_written no_rex w (operand.Imm k) n dt nt mc h = absurd (both_ways false refl h)

pub mov_written : (no_rex : Bool) (w : Width) (dst src : Operand) → OperandTyped dst → OperandTyped src → marks_can no_rex w ≡ true → mov_can no_rex w dst src ≡ true → Written (instr.Mov w dst src) (mov_pieces no_rex w dst src)
mov_written no_rex w dst (operand.Imm n) dt st mc h = mov_imm_written no_rex w dst n dt st mc h
mov_written no_rex w dst (operand.Mem m) dt st mc h = let q = and_parts (register_can no_rex w dst) (mem_can no_rex m) h in mov_load no_rex w dst m mc q.0 q.1 st
mov_written no_rex w dst (operand.Reg r) dt st mc h = let p = and_parts (rm_can no_rex w dst) (reg_can no_rex w r) h in mov_store no_rex w dst (operand.Reg r) mc p.0 p.1 dt
mov_written no_rex w dst (operand.High r) dt st mc h = let p = and_parts (rm_can no_rex w dst) (high_can no_rex w r) h in mov_store no_rex w dst (operand.High r) mc p.0 p.1 dt

-- ---- MOVZX, MOVSX and MOVSXD

pub zx_written : (no_rex : Bool) (from w : Width) (dst : ℕ) (src : Operand) → OperandTyped src → marks_can no_rex w ≡ true → zx_can from w ≡ true → below no_rex dst ≡ true → rm_can no_rex from src ≡ true → Written (instr.Zx from w dst src) (with_place no_rex w (escaped (zx_byte from)) dst (to_place src) nothing)
unfolding instr_of operands_of rm_width tail_len
zx_written no_rex W8 w dst src st mc wc dc sc =
    let d = over8_reg no_rex w dst wc dc in
    place_form (rm Sized V Nothing RegRm (kind.Zx W8)) no_rex w w (escaped 0xB6) dst src nothing (instr.Zx W8 w dst src) refl (find_zx8 (dst % 8)) (sized_fit (rm Sized V Nothing RegRm (kind.Zx W8)) no_rex w true 0xB6 nothing refl refl refl (v_is w wc) refl (omega arith)) (omega arith) mc dc sc st (λ code. rw d refl)
zx_written no_rex W16 w dst src st mc wc dc sc =
    let d = over8_reg no_rex w dst (wide_over8 w wc) dc in
    place_form (rm Sized D Nothing RegRm (kind.Zx W16)) no_rex w w (escaped 0xB7) dst src nothing (instr.Zx W16 w dst src) refl (find_zx16 (dst % 8)) (sized_fit (rm Sized D Nothing RegRm (kind.Zx W16)) no_rex w true 0xB7 nothing refl refl refl (d_is w wc) refl (omega arith)) (omega arith) mc dc sc st (λ code. rw d refl)
zx_written no_rex W32 w dst src st mc wc dc sc = absurd (both_ways false refl wc)
zx_written no_rex W64 w dst src st mc wc dc sc = absurd (both_ways false refl wc)

sx32_written : (no_rex : Bool) (dst : ℕ) (src : Operand) → OperandTyped src → marks_can no_rex W64 ≡ true → below no_rex dst ≡ true → rm_can no_rex W32 src ≡ true → Written (instr.Sx W32 W64 dst src) (with_place no_rex W64 (plain 0x63) dst (to_place src) nothing)
unfolding instr_of operands_of rm_width tail_len register allows allows_rex is_narrowed width_of
sx32_written no_rex dst src st mc dc sc =
    place_form (asking rex.Wide (rm Sized V Nothing RegRm (kind.Sx W32))) no_rex W64 W64 (plain 0x63) dst src nothing (instr.Sx W32 W64 dst src) refl (find_sx32 (dst % 8)) (record {
      allowed = refl;
      narrowed = refl;
      width = refl;
      asked = λ x _ e. eq-eqb (rex_w (byte x)) 1 e;
      fixed = refl;
      tail = refl;
      prefix_byte = omega arith;
      op_byte = omega arith;
    }) (omega arith) mc dc sc st (λ code. refl)

pub sx_written : (no_rex : Bool) (from w : Width) (dst : ℕ) (src : Operand) → OperandTyped src → marks_can no_rex w ≡ true → sx_can from w ≡ true → below no_rex dst ≡ true → rm_can no_rex from src ≡ true → Written (instr.Sx from w dst src) (with_place no_rex w (sx_opcode from) dst (to_place src) nothing)
unfolding instr_of operands_of rm_width tail_len
sx_written no_rex W8 w dst src st mc wc dc sc =
    let d = over8_reg no_rex w dst wc dc in
    place_form (rm Sized V Nothing RegRm (kind.Sx W8)) no_rex w w (escaped 0xBE) dst src nothing (instr.Sx W8 w dst src) refl (find_sx8 (dst % 8)) (sized_fit (rm Sized V Nothing RegRm (kind.Sx W8)) no_rex w true 0xBE nothing refl refl refl (v_is w wc) refl (omega arith)) (omega arith) mc dc sc st (λ code. rw d refl)
sx_written no_rex W16 w dst src st mc wc dc sc =
    let d = over8_reg no_rex w dst (wide_over8 w wc) dc in
    place_form (rm Sized D Nothing RegRm (kind.Sx W16)) no_rex w w (escaped 0xBF) dst src nothing (instr.Sx W16 w dst src) refl (find_sx16 (dst % 8)) (sized_fit (rm Sized D Nothing RegRm (kind.Sx W16)) no_rex w true 0xBF nothing refl refl refl (d_is w wc) refl (omega arith)) (omega arith) mc dc sc st (λ code. rw d refl)
sx_written no_rex W32 W64 dst src st mc wc dc sc = sx32_written no_rex dst src st mc dc sc
sx_written no_rex W32 W8 dst src st mc wc dc sc = absurd (both_ways false refl wc)
sx_written no_rex W32 W16 dst src st mc wc dc sc = absurd (both_ways false refl wc)
sx_written no_rex W32 W32 dst src st mc wc dc sc = absurd (both_ways false refl wc)
sx_written no_rex W64 w dst src st mc wc dc sc = absurd (both_ways false refl wc)

-- ---- LEA

pub lea_written : (no_rex : Bool) (w : Width) (dst : ℕ) (m : Mem) → MemTyped m → marks_can no_rex w ≡ true → is_over8 w ≡ true → below no_rex dst ≡ true → mem_can no_rex m ≡ true → Written (instr.Lea w dst m) (with_place no_rex w (plain 0x8D) dst (place.Mem m) nothing)
unfolding instr_of operands_of rm_width tail_len
lea_written no_rex w dst m mt mc wc dc sc =
    let d = over8_reg no_rex w dst wc dc in
    place_form (rm Sized V Nothing RegRm kind.Lea) no_rex w w (plain 0x8D) dst (operand.Mem m) nothing (instr.Lea w dst m) refl (find_lea (dst % 8)) (sized_fit (rm Sized V Nothing RegRm kind.Lea) no_rex w false 0x8D nothing refl refl refl (v_is w wc) refl (omega arith)) (omega arith) mc dc sc mt (λ code. rw d refl)

-- ---- PUSH and POP

pub no_marks : (no_rex : Bool) → marks_can no_rex W32 ≡ true
no_marks true = refl
no_marks false = refl

push_code : (no_rex : Bool) (r : ℕ) → below no_rex r ≡ true → Written (instr.Push (operand.Reg r)) (with_code no_rex W32 (plain (0x50 + r % 8)) r nothing)
unfolding instr_of operands_of tail_len register allows
push_code no_rex r b =
    let c = code_is 0x50 r refl in
    spells_code (no Bare Q Nothing CodeAcc kind.Push) no_rex W32 W64 (plain (0x50 + r % 8)) r nothing (instr.Push (operand.Reg r)) refl (find_push_code r 0) (bare_fit (no Bare Q Nothing CodeAcc kind.Push) no_rex false (0x50 + r % 8) nothing refl refl refl refl refl (omega arith)) (omega arith) (no_marks no_rex) b (λ x y. rw c refl)

pub pop_written : (no_rex : Bool) (r : ℕ) → below no_rex r ≡ true → Written (instr.Pop r) (with_code no_rex W32 (plain (0x58 + r % 8)) r nothing)
unfolding instr_of operands_of tail_len register allows
pop_written no_rex r b =
    let c = code_is 0x58 r refl in
    spells_code (no Bare Q Nothing CodeAcc kind.Pop) no_rex W32 W64 (plain (0x58 + r % 8)) r nothing (instr.Pop r) refl (find_pop r 0) (bare_fit (no Bare Q Nothing CodeAcc kind.Pop) no_rex false (0x58 + r % 8) nothing refl refl refl refl refl (omega arith)) (omega arith) (no_marks no_rex) b (λ x y. rw c refl)

push_mem : (no_rex : Bool) (m : Mem) → MemTyped m → mem_can no_rex m ≡ true → Written (instr.Push (operand.Mem m)) (with_place no_rex W32 (plain 0xFF) 6 (place.Mem m) nothing)
unfolding instr_of operands_of rm_width tail_len allows
push_mem no_rex m mt sc = place_form (rm Bare Q Nothing Rm kind.Push) no_rex W32 W64 (plain 0xFF) 6 (operand.Mem m) nothing (instr.Push (operand.Mem m)) refl find_push (bare_fit (rm Bare Q Nothing Rm kind.Push) no_rex false 0xFF nothing refl refl refl refl refl (omega arith)) (omega arith) (no_marks no_rex) (digit_below no_rex 6 (omega arith)) sc mt (λ code. refl)

push_8 : (n : ℕ) → imm_can W64 n ≡ true → is_short_imm W64 n ≡ true → n < 2 ^ 64 → Written (instr.Push (operand.Imm n)) (with_code true W32 (plain 0x6A) 0 (number 1 n))
unfolding instr_of operands_of tail_len allows
push_8 n ic sc nt =
    let e = short_imm W64 n refl ic sc nt in
    spells_code (no Bare Q Ib Imm kind.Push) true W32 W64 (plain 0x6A) 0 (number 1 n) (instr.Push (operand.Imm n)) refl (find_push8 0) (bare_fit (no Bare Q Ib Imm kind.Push) true false 0x6A (number 1 n) refl refl refl refl refl (omega arith)) (omega arith) refl refl (λ x y. rw e refl)

push_32 : (n : ℕ) → imm_can W64 n ≡ true → n < 2 ^ 64 → Written (instr.Push (operand.Imm n)) (with_code true W32 (plain 0x68) 0 (number 4 n))
unfolding instr_of operands_of tail_len allows
push_32 n ic nt =
    let e = imm_is W64 n ic nt in
    spells_code (no Bare Q Iz Imm kind.Push) true W32 W64 (plain 0x68) 0 (number 4 n) (instr.Push (operand.Imm n)) refl (find_push32 0) (bare_fit (no Bare Q Iz Imm kind.Push) true false 0x68 (number 4 n) refl refl refl refl refl (omega arith)) (omega arith) refl refl (λ x y. rw e refl)

pub push_written : (no_rex : Bool) (src : Operand) → OperandTyped src → push_can no_rex src ≡ true → Written (instr.Push src) (push_pieces no_rex src)
push_written no_rex (operand.Reg r) st h = push_code no_rex r h
push_written no_rex (operand.High r) st h = absurd (both_ways false refl h)
push_written no_rex (operand.Mem m) st h = push_mem no_rex m st h
push_written no_rex (operand.Imm n) st h =
    elim (cases_Bool (is_short_imm W64 n)) [
      | inl t ↦ rw t (push_8 n h t st)
      | inr f ↦ rw f (push_32 n h st)
    ]

-- ---- XCHG

xchg_rm : (no_rex : Bool) (w : Width) (a b : Operand) → marks_can no_rex w ≡ true → rm_can no_rex w a ≡ true → register_can no_rex w b ≡ true → OperandTyped a → Written (instr.Xchg w a b) (with_place no_rex w (plain (0x86 + wide_bit w)) (number_of b) (to_place a) nothing)
unfolding instr_of operands_of rm_width tail_len
xchg_rm no_rex w a b mc ac bc ta =
    let s = register_is no_rex w b bc in
    let l = wide_small w in
    let row = rm Sized (size_for w) Nothing RmReg kind.Xchg in
    place_form row no_rex w w (plain (0x86 + wide_bit w)) (number_of b) a nothing (instr.Xchg w a b) refl (find_xchg w (number_of b % 8)) (sized_fit row no_rex w false (0x86 + wide_bit w) nothing refl refl refl (size_is w) refl (omega (arith, l))) (omega arith) mc s.1 ac ta (λ code. rw s.0 refl)

xchg_code : (no_rex : Bool) (w : Width) (a b : Operand) → marks_can no_rex w ≡ true → rm_can no_rex w a ≡ true → is_acc b ≡ true → is_over8 w ≡ true → has_code a ≡ true → Written (instr.Xchg w a b) (with_code no_rex w (plain (0x90 + number_of a % 8)) (number_of a) nothing)
unfolding instr_of operands_of tail_len
xchg_code no_rex w (operand.Reg r) b mc ac bc o k =
    let d = reg_is no_rex w r ac in
    let c = code_is 0x90 r refl in
    let row = no Sized V Nothing CodeAcc kind.Xchg in
    subst (λ v. Written (instr.Xchg w (operand.Reg r) v) (with_code no_rex w (plain (0x90 + r % 8)) r nothing)) (sym (acc_is b bc)) (spells_code row no_rex w w (plain (0x90 + r % 8)) r nothing (instr.Xchg w (operand.Reg r) (operand.Reg 0)) refl (find_xchg_code r 0 (not-true _ k)) (sized_fit row no_rex w false (0x90 + r % 8) nothing refl refl refl (v_is w o) refl (omega arith)) (omega arith) mc d.1 (λ x y. rw (c, d.0) refl))
xchg_code no_rex w (operand.High r) b mc ac bc o k = absurd (both_ways false refl k)
xchg_code no_rex w (operand.Mem m) b mc ac bc o k = absurd (both_ways false refl k)
xchg_code no_rex w (operand.Imm n) b mc ac bc o k = absurd (both_ways false refl k)

pub xchg_written : (no_rex : Bool) (w : Width) (a b : Operand) → OperandTyped a → marks_can no_rex w ≡ true → rm_can no_rex w a ≡ true → register_can no_rex w b ≡ true → Written (instr.Xchg w a b) (xchg_pieces no_rex w a b)
xchg_written no_rex w a b ta mc ac bc =
    elim (cases_Bool (is_exchange w a b)) [
      | inl t ↦ (let p = and_parts (is_acc b) _ t in
          let q = and_parts (is_over8 w) (has_code a) p.1 in
          rw t (xchg_code no_rex w a b mc ac p.0 q.0 q.1))
      | inr f ↦ rw f (xchg_rm no_rex w a b mc ac bc ta)
    ]
