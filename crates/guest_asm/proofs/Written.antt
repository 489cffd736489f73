-- What is chosen for an instruction is a spelling of it.
use Rattle.std.proofs.Common.{◌≡◌, ℕ, ◌%◌, ◌^◌, ◌<◌, ◌≤◌, Bool, true, false, inl, inr, None, refl, sym, ap, subst, arith}
use Rattle.std.specs.Prelude.{not}
use Rattle.std.proofs.lemmas.Bool.{and_parts, both_ways, cases_Bool, not-true, eqb-true}
use Rattle.x86_forms.specs.declared.operands.Width.{Width}
use Rattle.x86_forms.specs.declared.operands.Width.TheVariants.{W8, W16, W32, W64}
use Rattle.x86_forms.specs.declared.operands.Mem.{Mem}
use Rattle.x86_forms.specs.declared.operands.Operand.{Operand}
use Rattle.x86_forms.specs.declared.operands.Operand.TheVariants as operand
use Rattle.x86_forms.specs.declared.instructions.AluOp.{AluOp}
use Rattle.x86_forms.specs.declared.instructions.Instr.{Instr}
use Rattle.x86_forms.specs.declared.instructions.Instr.TheVariants as instr
use Rattle.x86_forms.specs.declared.rows.Prefixes.TheVariants.{Sized, Locked}
use Rattle.x86_forms.specs.declared.rows.Tail.TheVariants.{Nothing, Ib}
use Rattle.x86_forms.specs.declared.rows.Size.TheVariants.{V}
use Rattle.x86_forms.specs.declared.rows.Shape.TheVariants.{RmReg, RegRm, RmImm, AccImm}
use Rattle.x86_forms.specs.declared.rows.Kind.TheVariants as kind
use Rattle.x86_forms.specs.Operands.{tail_len}
use Rattle.x86_forms.specs.Table.{rm, no}
use Rattle.x86_forms.specs.Spelling.{bytes_of, Spells, operands_of, instr_of, rm_width}
use Rattle.guest_asm.specs.declared.assembler.pieces.Pieces.{Pieces}
use Rattle.guest_asm.specs.Places.{mem_can}
use Rattle.guest_asm.specs.Pieces.{number, with_place, with_code, parts_of, marks_can}
use Rattle.guest_asm.specs.Encodable.{reg_can, high_can, register_can, rm_can, imm_can, value_can, pair_can, is_test, is_over8, can_lock, OperandTyped}
use Rattle.guest_asm.specs.Choices.{nothing, plain, behind, number_of, to_place, is_acc, is_short_imm, imm_bytes, alu_number, store_byte, load_byte, acc_byte, group_byte, takes_short, alu_imm, alu_pieces, lock}
use Rattle.guest_asm.proofs.Found.{size_for, tail_for, find_store, find_load, find_acc, find_group, find_short, find_lock_store, find_lock_group, find_lock_short}
use Rattle.guest_asm.proofs.Encodings.{spells_code}
use Rattle.guest_asm.proofs.OperandLemmas.{register_is, digit_below, imm_is, short_imm}
use Rattle.guest_asm.proofs.Forms.{place_form, sized_fit, locked_fit, size_is, v_is, number_small, store_small, load_small, acc_small, group_small}

-- the pieces are a spelling
abbrev pub Written : Instr → Pieces → Type 0
Written i p = Spells i (bytes_of (parts_of p))

-- ---- ADD to CMP, and TEST

alu_store : (no_rex : Bool) (op : AluOp) (w : Width) (dst src : Operand) → marks_can no_rex w ≡ true → rm_can no_rex w dst ≡ true → register_can no_rex w src ≡ true → OperandTyped dst → Written (instr.Alu op w dst src) (with_place no_rex w (plain (store_byte op w)) (number_of src) (to_place dst) nothing)
unfolding instr_of operands_of rm_width tail_len
alu_store no_rex op w dst src mc dc sc dt =
    let s = register_is no_rex w src sc in
    let row = rm Sized (size_for w) Nothing RmReg (kind.Alu op) in
    place_form row no_rex w w (plain (store_byte op w)) (number_of src) dst nothing (instr.Alu op w dst src) refl (find_store op w (number_of src % 8)) (sized_fit row no_rex w false (store_byte op w) nothing refl refl refl (size_is w) refl (store_small op w)) (omega arith) mc s.1 dc dt (λ code. rw s.0 refl)

alu_load : (no_rex : Bool) (op : AluOp) (w : Width) (dst : Operand) (m : Mem) → marks_can no_rex w ≡ true → is_test op ≡ false → register_can no_rex w dst ≡ true → mem_can no_rex m ≡ true → OperandTyped (operand.Mem m) → Written (instr.Alu op w dst (operand.Mem m)) (with_place no_rex w (plain (load_byte op w)) (number_of dst) (to_place (operand.Mem m)) nothing)
unfolding instr_of operands_of rm_width tail_len
alu_load no_rex op w dst m mc tc dc sc st =
    let d = register_is no_rex w dst dc in
    let row = rm Sized (size_for w) Nothing RegRm (kind.Alu op) in
    place_form row no_rex w w (plain (load_byte op w)) (number_of dst) (operand.Mem m) nothing (instr.Alu op w dst (operand.Mem m)) refl (find_load op w (number_of dst % 8) tc) (sized_fit row no_rex w false (load_byte op w) nothing refl refl refl (size_is w) refl (load_small op w)) (omega arith) mc d.1 sc st (λ code. rw d.0 refl)

-- an immediate's bytes are those of its row
pub imm_len : (w : Width) → imm_bytes w ≡ tail_len (tail_for w) w
unfolding tail_len
imm_len W8 = refl
imm_len W16 = refl
imm_len W32 = refl
imm_len W64 = refl

pub imm_small : (w : Width) → imm_bytes w ≤ 4
imm_small W8 = omega arith
imm_small W16 = omega arith
imm_small W32 = omega arith
imm_small W64 = omega arith

pub acc_is : (o : Operand) → is_acc o ≡ true → o ≡ operand.Reg 0
acc_is (operand.Reg r) h = ap operand.Reg (eqb-true r 0 h)
acc_is (operand.High r) h = absurd (both_ways false refl h)
acc_is (operand.Mem m) h = absurd (both_ways false refl h)
acc_is (operand.Imm n) h = absurd (both_ways false refl h)

-- what a short immediate wants of an operation
short_parts : (op : AluOp) (w : Width) (n : ℕ) → takes_short op w n ≡ true → (is_test op ≡ false) × (is_over8 w ≡ true) × (is_short_imm w n ≡ true)
short_parts op w n h =
    let p = and_parts (not (is_test op)) _ h in
    let q = and_parts (is_over8 w) (is_short_imm w n) p.1 in
    (not-true _ p.0, q.0, q.1)

alu_group : (no_rex : Bool) (op : AluOp) (w : Width) (dst : Operand) (n : ℕ) → marks_can no_rex w ≡ true → rm_can no_rex w dst ≡ true → imm_can w n ≡ true → OperandTyped dst → n < 2 ^ 64 → Written (instr.Alu op w dst (operand.Imm n)) (with_place no_rex w (plain (group_byte op w)) (alu_number op) (to_place dst) (number (imm_bytes w) n))
unfolding instr_of operands_of rm_width
alu_group no_rex op w dst n mc dc ic dt nt =
    let small = number_small op in
    let digit : alu_number op % 8 ≡ alu_number op = omega (arith, small) in
    let e = imm_is w n ic nt in
    let row = rm Sized (size_for w) (tail_for w) RmImm (kind.Alu op) in
    place_form row no_rex w w (plain (group_byte op w)) (alu_number op) dst (number (imm_bytes w) n) (instr.Alu op w dst (operand.Imm n)) refl (rw digit (find_group op w)) (sized_fit row no_rex w false (group_byte op w) (number (imm_bytes w) n) refl refl refl (size_is w) (imm_len w) (group_small op w)) (imm_small w) mc (digit_below no_rex (alu_number op) small) dc dt (λ code. rw e refl)

alu_short : (no_rex : Bool) (op : AluOp) (w : Width) (dst : Operand) (n : ℕ) → marks_can no_rex w ≡ true → rm_can no_rex w dst ≡ true → imm_can w n ≡ true → takes_short op w n ≡ true → OperandTyped dst → n < 2 ^ 64 → Written (instr.Alu op w dst (operand.Imm n)) (with_place no_rex w (plain 0x83) (alu_number op) (to_place dst) (number 1 n))
unfolding instr_of operands_of rm_width tail_len
alu_short no_rex op w dst n mc dc ic sc dt nt =
    let p = short_parts op w n sc in
    let small = number_small op in
    let digit : alu_number op % 8 ≡ alu_number op = omega (arith, small) in
    let e = short_imm w n p.1 ic p.2 nt in
    let row = rm Sized V Ib RmImm (kind.Alu op) in
    place_form row no_rex w w (plain 0x83) (alu_number op) dst (number 1 n) (instr.Alu op w dst (operand.Imm n)) refl (rw digit (find_short op p.0)) (sized_fit row no_rex w false 0x83 (number 1 n) refl refl refl (v_is w p.1) refl (omega arith)) (omega arith) mc (digit_below no_rex (alu_number op) small) dc dt (λ code. rw e refl)

alu_acc : (no_rex : Bool) (op : AluOp) (w : Width) (dst : Operand) (n : ℕ) → marks_can no_rex w ≡ true → is_acc dst ≡ true → imm_can w n ≡ true → n < 2 ^ 64 → Written (instr.Alu op w dst (operand.Imm n)) (with_code no_rex w (plain (acc_byte op w)) 0 (number (imm_bytes w) n))
unfolding instr_of operands_of
alu_acc no_rex op w dst n mc ac ic nt =
    let e = imm_is w n ic nt in
    let row = no Sized (size_for w) (tail_for w) AccImm (kind.Alu op) in
    let small = imm_small w in
    subst (λ d. Written (instr.Alu op w d (operand.Imm n)) (with_code no_rex w (plain (acc_byte op w)) 0 (number (imm_bytes w) n))) (sym (acc_is dst ac)) (spells_code row no_rex w w (plain (acc_byte op w)) 0 (number (imm_bytes w) n) (instr.Alu op w (operand.Reg 0) (operand.Imm n)) refl (find_acc op w 0) (sized_fit row no_rex w false (acc_byte op w) (number (imm_bytes w) n) refl refl refl (size_is w) (imm_len w) (acc_small op w)) (omega (arith, small)) mc (digit_below no_rex 0 (omega arith)) (λ r q. rw e refl))

alu_imm_written : (no_rex : Bool) (op : AluOp) (w : Width) (dst : Operand) (n : ℕ) → marks_can no_rex w ≡ true → rm_can no_rex w dst ≡ true → imm_can w n ≡ true → OperandTyped dst → n < 2 ^ 64 → Written (instr.Alu op w dst (operand.Imm n)) (alu_imm no_rex None op w dst n)
alu_imm_written no_rex op w dst n mc dc ic dt nt =
    elim (cases_Bool (takes_short op w n)) [
      | inl t ↦ rw t (alu_short no_rex op w dst n mc dc ic t dt nt)
      | inr f ↦ elim (cases_Bool (is_acc dst)) [
        | inl a ↦ rw (f, a) (alu_acc no_rex op w dst n mc a ic nt)
        | inr g ↦ rw (f, g) (alu_group no_rex op w dst n mc dc ic dt nt)
      ]
    ]

pub alu_written : (no_rex : Bool) (op : AluOp) (w : Width) (dst src : Operand) → OperandTyped dst → OperandTyped src → marks_can no_rex w ≡ true → pair_can no_rex w (not (is_test op)) dst src ≡ true → Written (instr.Alu op w dst src) (alu_pieces no_rex None op w dst src)
alu_written no_rex op w dst (operand.Imm n) dt st mc h = let p = and_parts (rm_can no_rex w dst) (imm_can w n) h in alu_imm_written no_rex op w dst n mc p.0 p.1 dt st
alu_written no_rex op w dst (operand.Mem m) dt st mc h =
    let p = and_parts (not (is_test op)) _ h in
    let q = and_parts (register_can no_rex w dst) (mem_can no_rex m) p.1 in
    alu_load no_rex op w dst m mc (not-true _ p.0) q.0 q.1 st
alu_written no_rex op w dst (operand.Reg r) dt st mc h = let p = and_parts (rm_can no_rex w dst) (reg_can no_rex w r) h in alu_store no_rex op w dst (operand.Reg r) mc p.0 p.1 dt
alu_written no_rex op w dst (operand.High r) dt st mc h = let p = and_parts (rm_can no_rex w dst) (high_can no_rex w r) h in alu_store no_rex op w dst (operand.High r) mc p.0 p.1 dt

-- ---- the same behind F0

lock_store : (no_rex : Bool) (op : AluOp) (w : Width) (m : Mem) (src : Operand) → marks_can no_rex w ≡ true → can_lock op ≡ true → mem_can no_rex m ≡ true → register_can no_rex w src ≡ true → OperandTyped (operand.Mem m) → Written (instr.LockAlu op w m src) (with_place no_rex w (behind lock (store_byte op w)) (number_of src) (to_place (operand.Mem m)) nothing)
unfolding instr_of operands_of rm_width tail_len
lock_store no_rex op w m src mc lc dc sc dt =
    let s = register_is no_rex w src sc in
    let row = rm Locked (size_for w) Nothing RmReg (kind.LockAlu op) in
    place_form row no_rex w w (behind lock (store_byte op w)) (number_of src) (operand.Mem m) nothing (instr.LockAlu op w m src) refl (find_lock_store op w (number_of src % 8) lc) (locked_fit row no_rex w false (store_byte op w) nothing refl refl refl (size_is w) refl (store_small op w)) (omega arith) mc s.1 dc dt (λ code. rw s.0 refl)

lock_group : (no_rex : Bool) (op : AluOp) (w : Width) (m : Mem) (n : ℕ) → marks_can no_rex w ≡ true → can_lock op ≡ true → mem_can no_rex m ≡ true → imm_can w n ≡ true → OperandTyped (operand.Mem m) → n < 2 ^ 64 → Written (instr.LockAlu op w m (operand.Imm n)) (with_place no_rex w (behind lock (group_byte op w)) (alu_number op) (to_place (operand.Mem m)) (number (imm_bytes w) n))
unfolding instr_of operands_of rm_width
lock_group no_rex op w m n mc lc dc ic dt nt =
    let small = number_small op in
    let digit : alu_number op % 8 ≡ alu_number op = omega (arith, small) in
    let e = imm_is w n ic nt in
    let row = rm Locked (size_for w) (tail_for w) RmImm (kind.LockAlu op) in
    place_form row no_rex w w (behind lock (group_byte op w)) (alu_number op) (operand.Mem m) (number (imm_bytes w) n) (instr.LockAlu op w m (operand.Imm n)) refl (rw digit (find_lock_group op w lc)) (locked_fit row no_rex w false (group_byte op w) (number (imm_bytes w) n) refl refl refl (size_is w) (imm_len w) (group_small op w)) (imm_small w) mc (digit_below no_rex (alu_number op) small) dc dt (λ code. rw e refl)

lock_short : (no_rex : Bool) (op : AluOp) (w : Width) (m : Mem) (n : ℕ) → marks_can no_rex w ≡ true → can_lock op ≡ true → mem_can no_rex m ≡ true → imm_can w n ≡ true → takes_short op w n ≡ true → OperandTyped (operand.Mem m) → n < 2 ^ 64 → Written (instr.LockAlu op w m (operand.Imm n)) (with_place no_rex w (behind lock 0x83) (alu_number op) (to_place (operand.Mem m)) (number 1 n))
unfolding instr_of operands_of rm_width tail_len
lock_short no_rex op w m n mc lc dc ic sc dt nt =
    let p = short_parts op w n sc in
    let small = number_small op in
    let digit : alu_number op % 8 ≡ alu_number op = omega (arith, small) in
    let e = short_imm w n p.1 ic p.2 nt in
    let row = rm Locked V Ib RmImm (kind.LockAlu op) in
    place_form row no_rex w w (behind lock 0x83) (alu_number op) (operand.Mem m) (number 1 n) (instr.LockAlu op w m (operand.Imm n)) refl (rw digit (find_lock_short op lc)) (locked_fit row no_rex w false 0x83 (number 1 n) refl refl refl (v_is w p.1) refl (omega arith)) (omega arith) mc (digit_below no_rex (alu_number op) small) dc dt (λ code. rw e refl)

pub lock_written : (no_rex : Bool) (op : AluOp) (w : Width) (m : Mem) (src : Operand) → OperandTyped (operand.Mem m) → OperandTyped src → marks_can no_rex w ≡ true → can_lock op ≡ true → mem_can no_rex m ≡ true → value_can no_rex w src ≡ true → Written (instr.LockAlu op w m src) (alu_pieces no_rex lock op w (operand.Mem m) src)
lock_written no_rex op w m (operand.Reg r) mt st mc lc dc h = lock_store no_rex op w m (operand.Reg r) mc lc dc h mt
lock_written no_rex op w m (operand.High r) mt st mc lc dc h = lock_store no_rex op w m (operand.High r) mc lc dc h mt
lock_written no_rex op w m (operand.Mem o) mt st mc lc dc h = absurd (both_ways false refl h)
lock_written no_rex op w m (operand.Imm n) mt st mc lc dc h =
    elim (cases_Bool (takes_short op w n)) [
      | inl t ↦ rw t (lock_short no_rex op w m n mc lc dc h t mt st)
      | inr f ↦ rw f (lock_group no_rex op w m n mc lc dc h mt st)
    ]
