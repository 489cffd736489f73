-- Which row of the table is found for each opcode that the assembler writes.
use Rattle.std.proofs.Common.{◌≡◌, ℕ, zero, suc, ◌+◌, ◌%◌, ◌<◌, Bool, true, false, cond, Some, refl, arith}
use Rattle.std.specs.Prelude.{nat_eq}
use Rattle.std.proofs.lemmas.Bool.{both_ways}
use Rattle.x86_forms.specs.declared.operands.Width.{Width}
use Rattle.x86_forms.specs.declared.operands.Width.TheVariants.{W8, W16, W32, W64}
use Rattle.x86_forms.specs.declared.conditions.Cond.{Cond}
use Rattle.x86_forms.specs.declared.conditions.Cond.TheVariants as condition
use Rattle.x86_forms.specs.declared.instructions.AluOp.{AluOp}
use Rattle.x86_forms.specs.declared.instructions.AluOp.TheVariants as alu
use Rattle.x86_forms.specs.declared.instructions.OneOp.{OneOp}
use Rattle.x86_forms.specs.declared.instructions.OneOp.TheVariants as one
use Rattle.x86_forms.specs.declared.instructions.ShiftOp.{ShiftOp}
use Rattle.x86_forms.specs.declared.instructions.ShiftOp.TheVariants.{Shl, Shr, Sar, Rol, Ror}
use Rattle.x86_forms.specs.declared.rows.Prefixes.TheVariants.{Sized, Bare, Locked, Track}
use Rattle.x86_forms.specs.declared.rows.Rex.TheVariants as rex
use Rattle.x86_forms.specs.declared.rows.Size.{Size}
use Rattle.x86_forms.specs.declared.rows.Size.TheVariants.{B, V, D, Q}
use Rattle.x86_forms.specs.declared.rows.Tail.{Tail}
use Rattle.x86_forms.specs.declared.rows.Tail.TheVariants.{Nothing, Ib, Iz, Iv, Iw, Rel8, Rel32}
use Rattle.x86_forms.specs.declared.rows.Shape.TheVariants.{RmReg, RegRm, RmImm, AccImm, CodeImm, CodeAcc, Rm, Imm}
use Rattle.x86_forms.specs.declared.rows.Kind.TheVariants as kind
use Rattle.x86_forms.specs.declared.rows.Row.{Row}
use Rattle.x86_forms.specs.Table.{table, rm, no, asking}
use Rattle.x86_forms.specs.Spelling.{mark_of, covers}
use Rattle.x86_forms.specs.Reading.{find_line, find_row}
use Rattle.guest_asm.specs.Encodable.{is_test, can_lock, can_lock_one, is_wide, shift_can}
use Rattle.guest_asm.specs.Choices.{wide_bit, alu_number, store_byte, load_byte, acc_byte, group_byte, one_byte, one_number, shift_number, cond_code}

-- A row is found by the opcode and the reg field, whatever REX.B is.
pub record Finds (row : Row) (escape : Bool) (op reg : ℕ) : Type 0 where
  pub zero_b : find_row (mark_of row.prefixes) 0 escape op reg ≡ Some row
  pub one_b : find_row (mark_of row.prefixes) 1 escape op reg ≡ Some row

pub found_at : (row : Row) (escape : Bool) (op reg b : ℕ) → Finds row escape op reg → b < 2 → find_row (mark_of row.prefixes) b escape op reg ≡ Some row
found_at row escape op reg zero f h = f.zero_b
found_at row escape op reg (suc zero) f h = f.one_b
found_at row escape op reg (suc (suc n)) f h = absurd (omega (arith, h))

-- 8 bits by one row, and the other widths by the next
abbrev pub size_for : Width → Size
size_for W8 = B
size_for W16 = V
size_for W32 = V
size_for W64 = V

pub by_width : (P : ℕ → Size → Type 0) → P 0 B → P 1 V → (w : Width) → P (wide_bit w) (size_for w)
by_width P b v W8 = b
by_width P b v W16 = v
by_width P b v W32 = v
by_width P b v W64 = v

-- ---- ADD to CMP, and TEST

pub find_store : (op : AluOp) (w : Width) (n : ℕ) → Finds (rm Sized (size_for w) Nothing RmReg (kind.Alu op)) false (store_byte op w) n
unfolding table covers find_line find_row
find_store alu.Add w n = by_width (λ k z. Finds (rm Sized z Nothing RmReg (kind.Alu alu.Add)) false (0 + k) n) (record { zero_b = refl; one_b = refl }) (record { zero_b = refl; one_b = refl }) w
find_store alu.Or w n = by_width (λ k z. Finds (rm Sized z Nothing RmReg (kind.Alu alu.Or)) false (8 + k) n) (record { zero_b = refl; one_b = refl }) (record { zero_b = refl; one_b = refl }) w
find_store alu.Adc w n = by_width (λ k z. Finds (rm Sized z Nothing RmReg (kind.Alu alu.Adc)) false (16 + k) n) (record { zero_b = refl; one_b = refl }) (record { zero_b = refl; one_b = refl }) w
find_store alu.Sbb w n = by_width (λ k z. Finds (rm Sized z Nothing RmReg (kind.Alu alu.Sbb)) false (24 + k) n) (record { zero_b = refl; one_b = refl }) (record { zero_b = refl; one_b = refl }) w
find_store alu.And w n = by_width (λ k z. Finds (rm Sized z Nothing RmReg (kind.Alu alu.And)) false (32 + k) n) (record { zero_b = refl; one_b = refl }) (record { zero_b = refl; one_b = refl }) w
find_store alu.Sub w n = by_width (λ k z. Finds (rm Sized z Nothing RmReg (kind.Alu alu.Sub)) false (40 + k) n) (record { zero_b = refl; one_b = refl }) (record { zero_b = refl; one_b = refl }) w
find_store alu.Xor w n = by_width (λ k z. Finds (rm Sized z Nothing RmReg (kind.Alu alu.Xor)) false (48 + k) n) (record { zero_b = refl; one_b = refl }) (record { zero_b = refl; one_b = refl }) w
find_store alu.Cmp w n = by_width (λ k z. Finds (rm Sized z Nothing RmReg (kind.Alu alu.Cmp)) false (56 + k) n) (record { zero_b = refl; one_b = refl }) (record { zero_b = refl; one_b = refl }) w
find_store alu.Test w n = by_width (λ k z. Finds (rm Sized z Nothing RmReg (kind.Alu alu.Test)) false (0x84 + k) n) (record { zero_b = refl; one_b = refl }) (record { zero_b = refl; one_b = refl }) w

pub find_load : (op : AluOp) (w : Width) (n : ℕ) → is_test op ≡ false → Finds (rm Sized (size_for w) Nothing RegRm (kind.Alu op)) false (load_byte op w) n
unfolding table covers find_line find_row
find_load alu.Add w n t = by_width (λ k z. Finds (rm Sized z Nothing RegRm (kind.Alu alu.Add)) false (2 + k) n) (record { zero_b = refl; one_b = refl }) (record { zero_b = refl; one_b = refl }) w
find_load alu.Or w n t = by_width (λ k z. Finds (rm Sized z Nothing RegRm (kind.Alu alu.Or)) false (10 + k) n) (record { zero_b = refl; one_b = refl }) (record { zero_b = refl; one_b = refl }) w
find_load alu.Adc w n t = by_width (λ k z. Finds (rm Sized z Nothing RegRm (kind.Alu alu.Adc)) false (18 + k) n) (record { zero_b = refl; one_b = refl }) (record { zero_b = refl; one_b = refl }) w
find_load alu.Sbb w n t = by_width (λ k z. Finds (rm Sized z Nothing RegRm (kind.Alu alu.Sbb)) false (26 + k) n) (record { zero_b = refl; one_b = refl }) (record { zero_b = refl; one_b = refl }) w
find_load alu.And w n t = by_width (λ k z. Finds (rm Sized z Nothing RegRm (kind.Alu alu.And)) false (34 + k) n) (record { zero_b = refl; one_b = refl }) (record { zero_b = refl; one_b = refl }) w
find_load alu.Sub w n t = by_width (λ k z. Finds (rm Sized z Nothing RegRm (kind.Alu alu.Sub)) false (42 + k) n) (record { zero_b = refl; one_b = refl }) (record { zero_b = refl; one_b = refl }) w
find_load alu.Xor w n t = by_width (λ k z. Finds (rm Sized z Nothing RegRm (kind.Alu alu.Xor)) false (50 + k) n) (record { zero_b = refl; one_b = refl }) (record { zero_b = refl; one_b = refl }) w
find_load alu.Cmp w n t = by_width (λ k z. Finds (rm Sized z Nothing RegRm (kind.Alu alu.Cmp)) false (58 + k) n) (record { zero_b = refl; one_b = refl }) (record { zero_b = refl; one_b = refl }) w
find_load alu.Test w n t = absurd (both_ways true t refl)

abbrev pub tail_for : Width → Tail
tail_for W8 = Ib
tail_for W16 = Iz
tail_for W32 = Iz
tail_for W64 = Iz

by_tail : (P : ℕ → Size → Tail → Type 0) → P 0 B Ib → P 1 V Iz → (w : Width) → P (wide_bit w) (size_for w) (tail_for w)
by_tail P b v W8 = b
by_tail P b v W16 = v
by_tail P b v W32 = v
by_tail P b v W64 = v

pub find_acc : (op : AluOp) (w : Width) (n : ℕ) → Finds (no Sized (size_for w) (tail_for w) AccImm (kind.Alu op)) false (acc_byte op w) n
unfolding table covers find_line find_row
find_acc alu.Add w n = by_tail (λ k z t. Finds (no Sized z t AccImm (kind.Alu alu.Add)) false (4 + k) n) (record { zero_b = refl; one_b = refl }) (record { zero_b = refl; one_b = refl }) w
find_acc alu.Or w n = by_tail (λ k z t. Finds (no Sized z t AccImm (kind.Alu alu.Or)) false (12 + k) n) (record { zero_b = refl; one_b = refl }) (record { zero_b = refl; one_b = refl }) w
find_acc alu.Adc w n = by_tail (λ k z t. Finds (no Sized z t AccImm (kind.Alu alu.Adc)) false (20 + k) n) (record { zero_b = refl; one_b = refl }) (record { zero_b = refl; one_b = refl }) w
find_acc alu.Sbb w n = by_tail (λ k z t. Finds (no Sized z t AccImm (kind.Alu alu.Sbb)) false (28 + k) n) (record { zero_b = refl; one_b = refl }) (record { zero_b = refl; one_b = refl }) w
find_acc alu.And w n = by_tail (λ k z t. Finds (no Sized z t AccImm (kind.Alu alu.And)) false (36 + k) n) (record { zero_b = refl; one_b = refl }) (record { zero_b = refl; one_b = refl }) w
find_acc alu.Sub w n = by_tail (λ k z t. Finds (no Sized z t AccImm (kind.Alu alu.Sub)) false (44 + k) n) (record { zero_b = refl; one_b = refl }) (record { zero_b = refl; one_b = refl }) w
find_acc alu.Xor w n = by_tail (λ k z t. Finds (no Sized z t AccImm (kind.Alu alu.Xor)) false (52 + k) n) (record { zero_b = refl; one_b = refl }) (record { zero_b = refl; one_b = refl }) w
find_acc alu.Cmp w n = by_tail (λ k z t. Finds (no Sized z t AccImm (kind.Alu alu.Cmp)) false (60 + k) n) (record { zero_b = refl; one_b = refl }) (record { zero_b = refl; one_b = refl }) w
find_acc alu.Test w n = by_tail (λ k z t. Finds (no Sized z t AccImm (kind.Alu alu.Test)) false (0xA8 + k) n) (record { zero_b = refl; one_b = refl }) (record { zero_b = refl; one_b = refl }) w

pub find_group : (op : AluOp) (w : Width) → Finds (rm Sized (size_for w) (tail_for w) RmImm (kind.Alu op)) false (group_byte op w) (alu_number op)
unfolding table covers find_line find_row
find_group alu.Add w = by_tail (λ k z t. Finds (rm Sized z t RmImm (kind.Alu alu.Add)) false (0x80 + k) 0) (record { zero_b = refl; one_b = refl }) (record { zero_b = refl; one_b = refl }) w
find_group alu.Or w = by_tail (λ k z t. Finds (rm Sized z t RmImm (kind.Alu alu.Or)) false (0x80 + k) 1) (record { zero_b = refl; one_b = refl }) (record { zero_b = refl; one_b = refl }) w
find_group alu.Adc w = by_tail (λ k z t. Finds (rm Sized z t RmImm (kind.Alu alu.Adc)) false (0x80 + k) 2) (record { zero_b = refl; one_b = refl }) (record { zero_b = refl; one_b = refl }) w
find_group alu.Sbb w = by_tail (λ k z t. Finds (rm Sized z t RmImm (kind.Alu alu.Sbb)) false (0x80 + k) 3) (record { zero_b = refl; one_b = refl }) (record { zero_b = refl; one_b = refl }) w
find_group alu.And w = by_tail (λ k z t. Finds (rm Sized z t RmImm (kind.Alu alu.And)) false (0x80 + k) 4) (record { zero_b = refl; one_b = refl }) (record { zero_b = refl; one_b = refl }) w
find_group alu.Sub w = by_tail (λ k z t. Finds (rm Sized z t RmImm (kind.Alu alu.Sub)) false (0x80 + k) 5) (record { zero_b = refl; one_b = refl }) (record { zero_b = refl; one_b = refl }) w
find_group alu.Xor w = by_tail (λ k z t. Finds (rm Sized z t RmImm (kind.Alu alu.Xor)) false (0x80 + k) 6) (record { zero_b = refl; one_b = refl }) (record { zero_b = refl; one_b = refl }) w
find_group alu.Cmp w = by_tail (λ k z t. Finds (rm Sized z t RmImm (kind.Alu alu.Cmp)) false (0x80 + k) 7) (record { zero_b = refl; one_b = refl }) (record { zero_b = refl; one_b = refl }) w
find_group alu.Test w = by_tail (λ k z t. Finds (rm Sized z t RmImm (kind.Alu alu.Test)) false (0xF6 + k) 0) (record { zero_b = refl; one_b = refl }) (record { zero_b = refl; one_b = refl }) w

pub find_short : (op : AluOp) → is_test op ≡ false → Finds (rm Sized V Ib RmImm (kind.Alu op)) false 0x83 (alu_number op)
unfolding table covers find_line find_row
find_short alu.Add t = record { zero_b = refl; one_b = refl }
find_short alu.Or t = record { zero_b = refl; one_b = refl }
find_short alu.Adc t = record { zero_b = refl; one_b = refl }
find_short alu.Sbb t = record { zero_b = refl; one_b = refl }
find_short alu.And t = record { zero_b = refl; one_b = refl }
find_short alu.Sub t = record { zero_b = refl; one_b = refl }
find_short alu.Xor t = record { zero_b = refl; one_b = refl }
find_short alu.Cmp t = record { zero_b = refl; one_b = refl }
find_short alu.Test t = absurd (both_ways true t refl)

-- ---- behind F0

pub find_lock_store : (op : AluOp) (w : Width) (n : ℕ) → can_lock op ≡ true → Finds (rm Locked (size_for w) Nothing RmReg (kind.LockAlu op)) false (store_byte op w) n
unfolding table covers find_line find_row
find_lock_store alu.Add w n t = by_width (λ k z. Finds (rm Locked z Nothing RmReg (kind.LockAlu alu.Add)) false (0 + k) n) (record { zero_b = refl; one_b = refl }) (record { zero_b = refl; one_b = refl }) w
find_lock_store alu.Or w n t = by_width (λ k z. Finds (rm Locked z Nothing RmReg (kind.LockAlu alu.Or)) false (8 + k) n) (record { zero_b = refl; one_b = refl }) (record { zero_b = refl; one_b = refl }) w
find_lock_store alu.Adc w n t = absurd (both_ways false refl t)
find_lock_store alu.Sbb w n t = absurd (both_ways false refl t)
find_lock_store alu.And w n t = by_width (λ k z. Finds (rm Locked z Nothing RmReg (kind.LockAlu alu.And)) false (32 + k) n) (record { zero_b = refl; one_b = refl }) (record { zero_b = refl; one_b = refl }) w
find_lock_store alu.Sub w n t = by_width (λ k z. Finds (rm Locked z Nothing RmReg (kind.LockAlu alu.Sub)) false (40 + k) n) (record { zero_b = refl; one_b = refl }) (record { zero_b = refl; one_b = refl }) w
find_lock_store alu.Xor w n t = by_width (λ k z. Finds (rm Locked z Nothing RmReg (kind.LockAlu alu.Xor)) false (48 + k) n) (record { zero_b = refl; one_b = refl }) (record { zero_b = refl; one_b = refl }) w
find_lock_store alu.Cmp w n t = absurd (both_ways false refl t)
find_lock_store alu.Test w n t = absurd (both_ways false refl t)

pub find_lock_group : (op : AluOp) (w : Width) → can_lock op ≡ true → Finds (rm Locked (size_for w) (tail_for w) RmImm (kind.LockAlu op)) false (group_byte op w) (alu_number op)
unfolding table covers find_line find_row
find_lock_group alu.Add w t = by_tail (λ k z t. Finds (rm Locked z t RmImm (kind.LockAlu alu.Add)) false (0x80 + k) 0) (record { zero_b = refl; one_b = refl }) (record { zero_b = refl; one_b = refl }) w
find_lock_group alu.Or w t = by_tail (λ k z t. Finds (rm Locked z t RmImm (kind.LockAlu alu.Or)) false (0x80 + k) 1) (record { zero_b = refl; one_b = refl }) (record { zero_b = refl; one_b = refl }) w
find_lock_group alu.Adc w t = absurd (both_ways false refl t)
find_lock_group alu.Sbb w t = absurd (both_ways false refl t)
find_lock_group alu.And w t = by_tail (λ k z t. Finds (rm Locked z t RmImm (kind.LockAlu alu.And)) false (0x80 + k) 4) (record { zero_b = refl; one_b = refl }) (record { zero_b = refl; one_b = refl }) w
find_lock_group alu.Sub w t = by_tail (λ k z t. Finds (rm Locked z t RmImm (kind.LockAlu alu.Sub)) false (0x80 + k) 5) (record { zero_b = refl; one_b = refl }) (record { zero_b = refl; one_b = refl }) w
find_lock_group alu.Xor w t = by_tail (λ k z t. Finds (rm Locked z t RmImm (kind.LockAlu alu.Xor)) false (0x80 + k) 6) (record { zero_b = refl; one_b = refl }) (record { zero_b = refl; one_b = refl }) w
find_lock_group alu.Cmp w t = absurd (both_ways false refl t)
find_lock_group alu.Test w t = absurd (both_ways false refl t)

pub find_lock_short : (op : AluOp) → can_lock op ≡ true → Finds (rm Locked V Ib RmImm (kind.LockAlu op)) false 0x83 (alu_number op)
unfolding table covers find_line find_row
find_lock_short alu.Add t = record { zero_b = refl; one_b = refl }
find_lock_short alu.Or t = record { zero_b = refl; one_b = refl }
find_lock_short alu.Adc t = absurd (both_ways false refl t)
find_lock_short alu.Sbb t = absurd (both_ways false refl t)
find_lock_short alu.And t = record { zero_b = refl; one_b = refl }
find_lock_short alu.Sub t = record { zero_b = refl; one_b = refl }
find_lock_short alu.Xor t = record { zero_b = refl; one_b = refl }
find_lock_short alu.Cmp t = absurd (both_ways false refl t)
find_lock_short alu.Test t = absurd (both_ways false refl t)

pub find_lock_one : (op : OneOp) (w : Width) → can_lock_one op ≡ true → Finds (rm Locked (size_for w) Nothing Rm (kind.LockOne op)) false (one_byte op + wide_bit w) (one_number op)
unfolding table covers find_line find_row
find_lock_one one.Inc w t = by_width (λ k z. Finds (rm Locked z Nothing Rm (kind.LockOne one.Inc)) false (0xFE + k) 0) (record { zero_b = refl; one_b = refl }) (record { zero_b = refl; one_b = refl }) w
find_lock_one one.Dec w t = by_width (λ k z. Finds (rm Locked z Nothing Rm (kind.LockOne one.Dec)) false (0xFE + k) 1) (record { zero_b = refl; one_b = refl }) (record { zero_b = refl; one_b = refl }) w
find_lock_one one.Not w t = absurd (both_ways false refl t)
find_lock_one one.Neg w t = absurd (both_ways false refl t)

pub find_xadd : (w : Width) (n : ℕ) → Finds (rm Locked (size_for w) Nothing RmReg kind.Xadd) true (0xC0 + wide_bit w) n
unfolding table covers find_line find_row
find_xadd w n = by_width (λ k z. Finds (rm Locked z Nothing RmReg kind.Xadd) true (0xC0 + k) n) (record { zero_b = refl; one_b = refl }) (record { zero_b = refl; one_b = refl }) w

pub find_cmpxchg : (w : Width) (n : ℕ) → Finds (rm Locked (size_for w) Nothing RmReg kind.Cmpxchg) true (0xB0 + wide_bit w) n
unfolding table covers find_line find_row
find_cmpxchg w n = by_width (λ k z. Finds (rm Locked z Nothing RmReg kind.Cmpxchg) true (0xB0 + k) n) (record { zero_b = refl; one_b = refl }) (record { zero_b = refl; one_b = refl }) w

-- ---- MOV and XCHG

pub find_mov_store : (w : Width) (n : ℕ) → Finds (rm Sized (size_for w) Nothing RmReg kind.Mov) false (0x88 + wide_bit w) n
unfolding table covers find_line find_row
find_mov_store w n = by_width (λ k z. Finds (rm Sized z Nothing RmReg kind.Mov) false (0x88 + k) n) (record { zero_b = refl; one_b = refl }) (record { zero_b = refl; one_b = refl }) w

pub find_mov_load : (w : Width) (n : ℕ) → Finds (rm Sized (size_for w) Nothing RegRm kind.Mov) false (0x8A + wide_bit w) n
unfolding table covers find_line find_row
find_mov_load w n = by_width (λ k z. Finds (rm Sized z Nothing RegRm kind.Mov) false (0x8A + k) n) (record { zero_b = refl; one_b = refl }) (record { zero_b = refl; one_b = refl }) w

pub find_xchg : (w : Width) (n : ℕ) → Finds (rm Sized (size_for w) Nothing RmReg kind.Xchg) false (0x86 + wide_bit w) n
unfolding table covers find_line find_row
find_xchg w n = by_width (λ k z. Finds (rm Sized z Nothing RmReg kind.Xchg) false (0x86 + k) n) (record { zero_b = refl; one_b = refl }) (record { zero_b = refl; one_b = refl }) w

pub find_mov_imm : (w : Width) → Finds (rm Sized (size_for w) (tail_for w) RmImm kind.Mov) false (0xC6 + wide_bit w) 0
unfolding table covers find_line find_row
find_mov_imm w = by_tail (λ k z t. Finds (rm Sized z t RmImm kind.Mov) false (0xC6 + k) 0) (record { zero_b = refl; one_b = refl }) (record { zero_b = refl; one_b = refl }) w

-- ---- one operand

pub find_one : (op : OneOp) (w : Width) → Finds (rm Sized (size_for w) Nothing Rm (kind.One op)) false (one_byte op + wide_bit w) (one_number op)
unfolding table covers find_line find_row
find_one one.Inc w = by_width (λ k z. Finds (rm Sized z Nothing Rm (kind.One one.Inc)) false (0xFE + k) 0) (record { zero_b = refl; one_b = refl }) (record { zero_b = refl; one_b = refl }) w
find_one one.Dec w = by_width (λ k z. Finds (rm Sized z Nothing Rm (kind.One one.Dec)) false (0xFE + k) 1) (record { zero_b = refl; one_b = refl }) (record { zero_b = refl; one_b = refl }) w
find_one one.Not w = by_width (λ k z. Finds (rm Sized z Nothing Rm (kind.One one.Not)) false (0xF6 + k) 2) (record { zero_b = refl; one_b = refl }) (record { zero_b = refl; one_b = refl }) w
find_one one.Neg w = by_width (λ k z. Finds (rm Sized z Nothing Rm (kind.One one.Neg)) false (0xF6 + k) 3) (record { zero_b = refl; one_b = refl }) (record { zero_b = refl; one_b = refl }) w

-- ROL and ROR have rows without 16 bits
abbrev pub shift_size : ShiftOp → Width → Size
shift_size Shl w = size_for w
shift_size Shr w = size_for w
shift_size Sar w = size_for w
shift_size Rol w = D
shift_size Ror w = D

by_wide : (P : ℕ → Size → Type 0) → P 1 D → (w : Width) → is_wide w ≡ true → P (wide_bit w) D
by_wide P d W8 h = absurd (both_ways false refl h)
by_wide P d W16 h = absurd (both_ways false refl h)
by_wide P d W32 h = d
by_wide P d W64 h = d

pub find_shift_by : (op : ShiftOp) (w : Width) → shift_can op w ≡ true → Finds (rm Sized (shift_size op w) Ib Rm (kind.ShiftBy op)) false (0xC0 + wide_bit w) (shift_number op)
unfolding table covers find_line find_row
find_shift_by Shl w h = by_width (λ k z. Finds (rm Sized z Ib Rm (kind.ShiftBy Shl)) false (0xC0 + k) 4) (record { zero_b = refl; one_b = refl }) (record { zero_b = refl; one_b = refl }) w
find_shift_by Shr w h = by_width (λ k z. Finds (rm Sized z Ib Rm (kind.ShiftBy Shr)) false (0xC0 + k) 5) (record { zero_b = refl; one_b = refl }) (record { zero_b = refl; one_b = refl }) w
find_shift_by Sar w h = by_width (λ k z. Finds (rm Sized z Ib Rm (kind.ShiftBy Sar)) false (0xC0 + k) 7) (record { zero_b = refl; one_b = refl }) (record { zero_b = refl; one_b = refl }) w
find_shift_by Rol w h = by_wide (λ k z. Finds (rm Sized z Ib Rm (kind.ShiftBy Rol)) false (0xC0 + k) 0) (record { zero_b = refl; one_b = refl }) w h
find_shift_by Ror w h = by_wide (λ k z. Finds (rm Sized z Ib Rm (kind.ShiftBy Ror)) false (0xC0 + k) 1) (record { zero_b = refl; one_b = refl }) w h

pub find_shift_once : (op : ShiftOp) (w : Width) → shift_can op w ≡ true → Finds (rm Sized (shift_size op w) Nothing Rm (kind.ShiftOne op)) false (0xD0 + wide_bit w) (shift_number op)
unfolding table covers find_line find_row
find_shift_once Shl w h = by_width (λ k z. Finds (rm Sized z Nothing Rm (kind.ShiftOne Shl)) false (0xD0 + k) 4) (record { zero_b = refl; one_b = refl }) (record { zero_b = refl; one_b = refl }) w
find_shift_once Shr w h = by_width (λ k z. Finds (rm Sized z Nothing Rm (kind.ShiftOne Shr)) false (0xD0 + k) 5) (record { zero_b = refl; one_b = refl }) (record { zero_b = refl; one_b = refl }) w
find_shift_once Sar w h = by_width (λ k z. Finds (rm Sized z Nothing Rm (kind.ShiftOne Sar)) false (0xD0 + k) 7) (record { zero_b = refl; one_b = refl }) (record { zero_b = refl; one_b = refl }) w
find_shift_once Rol w h = by_wide (λ k z. Finds (rm Sized z Nothing Rm (kind.ShiftOne Rol)) false (0xD0 + k) 0) (record { zero_b = refl; one_b = refl }) w h
find_shift_once Ror w h = by_wide (λ k z. Finds (rm Sized z Nothing Rm (kind.ShiftOne Ror)) false (0xD0 + k) 1) (record { zero_b = refl; one_b = refl }) w h

pub find_shift_cl : (op : ShiftOp) (w : Width) → shift_can op w ≡ true → Finds (rm Sized (shift_size op w) Nothing Rm (kind.ShiftCl op)) false (0xD2 + wide_bit w) (shift_number op)
unfolding table covers find_line find_row
find_shift_cl Shl w h = by_width (λ k z. Finds (rm Sized z Nothing Rm (kind.ShiftCl Shl)) false (0xD2 + k) 4) (record { zero_b = refl; one_b = refl }) (record { zero_b = refl; one_b = refl }) w
find_shift_cl Shr w h = by_width (λ k z. Finds (rm Sized z Nothing Rm (kind.ShiftCl Shr)) false (0xD2 + k) 5) (record { zero_b = refl; one_b = refl }) (record { zero_b = refl; one_b = refl }) w
find_shift_cl Sar w h = by_width (λ k z. Finds (rm Sized z Nothing Rm (kind.ShiftCl Sar)) false (0xD2 + k) 7) (record { zero_b = refl; one_b = refl }) (record { zero_b = refl; one_b = refl }) w
find_shift_cl Rol w h = by_wide (λ k z. Finds (rm Sized z Nothing Rm (kind.ShiftCl Rol)) false (0xD2 + k) 0) (record { zero_b = refl; one_b = refl }) w h
find_shift_cl Ror w h = by_wide (λ k z. Finds (rm Sized z Nothing Rm (kind.ShiftCl Ror)) false (0xD2 + k) 1) (record { zero_b = refl; one_b = refl }) w h

-- ---- rows of one opcode

pub find_zx8 : (n : ℕ) → Finds (rm Sized V Nothing RegRm (kind.Zx W8)) true 0xB6 n
unfolding table covers find_line find_row
find_zx8 n = record { zero_b = refl; one_b = refl }

pub find_zx16 : (n : ℕ) → Finds (rm Sized D Nothing RegRm (kind.Zx W16)) true 0xB7 n
unfolding table covers find_line find_row
find_zx16 n = record { zero_b = refl; one_b = refl }

pub find_sx8 : (n : ℕ) → Finds (rm Sized V Nothing RegRm (kind.Sx W8)) true 0xBE n
unfolding table covers find_line find_row
find_sx8 n = record { zero_b = refl; one_b = refl }

pub find_sx16 : (n : ℕ) → Finds (rm Sized D Nothing RegRm (kind.Sx W16)) true 0xBF n
unfolding table covers find_line find_row
find_sx16 n = record { zero_b = refl; one_b = refl }

pub find_sx32 : (n : ℕ) → Finds (asking rex.Wide (rm Sized V Nothing RegRm (kind.Sx W32))) false 0x63 n
unfolding table covers find_line find_row
find_sx32 n = record { zero_b = refl; one_b = refl }

pub find_lea : (n : ℕ) → Finds (rm Sized V Nothing RegRm kind.Lea) false 0x8D n
unfolding table covers find_line find_row
find_lea n = record { zero_b = refl; one_b = refl }

pub find_push : Finds (rm Bare Q Nothing Rm kind.Push) false 0xFF 6
unfolding table covers find_line find_row
find_push = record { zero_b = refl; one_b = refl }

pub find_push8 : (n : ℕ) → Finds (no Bare Q Ib Imm kind.Push) false 0x6A n
unfolding table covers find_line find_row
find_push8 n = record { zero_b = refl; one_b = refl }

pub find_push32 : (n : ℕ) → Finds (no Bare Q Iz Imm kind.Push) false 0x68 n
unfolding table covers find_line find_row
find_push32 n = record { zero_b = refl; one_b = refl }

pub find_imul : (n : ℕ) → Finds (rm Sized D Nothing RegRm kind.ImulTwo) true 0xAF n
unfolding table covers find_line find_row
find_imul n = record { zero_b = refl; one_b = refl }

pub find_imul8 : (n : ℕ) → Finds (rm Sized D Ib RegRm kind.ImulThree) false 0x6B n
unfolding table covers find_line find_row
find_imul8 n = record { zero_b = refl; one_b = refl }

pub find_imul32 : (n : ℕ) → Finds (rm Sized D Iz RegRm kind.ImulThree) false 0x69 n
unfolding table covers find_line find_row
find_imul32 n = record { zero_b = refl; one_b = refl }

pub find_widen : (n : ℕ) → Finds (no Sized D Nothing Imm kind.Widen) false 0x98 n
unfolding table covers find_line find_row
find_widen n = record { zero_b = refl; one_b = refl }

pub find_spread : (n : ℕ) → Finds (no Sized D Nothing Imm kind.Spread) false 0x99 n
unfolding table covers find_line find_row
find_spread n = record { zero_b = refl; one_b = refl }

pub find_jmp8 : (n : ℕ) → Finds (no Bare Q Rel8 Imm kind.Jmp) false 0xEB n
unfolding table covers find_line find_row
find_jmp8 n = record { zero_b = refl; one_b = refl }

pub find_jmp32 : (n : ℕ) → Finds (no Bare Q Rel32 Imm kind.Jmp) false 0xE9 n
unfolding table covers find_line find_row
find_jmp32 n = record { zero_b = refl; one_b = refl }

pub find_call : (n : ℕ) → Finds (no Bare Q Rel32 Imm kind.Call) false 0xE8 n
unfolding table covers find_line find_row
find_call n = record { zero_b = refl; one_b = refl }

pub find_jmp_to : Finds (rm Track Q Nothing Rm kind.JmpTo) false 0xFF 4
unfolding table covers find_line find_row
find_jmp_to = record { zero_b = refl; one_b = refl }

pub find_call_to : Finds (rm Track Q Nothing Rm kind.CallTo) false 0xFF 2
unfolding table covers find_line find_row
find_call_to = record { zero_b = refl; one_b = refl }

pub find_ret : (n : ℕ) → Finds (asking rex.Absent (no Bare Q Iw Imm kind.Ret)) false 0xC2 n
unfolding table covers find_line find_row
find_ret n = record { zero_b = refl; one_b = refl }

pub find_mul : (signed : Bool) → Finds (rm Sized D Nothing Rm (kind.Mul signed)) false 0xF7 (cond signed 5 4)
unfolding table covers find_line find_row
find_mul true = record { zero_b = refl; one_b = refl }
find_mul false = record { zero_b = refl; one_b = refl }

pub find_div : (signed : Bool) → Finds (rm Sized D Nothing Rm (kind.Div signed)) false 0xF7 (cond signed 7 6)
unfolding table covers find_line find_row
find_div true = record { zero_b = refl; one_b = refl }
find_div false = record { zero_b = refl; one_b = refl }

-- ---- rows of one opcode for each condition

pub find_jcc8 : (c : Cond) (n : ℕ) → Finds (no Bare Q Rel8 Imm kind.Jcc) false (0x70 + cond_code c) n
unfolding table covers find_line find_row
find_jcc8 condition.O n = record { zero_b = refl; one_b = refl }
find_jcc8 condition.No n = record { zero_b = refl; one_b = refl }
find_jcc8 condition.B n = record { zero_b = refl; one_b = refl }
find_jcc8 condition.Ae n = record { zero_b = refl; one_b = refl }
find_jcc8 condition.E n = record { zero_b = refl; one_b = refl }
find_jcc8 condition.Ne n = record { zero_b = refl; one_b = refl }
find_jcc8 condition.Be n = record { zero_b = refl; one_b = refl }
find_jcc8 condition.A n = record { zero_b = refl; one_b = refl }
find_jcc8 condition.S n = record { zero_b = refl; one_b = refl }
find_jcc8 condition.Ns n = record { zero_b = refl; one_b = refl }
find_jcc8 condition.P n = record { zero_b = refl; one_b = refl }
find_jcc8 condition.Np n = record { zero_b = refl; one_b = refl }
find_jcc8 condition.L n = record { zero_b = refl; one_b = refl }
find_jcc8 condition.Ge n = record { zero_b = refl; one_b = refl }
find_jcc8 condition.Le n = record { zero_b = refl; one_b = refl }
find_jcc8 condition.G n = record { zero_b = refl; one_b = refl }

pub find_jcc32 : (c : Cond) (n : ℕ) → Finds (no Bare Q Rel32 Imm kind.Jcc) true (0x80 + cond_code c) n
unfolding table covers find_line find_row
find_jcc32 condition.O n = record { zero_b = refl; one_b = refl }
find_jcc32 condition.No n = record { zero_b = refl; one_b = refl }
find_jcc32 condition.B n = record { zero_b = refl; one_b = refl }
find_jcc32 condition.Ae n = record { zero_b = refl; one_b = refl }
find_jcc32 condition.E n = record { zero_b = refl; one_b = refl }
find_jcc32 condition.Ne n = record { zero_b = refl; one_b = refl }
find_jcc32 condition.Be n = record { zero_b = refl; one_b = refl }
find_jcc32 condition.A n = record { zero_b = refl; one_b = refl }
find_jcc32 condition.S n = record { zero_b = refl; one_b = refl }
find_jcc32 condition.Ns n = record { zero_b = refl; one_b = refl }
find_jcc32 condition.P n = record { zero_b = refl; one_b = refl }
find_jcc32 condition.Np n = record { zero_b = refl; one_b = refl }
find_jcc32 condition.L n = record { zero_b = refl; one_b = refl }
find_jcc32 condition.Ge n = record { zero_b = refl; one_b = refl }
find_jcc32 condition.Le n = record { zero_b = refl; one_b = refl }
find_jcc32 condition.G n = record { zero_b = refl; one_b = refl }

pub find_set : (c : Cond) (n : ℕ) → Finds (rm Sized B Nothing Rm kind.Set) true (0x90 + cond_code c) n
unfolding table covers find_line find_row
find_set condition.O n = record { zero_b = refl; one_b = refl }
find_set condition.No n = record { zero_b = refl; one_b = refl }
find_set condition.B n = record { zero_b = refl; one_b = refl }
find_set condition.Ae n = record { zero_b = refl; one_b = refl }
find_set condition.E n = record { zero_b = refl; one_b = refl }
find_set condition.Ne n = record { zero_b = refl; one_b = refl }
find_set condition.Be n = record { zero_b = refl; one_b = refl }
find_set condition.A n = record { zero_b = refl; one_b = refl }
find_set condition.S n = record { zero_b = refl; one_b = refl }
find_set condition.Ns n = record { zero_b = refl; one_b = refl }
find_set condition.P n = record { zero_b = refl; one_b = refl }
find_set condition.Np n = record { zero_b = refl; one_b = refl }
find_set condition.L n = record { zero_b = refl; one_b = refl }
find_set condition.Ge n = record { zero_b = refl; one_b = refl }
find_set condition.Le n = record { zero_b = refl; one_b = refl }
find_set condition.G n = record { zero_b = refl; one_b = refl }

pub find_cmov : (c : Cond) (n : ℕ) → Finds (rm Sized D Nothing RegRm kind.Cmov) true (0x40 + cond_code c) n
unfolding table covers find_line find_row
find_cmov condition.O n = record { zero_b = refl; one_b = refl }
find_cmov condition.No n = record { zero_b = refl; one_b = refl }
find_cmov condition.B n = record { zero_b = refl; one_b = refl }
find_cmov condition.Ae n = record { zero_b = refl; one_b = refl }
find_cmov condition.E n = record { zero_b = refl; one_b = refl }
find_cmov condition.Ne n = record { zero_b = refl; one_b = refl }
find_cmov condition.Be n = record { zero_b = refl; one_b = refl }
find_cmov condition.A n = record { zero_b = refl; one_b = refl }
find_cmov condition.S n = record { zero_b = refl; one_b = refl }
find_cmov condition.Ns n = record { zero_b = refl; one_b = refl }
find_cmov condition.P n = record { zero_b = refl; one_b = refl }
find_cmov condition.Np n = record { zero_b = refl; one_b = refl }
find_cmov condition.L n = record { zero_b = refl; one_b = refl }
find_cmov condition.Ge n = record { zero_b = refl; one_b = refl }
find_cmov condition.Le n = record { zero_b = refl; one_b = refl }
find_cmov condition.G n = record { zero_b = refl; one_b = refl }

-- ---- rows of one opcode for each register

by_8 : (P : ℕ → Type 0) → P 0 → P 1 → P 2 → P 3 → P 4 → P 5 → P 6 → P 7 → (k : ℕ) → k < 8 → P k
by_8 P a b c d e f g h zero l = a
by_8 P a b c d e f g h (suc zero) l = b
by_8 P a b c d e f g h (suc (suc zero)) l = c
by_8 P a b c d e f g h (suc (suc (suc zero))) l = d
by_8 P a b c d e f g h (suc (suc (suc (suc zero)))) l = e
by_8 P a b c d e f g h (suc (suc (suc (suc (suc zero))))) l = f
by_8 P a b c d e f g h (suc (suc (suc (suc (suc (suc zero)))))) l = g
by_8 P a b c d e f g h (suc (suc (suc (suc (suc (suc (suc zero))))))) l = h
by_8 P a b c d e f g h (suc (suc (suc (suc (suc (suc (suc (suc k)))))))) l = absurd (omega (arith, l))

pub find_mov8 : (r n : ℕ) → Finds (no Sized B Ib CodeImm kind.Mov) false (0xB0 + r % 8) n
unfolding table covers find_line find_row
find_mov8 r n = by_8 (λ k. Finds (no Sized B Ib CodeImm kind.Mov) false (0xB0 + k) n) (record { zero_b = refl; one_b = refl }) (record { zero_b = refl; one_b = refl }) (record { zero_b = refl; one_b = refl }) (record { zero_b = refl; one_b = refl }) (record { zero_b = refl; one_b = refl }) (record { zero_b = refl; one_b = refl }) (record { zero_b = refl; one_b = refl }) (record { zero_b = refl; one_b = refl }) (r % 8) (omega arith)

pub find_mov : (r n : ℕ) → Finds (no Sized V Iv CodeImm kind.Mov) false (0xB8 + r % 8) n
unfolding table covers find_line find_row
find_mov r n = by_8 (λ k. Finds (no Sized V Iv CodeImm kind.Mov) false (0xB8 + k) n) (record { zero_b = refl; one_b = refl }) (record { zero_b = refl; one_b = refl }) (record { zero_b = refl; one_b = refl }) (record { zero_b = refl; one_b = refl }) (record { zero_b = refl; one_b = refl }) (record { zero_b = refl; one_b = refl }) (record { zero_b = refl; one_b = refl }) (record { zero_b = refl; one_b = refl }) (r % 8) (omega arith)

pub find_push_code : (r n : ℕ) → Finds (no Bare Q Nothing CodeAcc kind.Push) false (0x50 + r % 8) n
unfolding table covers find_line find_row
find_push_code r n = by_8 (λ k. Finds (no Bare Q Nothing CodeAcc kind.Push) false (0x50 + k) n) (record { zero_b = refl; one_b = refl }) (record { zero_b = refl; one_b = refl }) (record { zero_b = refl; one_b = refl }) (record { zero_b = refl; one_b = refl }) (record { zero_b = refl; one_b = refl }) (record { zero_b = refl; one_b = refl }) (record { zero_b = refl; one_b = refl }) (record { zero_b = refl; one_b = refl }) (r % 8) (omega arith)

pub find_pop : (r n : ℕ) → Finds (no Bare Q Nothing CodeAcc kind.Pop) false (0x58 + r % 8) n
unfolding table covers find_line find_row
find_pop r n = by_8 (λ k. Finds (no Bare Q Nothing CodeAcc kind.Pop) false (0x58 + k) n) (record { zero_b = refl; one_b = refl }) (record { zero_b = refl; one_b = refl }) (record { zero_b = refl; one_b = refl }) (record { zero_b = refl; one_b = refl }) (record { zero_b = refl; one_b = refl }) (record { zero_b = refl; one_b = refl }) (record { zero_b = refl; one_b = refl }) (record { zero_b = refl; one_b = refl }) (r % 8) (omega arith)

pub find_xchg_code : (r n : ℕ) → nat_eq (r % 8) 0 ≡ false → Finds (no Sized V Nothing CodeAcc kind.Xchg) false (0x90 + r % 8) n
unfolding table covers find_line find_row
find_xchg_code r n h = by_8 (λ k. nat_eq k 0 ≡ false → Finds (no Sized V Nothing CodeAcc kind.Xchg) false (0x90 + k) n) (λ z. absurd (both_ways true z refl)) (λ _. record { zero_b = refl; one_b = refl }) (λ _. record { zero_b = refl; one_b = refl }) (λ _. record { zero_b = refl; one_b = refl }) (λ _. record { zero_b = refl; one_b = refl }) (λ _. record { zero_b = refl; one_b = refl }) (λ _. record { zero_b = refl; one_b = refl }) (λ _. record { zero_b = refl; one_b = refl }) (r % 8) (omega arith) h
