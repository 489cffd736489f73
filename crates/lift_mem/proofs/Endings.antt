-- Ends of instructions that store, wait or go elsewhere.
use Rattle.std.proofs.Common.{◌≡◌, ℕ, ◌+◌, ◌%◌, ◌*◌, ◌<◌, ◌^◌, refl, ap, sym, ◌∙◌, arith, length, List, [], ◌∷◌, ◌++◌, Some, None}
use Rattle.std.specs.Prelude.{slice_index, slice_set, if◌then◌else◌}
use Rattle.std.proofs.lemmas.Nat.{pow_pos, mod_below}
use native.Mathlib.Nat.{mod-eq_of_lt}
use Rattle.guest_state.specs.declared.virtual_state.Virtual.{Virtual}
use Rattle.guest_state.specs.Register.{written as state_written}
use Rattle.guest_state.specs.Virtual.{put_of}
use Rattle.ir_meaning.specs.Does.{did, did_all, place_of}
use Rattle.ir_meaning.specs.Width.{state_width}
use Rattle.ir_syntax.specs.declared.line.Op.{Op}
use Rattle.ir_syntax.specs.declared.line.Op.TheVariants as line
use Rattle.ir_syntax.specs.declared.line.PartEnd.TheVariants as ends
use Rattle.ir_syntax.specs.declared.line.Target.{Target}
use Rattle.ir_syntax.specs.declared.width.Width.TheVariants as ir
use Rattle.x86_flags.specs.declared.flags.Flags.{Flags}
use Rattle.x86_forms.specs.declared.operands.Width.{Width}
use Rattle.x86_forms.specs.declared.operands.Width.TheVariants.{W64}
use Rattle.x86_forms.specs.declared.operands.Operand.TheVariants as operand
use Rattle.x86_forms.specs.declared.instructions.Instr.{Instr}
use Rattle.x86_model.specs.declared.cpu.Cpu.{Cpu}
use Rattle.x86_model.specs.declared.want.Want.TheVariants as want
use Rattle.x86_model.specs.Operands.{assigned}
use Rattle.x86_model.specs.Registers.{reg, low, get, put, written, going_to}
use Rattle.x86_model.specs.Want.{want_of}
use Rattle.lift_table.specs.Follow.{Follows, Onward}
use Rattle.lift_table.specs.LiftLines.{ir_width, alone}
use Rattle.lift_table.specs.LiftTable.{stack_at}
use Rattle.lift_table.proofs.LiftWords.{virtual, same_written}
use Rattle.lift_table.proofs.LiftFollow.{Numbers, eight, onward_agrees, goes_to, assigned_numbers}

-- ---- ends

-- temporary 1 is stored where temporary 2 points
pub store_follows : (i : Instr) (next a x : ℕ) (w : Width) (ops : List Op) (v : Virtual) (s t : Cpu) (temps : List ℕ) → did_all ops v ≡ virtual t.regs temps t.flags → slice_index temps 2 ≡ a → slice_index temps 1 ≡ x → want_of i next s ≡ want.Store a w x (going_to t next) → Numbers t.regs → length temps ≡ 8 → Follows i next (alone ops (ends.Store (ir_width w) 2 1)) v s Onward
store_follows i next a x w ops v s t temps lines at is wants numbers room = rw (lines, wants) (at, refl, is, (refl, (goes_to t next, onward_agrees temps t next numbers room)))

-- the same, and the thread goes elsewhere
pub storego_follows : (i : Instr) (next a x to : ℕ) (target : Target) (ops : List Op) (v : Virtual) (s t : Cpu) (temps : List ℕ) → did_all ops v ≡ virtual t.regs temps t.flags → slice_index temps 2 ≡ a → slice_index temps 1 ≡ x → place_of temps target ≡ to → want_of i next s ≡ want.Store a W64 x (going_to t to) → Numbers t.regs → length temps ≡ 8 → Follows i next (alone ops (ends.StoreGo 2 1 target)) v s Onward
storego_follows i next a x to target ops v s t temps lines at is place wants numbers room = rw (lines, wants) (at, refl, is, (refl, (place ∙ goes_to t to, onward_agrees temps t to numbers room)))

-- the thread goes elsewhere
pub go_follows : (i : Instr) (next to : ℕ) (target : Target) (ops : List Op) (v : Virtual) (s t : Cpu) (temps : List ℕ) → did_all ops v ≡ virtual t.regs temps t.flags → place_of temps target ≡ to → want_of i next s ≡ want.Private (going_to t to) → Numbers t.regs → length temps ≡ 8 → Follows i next (alone ops (ends.Go target)) v s Onward
go_follows i next to target ops v s t temps lines place wants numbers room = rw (lines, wants) (refl, (place ∙ goes_to t to, onward_agrees temps t to numbers room))

-- ---- registers

-- a register is 64 bits wide
pub whole_register : (s : Cpu) (r : ℕ) → Numbers s.regs → get s W64 r ≡ reg s r
unfolding get low
whole_register s r numbers = mod-eq_of_lt (numbers.each r)

-- a register of 64 bits is written
pub put_do : (r t : ℕ) (temps : List ℕ) (f : Flags) (s : Cpu) → slice_index temps t < 2 ^ 64 → put_of (virtual s.regs temps f) r (state_width ir.W64) (slice_index temps t) ≡ virtual (put s W64 r (slice_index temps t)).regs temps f
unfolding put put_of
put_do r t temps f s h = ap (λ n. virtual (slice_set s.regs r n) temps f) (same_written W64 (reg s r) (slice_index temps t) h)

pub put_numbers : (r x : ℕ) (s : Cpu) → x < 2 ^ 64 → Numbers s.regs → Numbers (put s W64 r x).regs
unfolding assigned
put_numbers r x s l numbers = assigned_numbers W64 (operand.Reg r) x s l numbers

pub put_keeps_flags : (r x : ℕ) (s : Cpu) → (put s W64 r x).flags ≡ s.flags
unfolding put
put_keeps_flags r x s = refl

-- a sum modulo 2 ^ 64
pub sum_lt : (a n : ℕ) → (a + n) % 2 ^ 64 < 2 ^ 64
sum_lt a n = mod_below (a + n) (2 ^ 64) (pow_pos 64)

-- t2 and rsp become so many bytes above a register
pub stack_do : (r n a b c d e f g h : ℕ) (s : Cpu) → did_all (stack_at r n) (virtual s.regs (eight a b c d e f g h) s.flags) ≡ virtual (put s W64 4 ((reg s r + n) % 2 ^ 64)).regs (eight a b ((reg s r + n) % 2 ^ 64) d e f g h) (put s W64 4 ((reg s r + n) % 2 ^ 64)).flags
stack_do r n a b c d e f g h s =
    let sum : reg s r + 0 * 1 + n ≡ reg s r + n = omega arith in
    let at = (reg s r + n) % 2 ^ 64 in
    ap (λ k. did_all (line.Put ir.W64 4 2 ∷ []) (virtual s.regs (eight a b (k % 2 ^ 64) d e f g h) s.flags)) sum
    ∙ put_do 4 2 (eight a b at d e f g h) s.flags s (sum_lt (reg s r) n)
    ∙ ap (virtual (put s W64 4 at).regs (eight a b at d e f g h)) (sym (put_keeps_flags 4 at s))
