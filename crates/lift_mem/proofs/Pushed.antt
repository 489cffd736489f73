-- PUSH, POP and LEAVE.
use Rattle.std.proofs.Common.{◌≡◌, ℕ, ◌+◌, ◌%◌, ◌-◌, ◌<◌, ◌^◌, refl, ap, sym, lit<, ◌∙◌, Bool, true, false, List, [], ◌∷◌, ◌++◌, Some, None}
use Rattle.ir_meaning.specs.Does.{did_all}
use Rattle.ir_syntax.specs.declared.line.Op.TheVariants.{Get, Put}
use Rattle.ir_syntax.specs.declared.line.PartEnd.TheVariants as ends
use Rattle.ir_syntax.specs.declared.width.Width.TheVariants as ir
use Rattle.x86_forms.specs.declared.operands.Width.TheVariants.{W64}
use Rattle.x86_forms.specs.declared.operands.Mem.{Mem}
use Rattle.x86_forms.specs.declared.operands.Operand.{Operand}
use Rattle.x86_forms.specs.declared.operands.Operand.TheVariants as operand
use Rattle.x86_forms.specs.declared.instructions.Instr.{Instr}
use Rattle.x86_forms.specs.declared.instructions.Instr.TheVariants.{Push, Pop, Leave}
use Rattle.x86_forms.specs.Groups.{is_memory}
use Rattle.x86_forms.specs.Limits.{OperandFits}
use Rattle.x86_model.specs.declared.cpu.Cpu.{Cpu}
use Rattle.x86_model.specs.declared.want.Want.TheVariants as want
use Rattle.x86_model.specs.Accesses.{first_access}
use Rattle.x86_model.specs.Finishing.{finished, pushing_at, pushing, released}
use Rattle.x86_model.specs.Operands.{address, value, given}
use Rattle.x86_model.specs.Registers.{reg, get, put, loaded}
use Rattle.x86_model.specs.Want.{want_of}
use Rattle.lift_table.specs.Follow.{Follows, Onward, Lifts, having}
use Rattle.lift_table.specs.LiftLines.{reads, alone}
use Rattle.lift_table.specs.LiftTable.{stack_at, pushed, popped}
use Rattle.lift_table.proofs.LiftWords.{virtual, after, reads_do}
use Rattle.lift_table.proofs.LiftFollow.{Numbers, eight, lifts, given_follows, resumed, no_loads}
use Rattle.lift_table.proofs.LiftAlu.{WasLoaded, not_loaded}
use Rattle.lift_mem.proofs.Access.{load_follows, loads_follows, wants_end, outside_memory, having_value, having_loaded}
use Rattle.lift_mem.proofs.Endings.{store_follows, whole_register, put_numbers, sum_lt, stack_do}
use Rattle.lift_mem.proofs.Operands.{get_do}

-- ---- PUSH

push_ends : (src : Operand) (next a b c d e f g h : ℕ) (s : Cpu) → OperandFits W64 src → WasLoaded s W64 src b → Numbers s.regs → want_of (Push src) next s ≡ finished (Push src) next s → Follows (Push src) next (alone (reads W64 src 1 ++ pushed) (ends.Store ir.W64 2 1)) (virtual s.regs (eight a b c d e f g h) s.flags) s Onward
unfolding finished pushing pushing_at
push_ends src next a b c d e f g h s fit was numbers wants =
    let top = (reg s 4 + (2 ^ 64 - 8)) % 2 ^ 64 in
    let x = value s W64 src in
    store_follows (Push src) next top x W64 (reads W64 src 1 ++ pushed) (virtual s.regs (eight a b c d e f g h) s.flags) s (put s W64 4 top) (eight a x top d e f g h)
    (after (reads W64 src 1) pushed (virtual s.regs (eight a b c d e f g h) s.flags) (virtual s.regs (eight a x c d e f g h) s.flags) (reads_do W64 src 1 (eight a b c d e f g h) s.flags s fit was)
    ∙ stack_do 4 (2 ^ 64 - 8) a x c d e f g h s)
    refl refl wants (put_numbers 4 top s (sum_lt (reg s 4) (2 ^ 64 - 8)) numbers) refl

push_plain : (src : Operand) (next : ℕ) → OperandFits W64 src → is_memory src ≡ false → Lifts (Push src) next
unfolding first_access
push_plain src next fit none =
    lifts (Push src) next
    (λ a b c d e f g h s mid numbers.
    rw (no_loads next W64 src 1 none)
    (push_ends src next a b c d e f g h s fit (not_loaded s W64 src b none) numbers (wants_end (Push src) next s mid (rw (outside_memory src none)))))

push_memory : (m : Mem) (next : ℕ) → OperandFits W64 (operand.Mem m) → Lifts (Push (operand.Mem m)) next
unfolding first_access
push_memory m next fit =
    let i = Push (operand.Mem m) in
    lifts i next
    (λ a b c d e f g h s mid numbers.
    loads_follows i next W64 m 1 (alone (reads W64 (operand.Mem m) 1 ++ pushed) (ends.Store ir.W64 2 1)) s (eight a b c d e f g h) mid numbers refl refl
    (λ x l. push_ends (operand.Mem m) next (address s next m) x c d e f g h (having s x) fit (λ t. sym (having_value W64 m s x l)) numbers (resumed i next (having s x) x refl)))

pub push_law : (src : Operand) (next : ℕ) → OperandFits W64 src → Lifts (Push src) next
push_law (operand.Reg r) next fit = push_plain (operand.Reg r) next fit refl
push_law (operand.High r) next fit = push_plain (operand.High r) next fit refl
push_law (operand.Imm n) next fit = push_plain (operand.Imm n) next fit refl
push_law (operand.Mem m) next fit = push_memory m next fit

-- ---- POP and LEAVE

-- a register is loaded from where register r points, and rsp becomes the address behind
popped_follows : (i : Instr) (next r dst a b c d e f g h : ℕ) (s : Cpu) → dst < 16 → s.mid ≡ None → Numbers s.regs → first_access i next s ≡ Some (want.Load (reg s r) W64) → ((t : Cpu) → finished i next t ≡ given (released t (reg t r) 8) next W64 (operand.Reg dst) (loaded t W64)) → Follows i next (popped r ∷ alone (stack_at r 8 ++ (Put ir.W64 dst 1 ∷ [])) ends.Tick) (virtual s.regs (eight a b c d e f g h) s.flags) s Onward
unfolding released
popped_follows i next r dst a b c d e f g h s fit mid numbers access end =
    let at = get s W64 r in
    let top = (reg s r + 8) % 2 ^ 64 in
    load_follows i next W64 1 (reg s r) (Get ir.W64 0 r ∷ []) (alone (stack_at r 8 ++ (Put ir.W64 dst 1 ∷ [])) ends.Tick) s (eight a b c d e f g h) (eight at b c d e f g h) mid numbers refl
    (get_do W64 0 r (eight a b c d e f g h) s.flags s) (whole_register s r numbers) access
    (λ x l.
    let t = having s x in
    given_follows i next W64 (operand.Reg dst) 1 (stack_at r 8) (virtual s.regs (eight at x c d e f g h) s.flags) t (put t W64 4 top) (eight at x top d e f g h)
    (stack_do r 8 at x c d e f g h t) l (record { fits = fit; place = refl }) tt
    (resumed i next t x refl ∙ end t ∙ ap (given (put t W64 4 top) next W64 (operand.Reg dst)) (having_loaded W64 s x l))
    (put_numbers 4 top t (sum_lt (reg s r) 8) numbers) refl)

pub pop_law : (dst next : ℕ) → dst < 16 → Lifts (Pop dst) next
unfolding first_access finished
pop_law dst next fit = lifts (Pop dst) next (λ a b c d e f g h s mid numbers. popped_follows (Pop dst) next 4 dst a b c d e f g h s fit mid numbers refl (λ t. refl))

pub leave_law : (next : ℕ) → Lifts Leave next
unfolding first_access finished
leave_law next = lifts Leave next (λ a b c d e f g h s mid numbers. popped_follows Leave next 5 5 a b c d e f g h s (lit< tt) mid numbers refl (λ t. refl))
