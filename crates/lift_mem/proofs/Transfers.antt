-- Transfers, and MFENCE.
use Rattle.std.proofs.Common.{◌≡◌, ℕ, ◌+◌, ◌%◌, ◌-◌, ◌<◌, ◌^◌, ℤ, refl, ap, sym, ◌∙◌, Bool, true, false, List, [], ◌∷◌, ◌++◌, Some, None}
use Rattle.std.specs.Prelude.{if◌then◌else◌}
use Rattle.ir_meaning.specs.Does.{did_all}
use Rattle.ir_syntax.specs.declared.line.Op.TheVariants.{Get, Const}
use Rattle.ir_syntax.specs.declared.line.PartEnd.TheVariants as ends
use Rattle.ir_syntax.specs.declared.line.Target.TheVariants.{Place, Temp}
use Rattle.ir_syntax.specs.declared.width.Width.TheVariants as ir
use Rattle.x86_forms.specs.declared.conditions.Cond.{Cond}
use Rattle.x86_forms.specs.declared.operands.Width.TheVariants.{W64}
use Rattle.x86_forms.specs.declared.operands.Mem.{Mem}
use Rattle.x86_forms.specs.declared.operands.Operand.{Operand}
use Rattle.x86_forms.specs.declared.operands.Operand.TheVariants as operand
use Rattle.x86_forms.specs.declared.instructions.Instr.{Instr}
use Rattle.x86_forms.specs.declared.instructions.Instr.TheVariants.{Jcc, Jmp, JmpTo, Call, CallTo, Ret, Mfence}
use Rattle.x86_forms.specs.Groups.{is_memory}
use Rattle.x86_forms.specs.Limits.{OperandFits, PlaceFits}
use Rattle.x86_model.specs.declared.cpu.Cpu.{Cpu}
use Rattle.x86_model.specs.declared.want.Want.TheVariants as want
use Rattle.x86_model.specs.Accesses.{first_access}
use Rattle.x86_model.specs.Finishing.{finished, pushing_at, pushing, released}
use Rattle.x86_model.specs.Operands.{address, target, value}
use Rattle.x86_model.specs.Registers.{reg, get, put, loaded, going_to}
use Rattle.x86_model.specs.Results.{holds}
use Rattle.x86_model.specs.Want.{want_of}
use Rattle.lift_table.specs.Follow.{Follows, Onward, Lifts, having}
use Rattle.lift_table.specs.LiftLines.{ir_cond, reads, alone}
use Rattle.lift_table.specs.LiftTable.{stack_at, pushed, popped, called}
use Rattle.lift_table.proofs.LiftWords.{virtual, after, reads_do, same_test}
use Rattle.lift_table.proofs.LiftFollow.{Numbers, eight, lifts, resumed, no_loads, onward_agrees, goes_to}
use Rattle.lift_table.proofs.LiftAlu.{WasLoaded, not_loaded}
use Rattle.lift_mem.proofs.Access.{load_follows, loads_follows, wants_end, outside_memory, having_value, having_loaded}
use Rattle.lift_mem.proofs.Endings.{storego_follows, go_follows, whole_register, put_numbers, sum_lt, stack_do}
use Rattle.lift_mem.proofs.Operands.{get_do}

-- ---- MFENCE

pub mfence_law : (next : ℕ) → Lifts Mfence next
unfolding first_access finished
mfence_law next =
    lifts Mfence next
    (λ a b c d e f g h s mid numbers. rw (wants_end Mfence next s mid refl) (refl, (goes_to s next, onward_agrees (eight a b c d e f g h) s next numbers refl)))

-- ---- jumps

pub jcc_law : (cc : Cond) (rel : ℤ) (next : ℕ) → Lifts (Jcc cc rel) next
unfolding first_access finished
jcc_law kind rel next =
    lifts (Jcc kind rel) next
    (λ a b c d e f g h s mid numbers.
    let temps = eight a b c d e f g h in
    let to = if holds kind s.flags then target next rel else next in
    let same = ap (λ y. if y then target next rel else next) (same_test kind s.regs temps s.flags) in
    rw (wants_end (Jcc kind rel) next s mid refl) (refl, (same ∙ goes_to s to, onward_agrees temps s to numbers refl)))

pub jmp_law : (rel : ℤ) (next : ℕ) → Lifts (Jmp rel) next
unfolding first_access finished
jmp_law rel next =
    lifts (Jmp rel) next
    (λ a b c d e f g h s mid numbers.
    go_follows (Jmp rel) next (target next rel) (Place (target next rel)) [] (virtual s.regs (eight a b c d e f g h) s.flags) s s (eight a b c d e f g h) refl refl (wants_end (Jmp rel) next s mid refl) numbers refl)

jmp_to_ends : (src : Operand) (next a b c d e f g h : ℕ) (s : Cpu) → PlaceFits W64 src → WasLoaded s W64 src b → Numbers s.regs → want_of (JmpTo src) next s ≡ finished (JmpTo src) next s → Follows (JmpTo src) next (alone (reads W64 src 1) (ends.Go (Temp 1))) (virtual s.regs (eight a b c d e f g h) s.flags) s Onward
unfolding finished
jmp_to_ends src next a b c d e f g h s fit was numbers wants =
    let x = value s W64 src in
    go_follows (JmpTo src) next x (Temp 1) (reads W64 src 1) (virtual s.regs (eight a b c d e f g h) s.flags) s s (eight a x c d e f g h) (reads_do W64 src 1 (eight a b c d e f g h) s.flags s fit.fits was) refl wants numbers refl

jmp_to_plain : (src : Operand) (next : ℕ) → PlaceFits W64 src → is_memory src ≡ false → Lifts (JmpTo src) next
unfolding first_access
jmp_to_plain src next fit none =
    lifts (JmpTo src) next
    (λ a b c d e f g h s mid numbers.
    rw (no_loads next W64 src 1 none)
    (jmp_to_ends src next a b c d e f g h s fit (not_loaded s W64 src b none) numbers (wants_end (JmpTo src) next s mid (rw (outside_memory src none)))))

jmp_to_memory : (m : Mem) (next : ℕ) → PlaceFits W64 (operand.Mem m) → Lifts (JmpTo (operand.Mem m)) next
unfolding first_access
jmp_to_memory m next fit =
    let i = JmpTo (operand.Mem m) in
    lifts i next
    (λ a b c d e f g h s mid numbers.
    loads_follows i next W64 m 1 (alone (reads W64 (operand.Mem m) 1) (ends.Go (Temp 1))) s (eight a b c d e f g h) mid numbers refl refl
    (λ x l. jmp_to_ends (operand.Mem m) next (address s next m) x c d e f g h (having s x) fit (λ t. sym (having_value W64 m s x l)) numbers (resumed i next (having s x) x refl)))

pub jmp_to_law : (src : Operand) (next : ℕ) → PlaceFits W64 src → Lifts (JmpTo src) next
jmp_to_law (operand.Reg r) next fit = jmp_to_plain (operand.Reg r) next fit refl
jmp_to_law (operand.High r) next fit = jmp_to_plain (operand.High r) next fit refl
jmp_to_law (operand.Imm n) next fit = jmp_to_plain (operand.Imm n) next fit refl
jmp_to_law (operand.Mem m) next fit = jmp_to_memory m next fit

-- ---- calls

-- the address of the next instruction is pushed
called_do : (next a b c d e f g h : ℕ) (s : Cpu) → did_all (pushed ++ (Const ir.W64 1 next ∷ [])) (virtual s.regs (eight a b c d e f g h) s.flags) ≡ virtual (put s W64 4 ((reg s 4 + (2 ^ 64 - 8)) % 2 ^ 64)).regs (eight a next ((reg s 4 + (2 ^ 64 - 8)) % 2 ^ 64) d e f g h) (put s W64 4 ((reg s 4 + (2 ^ 64 - 8)) % 2 ^ 64)).flags
called_do next a b c d e f g h s =
    let top = (reg s 4 + (2 ^ 64 - 8)) % 2 ^ 64 in
    after pushed (Const ir.W64 1 next ∷ []) (virtual s.regs (eight a b c d e f g h) s.flags) (virtual (put s W64 4 top).regs (eight a b top d e f g h) (put s W64 4 top).flags) (stack_do 4 (2 ^ 64 - 8) a b c d e f g h s)

pub call_law : (rel : ℤ) (next : ℕ) → Lifts (Call rel) next
unfolding first_access finished pushing pushing_at
call_law rel next =
    lifts (Call rel) next
    (λ a b c d e f g h s mid numbers.
    let top = (reg s 4 + (2 ^ 64 - 8)) % 2 ^ 64 in
    storego_follows (Call rel) next top next (target next rel) (Place (target next rel)) (pushed ++ (Const ir.W64 1 next ∷ [])) (virtual s.regs (eight a b c d e f g h) s.flags) s (put s W64 4 top) (eight a next top d e f g h)
    (called_do next a b c d e f g h s) refl refl refl (wants_end (Call rel) next s mid refl) (put_numbers 4 top s (sum_lt (reg s 4) (2 ^ 64 - 8)) numbers) refl)

call_to_ends : (src : Operand) (next a b c d e f g h : ℕ) (s : Cpu) → PlaceFits W64 src → WasLoaded s W64 src d → Numbers s.regs → want_of (CallTo src) next s ≡ finished (CallTo src) next s → Follows (CallTo src) next (called (reads W64 src 3) next (Temp 3)) (virtual s.regs (eight a b c d e f g h) s.flags) s Onward
unfolding finished pushing pushing_at
call_to_ends src next a b c d e f g h s fit was numbers wants =
    let x = value s W64 src in
    let top = (reg s 4 + (2 ^ 64 - 8)) % 2 ^ 64 in
    storego_follows (CallTo src) next top next x (Temp 3) (reads W64 src 3 ++ (pushed ++ (Const ir.W64 1 next ∷ []))) (virtual s.regs (eight a b c d e f g h) s.flags) s (put s W64 4 top) (eight a next top x e f g h)
    (after (reads W64 src 3) (pushed ++ (Const ir.W64 1 next ∷ [])) (virtual s.regs (eight a b c d e f g h) s.flags) (virtual s.regs (eight a b c x e f g h) s.flags) (reads_do W64 src 3 (eight a b c d e f g h) s.flags s fit.fits was)
    ∙ called_do next a b c x e f g h s)
    refl refl refl wants (put_numbers 4 top s (sum_lt (reg s 4) (2 ^ 64 - 8)) numbers) refl

call_to_plain : (src : Operand) (next : ℕ) → PlaceFits W64 src → is_memory src ≡ false → Lifts (CallTo src) next
unfolding first_access
call_to_plain src next fit none =
    lifts (CallTo src) next
    (λ a b c d e f g h s mid numbers.
    rw (no_loads next W64 src 3 none)
    (call_to_ends src next a b c d e f g h s fit (not_loaded s W64 src d none) numbers (wants_end (CallTo src) next s mid (rw (outside_memory src none)))))

call_to_memory : (m : Mem) (next : ℕ) → PlaceFits W64 (operand.Mem m) → Lifts (CallTo (operand.Mem m)) next
unfolding first_access
call_to_memory m next fit =
    let i = CallTo (operand.Mem m) in
    lifts i next
    (λ a b c d e f g h s mid numbers.
    loads_follows i next W64 m 3 (called (reads W64 (operand.Mem m) 3) next (Temp 3)) s (eight a b c d e f g h) mid numbers refl refl
    (λ x l. call_to_ends (operand.Mem m) next (address s next m) b c x e f g h (having s x) fit (λ t. sym (having_value W64 m s x l)) numbers (resumed i next (having s x) x refl)))

pub call_to_law : (src : Operand) (next : ℕ) → PlaceFits W64 src → Lifts (CallTo src) next
call_to_law (operand.Reg r) next fit = call_to_plain (operand.Reg r) next fit refl
call_to_law (operand.High r) next fit = call_to_plain (operand.High r) next fit refl
call_to_law (operand.Imm n) next fit = call_to_plain (operand.Imm n) next fit refl
call_to_law (operand.Mem m) next fit = call_to_memory m next fit

-- ---- RET

pub ret_law : (extra next : ℕ) → Lifts (Ret extra) next
unfolding first_access finished released
ret_law extra next =
    lifts (Ret extra) next
    (λ a b c d e f g h s mid numbers.
    let at = get s W64 4 in
    let top = (reg s 4 + (8 + extra)) % 2 ^ 64 in
    load_follows (Ret extra) next W64 1 (reg s 4) (Get ir.W64 0 4 ∷ []) (alone (stack_at 4 (8 + extra)) (ends.Go (Temp 1))) s (eight a b c d e f g h) (eight at b c d e f g h) mid numbers refl
    (get_do W64 0 4 (eight a b c d e f g h) s.flags s) (whole_register s 4 numbers) refl
    (λ x l.
    let t = having s x in
    go_follows (Ret extra) next x (Temp 1) (stack_at 4 (8 + extra)) (virtual s.regs (eight at x c d e f g h) s.flags) t (put t W64 4 top) (eight at x top d e f g h)
    (stack_do 4 (8 + extra) at x c d e f g h t) refl
    (resumed (Ret extra) next t x refl ∙ ap (λ y. want.Private (going_to (put t W64 4 top) y)) (having_loaded W64 s x l))
    (put_numbers 4 top t (sum_lt (reg s 4) (8 + extra)) numbers) refl))
