-- CMPXCHG.
use Rattle.std.proofs.lemmas.List.{set-get_or}
use native.Mathlib.Nat.{mod-eq_of_lt}
use Rattle.std.specs.Int.{from_bool}
use Rattle.std.proofs.Common.{arith, length, ◌≡◌, ◌≢◌, ℕ, ◌<◌, ◌^◌, refl, ap, sym, ◌∙◌, Bool, true, false, List, [], ◌∷◌, ◌++◌, Some, None}
use Rattle.std.specs.Prelude.{slice_index, slice_set, if◌then◌else◌}
use Rattle.guest_state.specs.Virtual.{get_of, put_of}
use Rattle.guest_state.specs.Register.{low_of, written as state_written}
use Rattle.guest_state.specs.Width.{bits}
use Rattle.ir_meaning.specs.Width.{state_width}
use Rattle.ir_meaning.specs.Does.{did, did_all, flags_of}
use Rattle.ir_syntax.specs.declared.line.Op.{Op}
use Rattle.ir_syntax.specs.declared.line.Op.TheVariants.{Get, Put, Zext, Pick, Cond}
use Rattle.x86_flags.specs.declared.flags.Flags.{Flags}
use Rattle.x86_forms.specs.declared.operands.Width.{Width}
use Rattle.x86_forms.specs.declared.operands.Width.TheVariants.{W8, W16, W32, W64}
use Rattle.x86_forms.specs.declared.operands.Mem.{Mem}
use Rattle.x86_forms.specs.declared.operands.Operand.{Operand}
use Rattle.x86_forms.specs.declared.operands.Operand.TheVariants as operand
use Rattle.x86_forms.specs.declared.instructions.Instr.TheVariants.{Xadd, Cmpxchg}
use Rattle.x86_forms.specs.Limits.{MemFits, RegisterFits, OperandFits}
use Rattle.x86_forms.specs.Widths.{bits_in}
use Rattle.x86_model.specs.declared.cpu.Cpu.{Cpu}
use Rattle.x86_model.specs.Accesses.{first_access}
use Rattle.x86_model.specs.Operands.{address, value, assigned}
use Rattle.x86_model.specs.Registers.{reg, low, get, put, written, going_to, with_flags, loaded}
use Rattle.x86_model.specs.Finishing.{finished, cmpxchg_end, compared, comparing}
use Rattle.x86_model.specs.declared.want.Want.TheVariants as want
use Rattle.lift_table.specs.Follow.{Follows, Onward, Lifts, having}
use Rattle.lift_table.specs.LiftLines.{ir_width, reads, address_line, flag_lines, all_five, alone}
use Rattle.lift_table.specs.LiftTable.{accumulator_ops}
use Rattle.lift_table.proofs.LiftWords.{virtual, after, reads_do, address_is, same_low, same_written, flags_do, alu_flags}
use Rattle.lift_table.proofs.LiftFollow.{Numbers, eight, lifts, private_follows, resumed, assigned_numbers}
use Rattle.lift_table.proofs.LiftAlu.{WasLoaded, not_loaded}
use Rattle.lift_table.proofs.LiftNumbers.{low_lt, written_lt}
use Rattle.x86_flags.specs.Sums.{sub_of}
use Rattle.x86_forms.specs.declared.instructions.AluOp.TheVariants as alu_op
use Rattle.ir_syntax.specs.declared.line.Family.TheVariants as family
use Rattle.ir_syntax.specs.declared.cond.Cond.TheVariants.{E}
use Rattle.ir_syntax.specs.declared.line.PartEnd.TheVariants as ends
use Rattle.x86_model.specs.Results.{alu}
use Rattle.lift_mem.proofs.Operands.{get_do, operands_do}
use Rattle.lift_mem.proofs.Access.{cmpxchg_follows, locked_follows, having_value, having_loaded, having_address}

-- a register that gets the low part that it has stays
written_back : (w : Width) (n : ℕ) → w ≢ W32 → n < 2 ^ 64 → written w n (low w n) ≡ n
unfolding written low
written_back W8 n other h = omega arith
written_back W16 n other h = omega arith
written_back W32 n other h = absurd (other refl)
written_back W64 n other h = mod-eq_of_lt h

-- rax stays where the old value is equal to it, and else gets the old value
abbrev merged : Width → Bool → Cpu → ℕ → Cpu
merged w equal s x = if equal then s else put s w 0 x

-- the temporaries before rax is written
abbrev compared_temps : Width → Bool → ℕ → ℕ → ℕ → ℕ → ℕ → ℕ → Cpu → List ℕ
compared_temps w equal a x c f g h s = eight a x c (get s w 0) (from_bool equal) f g h

zero_extended : (n x : ℕ) → x < 2 ^ 32 → written W64 n x ≡ written W32 n x
unfolding written
zero_extended n x h = sym (mod-eq_of_lt h)

rax_stays : (w : Width) (s : Cpu) → w ≢ W32 → Numbers s.regs → slice_set s.regs 0 (state_written (state_width (ir_width w)) (reg s 0) (get s w 0)) ≡ s.regs
unfolding get
rax_stays w s other numbers = ap (slice_set s.regs 0) (same_written w (reg s 0) (low w (reg s 0)) (low_lt w (reg s 0)) ∙ written_back w (reg s 0) other (numbers.each 0)) ∙ set-get_or s.regs 0 0

rax_becomes : (w : Width) (s : Cpu) (x : ℕ) → x < 2 ^ bits_in w → slice_set s.regs 0 (state_written (state_width (ir_width w)) (reg s 0) x) ≡ (put s w 0 x).regs
unfolding put
rax_becomes w s x l = ap (slice_set s.regs 0) (same_written w (reg s 0) x l)

same_get : (w : Width) (s : Cpu) → low_of (state_width (ir_width w)) (reg s 0) ≡ get s w 0
unfolding get
same_get w s = same_low w (reg s 0)

rax_zero_extended : (s : Cpu) (x : ℕ) → x < 2 ^ 32 → (put s W64 0 x).regs ≡ (put s W32 0 x).regs
unfolding put
rax_zero_extended s x h = ap (slice_set s.regs 0) (zero_extended (reg s 0) x h)

accumulator_regs : (w : Width) (equal : Bool) (a x c f g h : ℕ) (flags : Flags) (s : Cpu) → x < 2 ^ bits_in w → Numbers s.regs → (did_all (accumulator_ops w) (virtual s.regs (compared_temps w equal a x c f g h s) flags)).regs ≡ (merged w equal s x).regs
unfolding put_of get_of
accumulator_regs W8 true a x c f g h flags s l numbers = rax_stays W8 s (λ e. cc) numbers
accumulator_regs W8 false a x c f g h flags s l numbers = rax_becomes W8 s x l
accumulator_regs W16 true a x c f g h flags s l numbers = rax_stays W16 s (λ e. cc) numbers
accumulator_regs W16 false a x c f g h flags s l numbers = rax_becomes W16 s x l
accumulator_regs W64 true a x c f g h flags s l numbers = rax_stays W64 s (λ e. cc) numbers
accumulator_regs W64 false a x c f g h flags s l numbers = rax_becomes W64 s x l
accumulator_regs W32 true a x c f g h flags s l numbers = ap (λ n. slice_set s.regs 0 (state_written (state_width (ir_width W64)) (reg s 0) n)) (same_get W64 s) ∙ rax_stays W64 s (λ e. cc) numbers
accumulator_regs W32 false a x c f g h flags s l numbers = rax_becomes W64 s x (omega arith) ∙ rax_zero_extended s x l

accumulator_room : (w : Width) (equal : Bool) (a x c f g h : ℕ) (flags : Flags) (s : Cpu) → length (did_all (accumulator_ops w) (virtual s.regs (compared_temps w equal a x c f g h s) flags)).temps ≡ 8
unfolding put_of
accumulator_room W8 equal a x c f g h flags s = refl
accumulator_room W16 equal a x c f g h flags s = refl
accumulator_room W32 equal a x c f g h flags s = refl
accumulator_room W64 equal a x c f g h flags s = refl

accumulator_flags : (w : Width) (equal : Bool) (a x c f g h : ℕ) (flags : Flags) (s : Cpu) → flags_of (did_all (accumulator_ops w) (virtual s.regs (compared_temps w equal a x c f g h s) flags)) ≡ flags
unfolding put_of
accumulator_flags W8 equal a x c f g h flags s = refl
accumulator_flags W16 equal a x c f g h flags s = refl
accumulator_flags W32 equal a x c f g h flags s = refl
accumulator_flags W64 equal a x c f g h flags s = refl

merged_numbers : (w : Width) (equal : Bool) (s : Cpu) (x : ℕ) → x < 2 ^ bits_in w → Numbers s.regs → Numbers (merged w equal s x).regs
unfolding assigned
merged_numbers w true s x l h = h
merged_numbers w false s x l h = assigned_numbers w (operand.Reg 0) x s l h

cmpxchg_wants : (w : Width) (m : Mem) (r : Operand) (next x : ℕ) (s : Cpu) → x < 2 ^ bits_in w → finished (Cmpxchg w m r) next (having s x) ≡ want.Private (going_to (with_flags (merged w (sub_of (bits_in w) (get s w 0) x s.flags).flags.zf (having s x) x) (sub_of (bits_in w) (get s w 0) x s.flags).flags) next)
unfolding finished cmpxchg_end compared comparing get
cmpxchg_wants w m r next x s l = rw (having_loaded w s x l)

cmpxchg_do : (w : Width) (a x c f g h q : ℕ) (s : Cpu) → x < 2 ^ bits_in w → Numbers s.regs → did_all (flag_lines all_five family.Sub w 3 (Some 1) ++ (Cond 4 E ∷ accumulator_ops w)) (virtual s.regs (eight a x c (get s w 0) q f g h) s.flags) ≡ did_all (accumulator_ops w) (virtual s.regs (compared_temps w (sub_of (bits_in w) (get s w 0) x s.flags).flags.zf a x c f g h s) (sub_of (bits_in w) (get s w 0) x s.flags).flags)
unfolding alu
cmpxchg_do w a x c f g h q s l numbers =
    let temps = eight a x c (get s w 0) q f g h in
    let flags = (sub_of (bits_in w) (get s w 0) x s.flags).flags in
    after (flag_lines all_five family.Sub w 3 (Some 1)) (Cond 4 E ∷ accumulator_ops w) (virtual s.regs temps s.flags) (virtual s.regs temps flags)
    (flags_do all_five family.Sub w 3 (Some 1) s.regs temps s.flags ∙ ap (virtual s.regs temps) (alu_flags alu_op.Sub (bits_in w) (get s w 0) x s.flags))

cmpxchg_ends : (w : Width) (m : Mem) (r : Operand) (next a x c f g h q : ℕ) (s : Cpu) → x < 2 ^ bits_in w → Numbers s.regs → Follows (Cmpxchg w m r) next (alone (flag_lines all_five family.Sub w 3 (Some 1) ++ (Cond 4 E ∷ accumulator_ops w)) ends.Tick) (virtual s.regs (eight a x c (get s w 0) q f g h) s.flags) (having s x) Onward
unfolding get
cmpxchg_ends w m r next a x c f g h q s l numbers =
    let flags = (sub_of (bits_in w) (get s w 0) x s.flags).flags in
    let end = virtual s.regs (compared_temps w flags.zf a x c f g h s) flags in
    let t = having s x in
    let made : did_all (accumulator_ops w) end ≡ virtual (merged w flags.zf t x).regs (did_all (accumulator_ops w) end).temps flags =
    ap (λ r. virtual r (did_all (accumulator_ops w) end).temps (flags_of (did_all (accumulator_ops w) end))) (accumulator_regs w flags.zf a x c f g h flags t l numbers)
    ∙ ap (virtual (merged w flags.zf t x).regs (did_all (accumulator_ops w) end).temps) (accumulator_flags w flags.zf a x c f g h flags s) in
    private_follows (Cmpxchg w m r) next (flag_lines all_five family.Sub w 3 (Some 1) ++ (Cond 4 E ∷ accumulator_ops w)) (virtual s.regs (eight a x c (get s w 0) q f g h) s.flags) t (with_flags (merged w flags.zf t x) flags) (did_all (accumulator_ops w) end).temps
    (cmpxchg_do w a x c f g h q s l numbers ∙ made) (resumed (Cmpxchg w m r) next t x refl ∙ cmpxchg_wants w m r next x s l) (merged_numbers w flags.zf t x l numbers) (accumulator_room w flags.zf a x c f g h flags s)

pub cmpxchg_law : (w : Width) (m : Mem) (r : Operand) (next : ℕ) → MemFits m → RegisterFits w r → Lifts (Cmpxchg w m r) next
unfolding first_access
cmpxchg_law w m r next inside fit =
    lifts (Cmpxchg w m r) next
    (λ a b c d e f g h s mid numbers.
    cmpxchg_follows (Cmpxchg w m r) next w 1 (address s next m) 3 2 (get s w 0) (value s w r) (address_line next m ∷ (reads w r 2 ++ (Get (ir_width w) 3 0 ∷ [])))
    (alone (flag_lines all_five family.Sub w 3 (Some 1) ++ (Cond 4 E ∷ accumulator_ops w)) ends.Tick) s (eight a b c d e f g h) (eight (address s next m) b (value s w r) (get s w 0) e f g h) mid numbers refl
    (operands_do next w m r (Get (ir_width w) 3 0 ∷ []) a b c d e f g h s fit.fits (not_loaded s w r c fit.no_memory) ∙ get_do w 3 0 (eight (address s next m) b (value s w r) d e f g h) s.flags s)
    refl refl refl refl
    (λ x l. cmpxchg_ends w m r next (address s next m) x (value s w r) f g h e s l numbers))
