-- The last part of each instruction that computes on operands, which are registers, numbers, or memory that was loaded.
use Rattle.std.proofs.Common.{◌≡◌, ℕ, ap, ◌∙◌, refl, true, false, List, ◌∷◌, ◌++◌, Some, None}
use Rattle.std.specs.Prelude.{slice_index}
use Rattle.ir_meaning.specs.Does.{did_all}
use Rattle.ir_syntax.specs.declared.line.Op.TheVariants.{Calc}
use Rattle.ir_syntax.specs.declared.line.PartEnd.TheVariants as ends
use Rattle.x86_flags.specs.Outcome.{Outcome}
use Rattle.x86_forms.specs.declared.operands.Width.{Width}
use Rattle.x86_forms.specs.declared.operands.Operand.{Operand}
use Rattle.x86_forms.specs.declared.instructions.AluOp.{AluOp}
use Rattle.x86_forms.specs.declared.instructions.AluOp.TheVariants as alu_op
use Rattle.x86_forms.specs.declared.instructions.OneOp.{OneOp}
use Rattle.x86_forms.specs.declared.instructions.Instr.{Instr}
use Rattle.x86_forms.specs.declared.instructions.Instr.TheVariants.{Alu, One}
use Rattle.x86_forms.specs.Groups.{is_memory, touches_memory}
use Rattle.x86_forms.specs.Limits.{OperandFits, PlaceFits, PairFits}
use Rattle.x86_forms.specs.Widths.{bits_in}
use Rattle.x86_model.specs.declared.cpu.Cpu.{Cpu}
use Rattle.x86_model.specs.Finishing.{finished, resulting, comparing, alu_want, one_want}
use Rattle.x86_model.specs.Operands.{value}
use Rattle.x86_model.specs.Registers.{with_flags}
use Rattle.x86_model.specs.Results.{alu, one}
use Rattle.x86_model.specs.Want.{want_of}
use Rattle.lift_table.specs.Follow.{Follows, Onward, Lifts}
use Rattle.lift_table.specs.LiftLines.{ir_width, reads, alone, given_at, flag_lines, all_five, alu_family, one_family, one_flags}
use Rattle.lift_table.specs.LiftTable.{both_read, alu_lines, alu_parts, one_parts}
use Rattle.lift_table.proofs.LiftWords.{virtual, after, value_lt, reads_do, flags_do, calc_do, alu_flags, alu_value, alu_fits, one_flags_are, one_value, one_fits}
use Rattle.lift_table.proofs.LiftFollow.{Numbers, IsAt, is_at_same, private_follows, given_follows, eight, lifts, quiet, no_loads, is_at_none, left_false, right_false}

-- an operand in memory was loaded to a temporary
abbrev pub WasLoaded : Cpu → Width → Operand → ℕ → Type 0
WasLoaded s w o x = is_memory o ≡ true → x ≡ value s w o

pub not_loaded : (s : Cpu) (w : Width) (o : Operand) (x : ℕ) → is_memory o ≡ false → WasLoaded s w o x
not_loaded s w o x e t = let no : ⊥ = cc in absurd no

-- two operands are read
pub both_do : (w : Width) (dst src : Operand) (a b c d e f g h : ℕ) (s : Cpu) → OperandFits w dst → OperandFits w src → WasLoaded s w dst b → WasLoaded s w src c → did_all (both_read w dst src) (virtual s.regs (eight a b c d e f g h) s.flags) ≡ virtual s.regs (eight a (value s w dst) (value s w src) d e f g h) s.flags
both_do w dst src a b c d e f g h s p q r t =
    after (reads w dst 1) (reads w src 2) (virtual s.regs (eight a b c d e f g h) s.flags) (virtual s.regs (eight a (value s w dst) c d e f g h) s.flags) (reads_do w dst 1 (eight a b c d e f g h) s.flags s p r)
    ∙ reads_do w src 2 (eight a (value s w dst) c d e f g h) s.flags s q t

-- ---- two operands

outcome_of : AluOp → Width → Operand → Operand → Cpu → Outcome
outcome_of op w dst src s = alu op (bits_in w) (value s w dst) (value s w src) s.flags

alu_put : (op : AluOp) (w : Width) (dst src : Operand) (temps : List ℕ) (s : Cpu) → slice_index temps 1 ≡ value s w dst → slice_index temps 2 ≡ value s w src → did_all (alu_lines op w) (virtual s.regs temps s.flags) ≡ virtual s.regs temps (outcome_of op w dst src s).flags
unfolding outcome_of
alu_put op w dst src temps s p q =
    flags_do all_five (alu_family op) w 1 (Some 2) s.regs temps s.flags
    ∙ ap (virtual s.regs temps) (rw (p, q) (alu_flags op (bits_in w) (value s w dst) (value s w src) s.flags))

alu_do : (op : AluOp) (w : Width) (dst src : Operand) (a b c d e f g h : ℕ) (s : Cpu) → OperandFits w dst → OperandFits w src → WasLoaded s w dst b → WasLoaded s w src c → did_all (both_read w dst src ++ (Calc (alu_family op) (ir_width w) 3 1 (Some 2) ∷ alu_lines op w)) (virtual s.regs (eight a b c d e f g h) s.flags) ≡ virtual s.regs (eight a (value s w dst) (value s w src) (outcome_of op w dst src s).value e f g h) (outcome_of op w dst src s).flags
unfolding outcome_of
alu_do op w dst src a b c d e f g h s p q r t =
    let o = outcome_of op w dst src s in
    let read = virtual s.regs (eight a (value s w dst) (value s w src) d e f g h) s.flags in
    after (both_read w dst src) (Calc (alu_family op) (ir_width w) 3 1 (Some 2) ∷ alu_lines op w) (virtual s.regs (eight a b c d e f g h) s.flags) read (both_do w dst src a b c d e f g h s p q r t)
    ∙ ap (did_all (alu_lines op w)) (calc_do (alu_family op) w 3 1 (Some 2) s.regs (eight a (value s w dst) (value s w src) d e f g h) s.flags)
    ∙ ap (λ x. did_all (alu_lines op w) (virtual s.regs (eight a (value s w dst) (value s w src) x e f g h) s.flags)) (alu_value op (bits_in w) (value s w dst) (value s w src) s.flags)
    ∙ alu_put op w dst src (eight a (value s w dst) (value s w src) o.value e f g h) s refl refl

alu_result : (op : AluOp) (w : Width) (dst src : Operand) (i : Instr) (next a b c d e f g h : ℕ) (s : Cpu) → PairFits w dst src → WasLoaded s w dst b → WasLoaded s w src c → IsAt next s (eight a b c d e f g h) dst → Numbers s.regs → want_of i next s ≡ resulting s next w dst (outcome_of op w dst src s) → Follows i next (given_at (both_read w dst src ++ (Calc (alu_family op) (ir_width w) 3 1 (Some 2) ∷ alu_lines op w)) w dst 3) (virtual s.regs (eight a b c d e f g h) s.flags) s Onward
unfolding resulting outcome_of
alu_result op w dst src i next a b c d e f g h s fit r t at numbers wants =
    let o = outcome_of op w dst src s in
    given_follows i next w dst 3 (both_read w dst src ++ (Calc (alu_family op) (ir_width w) 3 1 (Some 2) ∷ alu_lines op w)) (virtual s.regs (eight a b c d e f g h) s.flags) s (with_flags s o.flags) (eight a (value s w dst) (value s w src) o.value e f g h)
    (alu_do op w dst src a b c d e f g h s fit.target.fits fit.source r t)
    (alu_fits op (bits_in w) (value s w dst) (value s w src) s.flags (value_lt w dst s fit.target.fits) (value_lt w src s fit.source))
    fit.target (is_at_same next s (with_flags s o.flags) (eight a b c d e f g h) (eight a (value s w dst) (value s w src) o.value e f g h) dst refl refl at) wants numbers refl

alu_compare : (op : AluOp) (w : Width) (dst src : Operand) (i : Instr) (next a b c d e f g h : ℕ) (s : Cpu) → PairFits w dst src → WasLoaded s w dst b → WasLoaded s w src c → Numbers s.regs → want_of i next s ≡ comparing s next (outcome_of op w dst src s) → Follows i next (alone (both_read w dst src ++ alu_lines op w) ends.Tick) (virtual s.regs (eight a b c d e f g h) s.flags) s Onward
unfolding comparing outcome_of
alu_compare op w dst src i next a b c d e f g h s fit r t numbers wants =
    let o = outcome_of op w dst src s in
    let read = virtual s.regs (eight a (value s w dst) (value s w src) d e f g h) s.flags in
    let made : did_all (both_read w dst src ++ alu_lines op w) (virtual s.regs (eight a b c d e f g h) s.flags) ≡ virtual s.regs (eight a (value s w dst) (value s w src) d e f g h) o.flags =
    after (both_read w dst src) (alu_lines op w) (virtual s.regs (eight a b c d e f g h) s.flags) read (both_do w dst src a b c d e f g h s fit.target.fits fit.source r t)
    ∙ alu_put op w dst src (eight a (value s w dst) (value s w src) d e f g h) s refl refl in
    private_follows i next (both_read w dst src ++ alu_lines op w) (virtual s.regs (eight a b c d e f g h) s.flags) s (with_flags s o.flags) (eight a (value s w dst) (value s w src) d e f g h) made wants numbers refl

pub alu_ends : (op : AluOp) (w : Width) (dst src : Operand) (next a b c d e f g h : ℕ) (s : Cpu) → PairFits w dst src → WasLoaded s w dst b → WasLoaded s w src c → IsAt next s (eight a b c d e f g h) dst → Numbers s.regs → want_of (Alu op w dst src) next s ≡ finished (Alu op w dst src) next s → Follows (Alu op w dst src) next (alu_parts op w dst src) (virtual s.regs (eight a b c d e f g h) s.flags) s Onward
unfolding finished alu_want outcome_of
alu_ends alu_op.Add w dst src next a b c d e f g h s fit r t at numbers wants = alu_result alu_op.Add w dst src (Alu alu_op.Add w dst src) next a b c d e f g h s fit r t at numbers wants
alu_ends alu_op.Or w dst src next a b c d e f g h s fit r t at numbers wants = alu_result alu_op.Or w dst src (Alu alu_op.Or w dst src) next a b c d e f g h s fit r t at numbers wants
alu_ends alu_op.Adc w dst src next a b c d e f g h s fit r t at numbers wants = alu_result alu_op.Adc w dst src (Alu alu_op.Adc w dst src) next a b c d e f g h s fit r t at numbers wants
alu_ends alu_op.Sbb w dst src next a b c d e f g h s fit r t at numbers wants = alu_result alu_op.Sbb w dst src (Alu alu_op.Sbb w dst src) next a b c d e f g h s fit r t at numbers wants
alu_ends alu_op.And w dst src next a b c d e f g h s fit r t at numbers wants = alu_result alu_op.And w dst src (Alu alu_op.And w dst src) next a b c d e f g h s fit r t at numbers wants
alu_ends alu_op.Sub w dst src next a b c d e f g h s fit r t at numbers wants = alu_result alu_op.Sub w dst src (Alu alu_op.Sub w dst src) next a b c d e f g h s fit r t at numbers wants
alu_ends alu_op.Xor w dst src next a b c d e f g h s fit r t at numbers wants = alu_result alu_op.Xor w dst src (Alu alu_op.Xor w dst src) next a b c d e f g h s fit r t at numbers wants
alu_ends alu_op.Cmp w dst src next a b c d e f g h s fit r t at numbers wants = alu_compare alu_op.Cmp w dst src (Alu alu_op.Cmp w dst src) next a b c d e f g h s fit r t numbers wants
alu_ends alu_op.Test w dst src next a b c d e f g h s fit r t at numbers wants = alu_compare alu_op.Test w dst src (Alu alu_op.Test w dst src) next a b c d e f g h s fit r t numbers wants

-- without memory
pub alu_law : (op : AluOp) (w : Width) (dst src : Operand) (next : ℕ) → PairFits w dst src → touches_memory (Alu op w dst src) ≡ false → Lifts (Alu op w dst src) next
alu_law op w dst src next fit none =
    let no_dst = left_false (is_memory dst) (is_memory src) none in
    let no_src = right_false (is_memory dst) (is_memory src) none in
    lifts (Alu op w dst src) next
    (λ a b c d e f g h s mid numbers.
    let at : IsAt next s (eight a b c d e f g h) dst = is_at_none next s (eight a b c d e f g h) dst no_dst in
    rw (no_loads next w dst 1 no_dst, no_loads next w src 2 no_src)
    (alu_ends op w dst src next a b c d e f g h s fit (not_loaded s w dst b no_dst) (not_loaded s w src c no_src) at numbers (quiet (Alu op w dst src) next s none mid)))

-- ---- one operand

one_outcome : OneOp → Width → Operand → Cpu → Outcome
one_outcome op w dst s = one op (bits_in w) (value s w dst) s.flags

pub one_ends : (op : OneOp) (w : Width) (dst : Operand) (next a b c d e f g h : ℕ) (s : Cpu) → PlaceFits w dst → WasLoaded s w dst b → IsAt next s (eight a b c d e f g h) dst → Numbers s.regs → want_of (One op w dst) next s ≡ finished (One op w dst) next s → Follows (One op w dst) next (one_parts op w dst) (virtual s.regs (eight a b c d e f g h) s.flags) s Onward
unfolding finished one_want resulting one_outcome
one_ends op w dst next a b c d e f g h s fit r at numbers wants =
    let o = one_outcome op w dst s in
    let first = virtual s.regs (eight a b c d e f g h) s.flags in
    let lines = flag_lines (one_flags op) (one_family op) w 1 None in
    let made : did_all (reads w dst 1 ++ (Calc (one_family op) (ir_width w) 3 1 None ∷ lines)) first ≡ virtual s.regs (eight a (value s w dst) c o.value e f g h) o.flags =
    after (reads w dst 1) (Calc (one_family op) (ir_width w) 3 1 None ∷ lines) first (virtual s.regs (eight a (value s w dst) c d e f g h) s.flags) (reads_do w dst 1 (eight a b c d e f g h) s.flags s fit.fits r)
    ∙ ap (did_all lines) (calc_do (one_family op) w 3 1 None s.regs (eight a (value s w dst) c d e f g h) s.flags)
    ∙ ap (λ x. did_all lines (virtual s.regs (eight a (value s w dst) c x e f g h) s.flags)) (one_value op (bits_in w) (value s w dst) s.flags)
    ∙ flags_do (one_flags op) (one_family op) w 1 None s.regs (eight a (value s w dst) c o.value e f g h) s.flags
    ∙ ap (virtual s.regs (eight a (value s w dst) c o.value e f g h)) (one_flags_are op (bits_in w) (value s w dst) s.flags) in
    given_follows (One op w dst) next w dst 3 (reads w dst 1 ++ (Calc (one_family op) (ir_width w) 3 1 None ∷ lines)) first s (with_flags s o.flags) (eight a (value s w dst) c o.value e f g h)
    made (one_fits op (bits_in w) (value s w dst) s.flags (value_lt w dst s fit.fits)) fit
    (is_at_same next s (with_flags s o.flags) (eight a b c d e f g h) (eight a (value s w dst) c o.value e f g h) dst refl refl at) wants numbers refl

pub one_law : (op : OneOp) (w : Width) (dst : Operand) (next : ℕ) → PlaceFits w dst → touches_memory (One op w dst) ≡ false → Lifts (One op w dst) next
one_law op w dst next fit none =
    lifts (One op w dst) next
    (λ a b c d e f g h s mid numbers.
    let at : IsAt next s (eight a b c d e f g h) dst = is_at_none next s (eight a b c d e f g h) dst none in
    rw (no_loads next w dst 1 none)
    (one_ends op w dst next a b c d e f g h s fit (not_loaded s w dst b none) at numbers (quiet (One op w dst) next s none mid)))
