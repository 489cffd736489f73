-- What the lines of the lifting table do, in the words of the thread's instructions.
use Rattle.std.proofs.Common.{◌≡◌, ℕ, ◌+◌, ◌*◌, ◌/◌, ◌%◌, ◌^◌, ◌<◌, ap, sym, ◌∙◌, refl, subst, Bool, true, false, List, [], ◌∷◌, ◌++◌, Option, Some, None, ℤ}
use Rattle.std.proofs.lemmas.List.{set-get_or}
use Rattle.std.specs.Prelude.{slice_index, slice_set, if◌then◌else◌, ◌==◌}
use Rattle.std.specs.Int.{w64, cast_unsigned}
use native.Mathlib.Nat.{mod-eq_of_lt}
use Rattle.guest_state.specs.declared.virtual_state.Virtual.{Virtual}
use Rattle.guest_state.specs.Virtual.{get_of, get_high_of, put_of, put_high_of}
use Rattle.guest_state.specs.Register.{low_of, high_of, written as state_written, written_high as state_written_high}
use Rattle.guest_state.specs.Width.{bits}
use Rattle.ir_meaning.specs.Does.{did, did_all, second, holds_now, register_or_zero}
use Rattle.ir_meaning.specs.Family.{flags_after, result_of}
use Rattle.ir_meaning.specs.Width.{state_width}
use Rattle.ir_syntax.specs.declared.cond.Flag.{Flag}
use Rattle.ir_syntax.specs.declared.cond.Flag.TheVariants.{Cf, Pf, Zf, Sf, Of}
use Rattle.ir_syntax.specs.declared.line.Family.{Family}
use Rattle.ir_syntax.specs.declared.line.Family.TheVariants as family
use Rattle.ir_syntax.specs.declared.line.Op.{Op}
use Rattle.ir_syntax.specs.declared.line.Op.TheVariants.{Calc}
use Rattle.ir_syntax.specs.Cond.{test}
use Rattle.ir_syntax.specs.Width.{bits_of}
use Rattle.ir_meaning.proofs.ResultLemmas.{result_fits}
use Rattle.x86_flags.specs.declared.flags.Flags.{Flags}
use Rattle.x86_flags.specs.Outcome.{Outcome, unless_zero, with_carry_of}
use Rattle.x86_flags.specs.Sums.{add_of, adc_of, sub_of, sbb_of, inc_of, dec_of, neg_of}
use Rattle.x86_flags.specs.Bitwise.{and_of, or_of, xor_of, not_of}
use Rattle.x86_flags.specs.Shifts.{shl_of, shr_of, sar_of, shl_by, shr_by, sar_by, count_of}
use Rattle.x86_flags.specs.Rotations.{rol_of, ror_of, rol_by, ror_by, turned}
use Rattle.x86_flags.specs.Products.{umul_of, smul_of, product_flags}
use Rattle.x86_forms.specs.declared.instructions.AluOp.{AluOp}
use Rattle.x86_forms.specs.declared.instructions.AluOp.TheVariants as alu_op
use Rattle.x86_forms.specs.declared.instructions.OneOp.{OneOp}
use Rattle.x86_forms.specs.declared.instructions.OneOp.TheVariants as one_op
use Rattle.x86_forms.specs.declared.instructions.ShiftOp.{ShiftOp}
use Rattle.x86_forms.specs.declared.instructions.ShiftOp.TheVariants as shift_op
use Rattle.x86_forms.specs.declared.conditions.Cond.{Cond}
use Rattle.x86_forms.specs.declared.conditions.Cond.TheVariants as cond
use Rattle.x86_forms.specs.declared.operands.Width.{Width}
use Rattle.x86_forms.specs.declared.operands.Width.TheVariants.{W8, W16, W32, W64}
use Rattle.x86_forms.specs.declared.operands.Base.{Base}
use Rattle.x86_forms.specs.declared.operands.Base.TheVariants as base
use Rattle.x86_forms.specs.declared.operands.Mem.{Mem}
use Rattle.x86_forms.specs.declared.operands.Operand.{Operand}
use Rattle.x86_forms.specs.declared.operands.Operand.TheVariants as operand
use Rattle.x86_forms.specs.Groups.{is_memory}
use Rattle.x86_forms.specs.Limits.{OperandFits}
use Rattle.x86_forms.specs.Widths.{bits_in}
use Rattle.x86_model.specs.declared.cpu.Cpu.{Cpu}
use Rattle.x86_model.specs.Operands.{address, base_of, index_of, target, value, assigned}
use Rattle.x86_model.specs.Registers.{reg, low, high_byte, get, put, put_high, written, written_high, loaded}
use Rattle.x86_model.specs.Results.{holds, alu, one, product}
use Rattle.lift_table.specs.LiftLines.{ir_width, ir_cond, base_register, number_in, address_line, reads, puts, flag_lines, all_five, overflow_and_carry, alu_family, one_family, one_flags, shift_family, shift_flags, product_family}
use Rattle.lift_table.proofs.LiftNumbers.{low_lt, low_same, high_byte_lt, rebased}

-- registers, temporaries and flags as one state
abbrev pub virtual : List ℕ → List ℕ → Flags → Virtual
virtual regs temps f = record { regs = regs; temps = temps; cf = f.cf; pf = f.pf; zf = f.zf; sf = f.sf; of = f.of }

-- ---- widths

pub same_bits : (w : Width) → bits_of (ir_width w) ≡ bits_in w
same_bits W8 = refl
same_bits W16 = refl
same_bits W32 = refl
same_bits W64 = refl

pub same_low : (w : Width) (n : ℕ) → low_of (state_width (ir_width w)) n ≡ low w n
unfolding low_of low bits
same_low W8 n = refl
same_low W16 n = refl
same_low W32 n = refl
same_low W64 n = refl

pub same_high : (n : ℕ) → high_of n ≡ high_byte n
unfolding high_of high_byte
same_high n = refl

pub same_written : (w : Width) (n v : ℕ) → v < 2 ^ bits_in w → state_written (state_width (ir_width w)) n v ≡ written w n v
unfolding state_written written
same_written W8 n v h = ap (λ k. n / 2 ^ 8 * 2 ^ 8 + k) (sym (mod-eq_of_lt h))
same_written W16 n v h = ap (λ k. n / 2 ^ 16 * 2 ^ 16 + k) (sym (mod-eq_of_lt h))
same_written W32 n v h = sym (mod-eq_of_lt h)
same_written W64 n v h = refl

pub same_written_high : (n v : ℕ) → v < 2 ^ 8 → state_written_high n v ≡ written_high n v
unfolding state_written_high written_high
same_written_high n v h = ap (λ k. n / 2 ^ 16 * 2 ^ 16 + k * 2 ^ 8 + n % 2 ^ 8) (sym (mod-eq_of_lt h))

-- ---- conditions

pub same_test : (cc : Cond) (regs temps : List ℕ) (f : Flags) → test (ir_cond cc) (holds_now (virtual regs temps f)) ≡ holds cc f
same_test cond.O regs temps f = refl
same_test cond.No regs temps f = refl
same_test cond.B regs temps f = refl
same_test cond.Ae regs temps f = refl
same_test cond.E regs temps f = refl
same_test cond.Ne regs temps f = refl
same_test cond.Be regs temps f = refl
same_test cond.A regs temps f = refl
same_test cond.S regs temps f = refl
same_test cond.Ns regs temps f = refl
same_test cond.P regs temps f = refl
same_test cond.Np regs temps f = refl
same_test cond.L regs temps f = refl
same_test cond.Ge regs temps f = refl
same_test cond.Le regs temps f = refl
same_test cond.G regs temps f = refl

-- ---- lines one after another

pub did_append : (xs ys : List Op) (v : Virtual) → did_all (xs ++ ys) v ≡ did_all ys (did_all xs v)
did_append [] ys v = refl
did_append (x ∷ xs) ys v = did_append xs ys (did x v)

pub after : (xs ys : List Op) (v u : Virtual) → did_all xs v ≡ u → did_all (xs ++ ys) v ≡ did_all ys u
after xs ys v u e = did_append xs ys v ∙ ap (did_all ys) e

-- ---- operands

pub value_lt : (w : Width) (o : Operand) (s : Cpu) → OperandFits w o → value s w o < 2 ^ bits_in w
unfolding value get loaded
value_lt w (operand.Reg r) s h = low_lt w (reg s r)
value_lt w (operand.High r) s h = rw h.0 (high_byte_lt (reg s r))
value_lt w (operand.Mem m) s h = low_lt w _
value_lt w (operand.Imm n) s h = low_lt w n

-- an operand is read, or was loaded before
pub reads_do : (w : Width) (o : Operand) (t : ℕ) (temps : List ℕ) (f : Flags) (s : Cpu) → OperandFits w o → (is_memory o ≡ true → slice_index temps t ≡ value s w o) → did_all (reads w o t) (virtual s.regs temps f) ≡ virtual s.regs (slice_set temps t (value s w o)) f
unfolding value get get_of get_high_of
reads_do w (operand.Reg r) t temps f s h ready = ap (λ n. virtual s.regs (slice_set temps t n) f) (same_low w (reg s r))
reads_do w (operand.High r) t temps f s h ready = ap (λ n. virtual s.regs (slice_set temps t n) f) (same_high (reg s r))
reads_do w (operand.Imm n) t temps f s h ready = ap (λ k. virtual s.regs (slice_set temps t k) f) (sym (low_same w n h))
reads_do w (operand.Mem m) t temps f s h ready =
    let kept : slice_set temps t (value s w (operand.Mem m)) ≡ temps = ap (slice_set temps t) (sym (ready refl)) ∙ set-get_or temps t 0 in
    ap (λ xs. virtual s.regs xs f) (sym kept)

-- a register or a part of one is written
pub puts_do : (w : Width) (o : Operand) (t : ℕ) (temps : List ℕ) (f : Flags) (s : Cpu) → OperandFits w o → slice_index temps t < 2 ^ bits_in w → did_all (puts w o t) (virtual s.regs temps f) ≡ virtual (assigned s w o (slice_index temps t)).regs temps f
unfolding assigned put put_high put_of put_high_of
puts_do w (operand.Reg r) t temps f s h l = ap (λ n. virtual (slice_set s.regs r n) temps f) (same_written w (reg s r) (slice_index temps t) l)
puts_do w (operand.High r) t temps f s h l =
    let byte : slice_index temps t < 2 ^ 8 = subst (λ (u : Width). slice_index temps t < 2 ^ bits_in u) h.0 l in
    ap (λ n. virtual (slice_set s.regs r n) temps f) (same_written_high (reg s r) (slice_index temps t) byte)
puts_do w (operand.Imm n) t temps f s h l = refl
puts_do w (operand.Mem m) t temps f s h l = refl

-- the address of an operand in memory
sum_is : (next : ℕ) (b : Base) (i : Option ℕ) (scale : ℕ) (disp : ℤ) (s : Cpu) → (register_or_zero s.regs (base_register b) + register_or_zero s.regs i * scale + number_in next b disp) % 2 ^ 64 ≡ (base_of s next b + index_of s i * scale + cast_unsigned w64 disp) % 2 ^ 64
unfolding target
sum_is next base.None None scale disp s = refl
sum_is next base.None (Some r) scale disp s = refl
sum_is next (base.Reg q) None scale disp s = refl
sum_is next (base.Reg q) (Some r) scale disp s = refl
sum_is next base.Rip None scale disp s = rebased next (cast_unsigned w64 disp) (0 * scale)
sum_is next base.Rip (Some r) scale disp s = rebased next (cast_unsigned w64 disp) (reg s r * scale)

pub address_is : (next : ℕ) (m : Mem) (regs temps : List ℕ) (f : Flags) (s : Cpu) → regs ≡ s.regs → did (address_line next m) (virtual regs temps f) ≡ virtual regs (slice_set temps 0 (address s next m)) f
unfolding address
address_is next m regs temps f s e = ap (λ n. virtual regs (slice_set temps 0 n) f) (rw e (sum_is next m.base m.index m.scale m.disp s))

-- ---- flags

-- the flags after these are put one after another
abbrev pub put_flags : List Flag → (Flags → Flags) → Flags → Flags
put_flags [] after f = f
put_flags (Cf ∷ fs) after f = put_flags fs after (record f { cf = (after f).cf })
put_flags (Pf ∷ fs) after f = put_flags fs after (record f { pf = (after f).pf })
put_flags (Zf ∷ fs) after f = put_flags fs after (record f { zf = (after f).zf })
put_flags (Sf ∷ fs) after f = put_flags fs after (record f { sf = (after f).sf })
put_flags (Of ∷ fs) after f = put_flags fs after (record f { of = (after f).of })

flags_do_at : (fs : List Flag) (kind : Family) (w : Width) (a : ℕ) (b : Option ℕ) (regs temps : List ℕ) (f : Flags) → did_all (flag_lines fs kind w a b) (virtual regs temps f) ≡ virtual regs temps (put_flags fs (flags_after kind (bits_of (ir_width w)) (slice_index temps a) (second temps b)) f)
flags_do_at [] kind w a b regs temps f = refl
flags_do_at (Cf ∷ fs) kind w a b regs temps f = flags_do_at fs kind w a b regs temps (record f { cf = (flags_after kind (bits_of (ir_width w)) (slice_index temps a) (second temps b) f).cf })
flags_do_at (Pf ∷ fs) kind w a b regs temps f = flags_do_at fs kind w a b regs temps (record f { pf = (flags_after kind (bits_of (ir_width w)) (slice_index temps a) (second temps b) f).pf })
flags_do_at (Zf ∷ fs) kind w a b regs temps f = flags_do_at fs kind w a b regs temps (record f { zf = (flags_after kind (bits_of (ir_width w)) (slice_index temps a) (second temps b) f).zf })
flags_do_at (Sf ∷ fs) kind w a b regs temps f = flags_do_at fs kind w a b regs temps (record f { sf = (flags_after kind (bits_of (ir_width w)) (slice_index temps a) (second temps b) f).sf })
flags_do_at (Of ∷ fs) kind w a b regs temps f = flags_do_at fs kind w a b regs temps (record f { of = (flags_after kind (bits_of (ir_width w)) (slice_index temps a) (second temps b) f).of })

pub flags_do : (fs : List Flag) (kind : Family) (w : Width) (a : ℕ) (b : Option ℕ) (regs temps : List ℕ) (f : Flags) → did_all (flag_lines fs kind w a b) (virtual regs temps f) ≡ virtual regs temps (put_flags fs (flags_after kind (bits_in w) (slice_index temps a) (second temps b)) f)
flags_do fs kind w a b regs temps f =
    subst (λ (n : ℕ). did_all (flag_lines fs kind w a b) (virtual regs temps f) ≡ virtual regs temps (put_flags fs (flags_after kind n (slice_index temps a) (second temps b)) f)) (same_bits w) (flags_do_at fs kind w a b regs temps f)

-- a result
pub calc_do : (kind : Family) (w : Width) (t a : ℕ) (b : Option ℕ) (regs temps : List ℕ) (f : Flags) → did (Calc kind (ir_width w) t a b) (virtual regs temps f) ≡ virtual regs (slice_set temps t (result_of kind (bits_in w) (slice_index temps a) (second temps b) f)) f
calc_do kind w t a b regs temps f = ap (λ n. virtual regs (slice_set temps t (result_of kind n (slice_index temps a) (second temps b) f)) f) (same_bits w)

-- ---- the flags of whole families

-- a count of 0 keeps each of the five
five_kept : (still : Bool) (a : ℕ) (f : Flags) (o : Outcome) → put_flags all_five (λ g. (if still then (record { value = a; flags = g }) else o).flags) f ≡ (if still then (record { value = a; flags = f }) else o).flags
five_kept true a f o = refl
five_kept false a f o = refl

abbrev turned_to : ℕ → Flags → Bool → Bool → Outcome
turned_to v g carry overflow = record { value = v; flags = record g { cf = carry; of = overflow } }

turned_kept : (still : Bool) (a v : ℕ) (f : Flags) (carry overflow : Bool) → put_flags overflow_and_carry (λ g. (if still then (record { value = a; flags = g }) else turned_to v g carry overflow).flags) f ≡ (if still then (record { value = a; flags = f }) else turned_to v f carry overflow).flags
turned_kept true a v f carry overflow = refl
turned_kept false a v f carry overflow = refl

pub alu_flags : (op : AluOp) (n a b : ℕ) (f : Flags) → put_flags all_five (flags_after (alu_family op) n a b) f ≡ (alu op n a b f).flags
unfolding alu add_of adc_of sub_of sbb_of and_of or_of xor_of
alu_flags alu_op.Add n a b f = refl
alu_flags alu_op.Or n a b f = refl
alu_flags alu_op.Adc n a b f = refl
alu_flags alu_op.Sbb n a b f = refl
alu_flags alu_op.And n a b f = refl
alu_flags alu_op.Sub n a b f = refl
alu_flags alu_op.Xor n a b f = refl
alu_flags alu_op.Cmp n a b f = refl
alu_flags alu_op.Test n a b f = refl

pub alu_value : (op : AluOp) (n a b : ℕ) (f : Flags) → result_of (alu_family op) n a b f ≡ (alu op n a b f).value
unfolding alu
alu_value alu_op.Add n a b f = refl
alu_value alu_op.Or n a b f = refl
alu_value alu_op.Adc n a b f = refl
alu_value alu_op.Sbb n a b f = refl
alu_value alu_op.And n a b f = refl
alu_value alu_op.Sub n a b f = refl
alu_value alu_op.Xor n a b f = refl
alu_value alu_op.Cmp n a b f = refl
alu_value alu_op.Test n a b f = refl

pub alu_fits : (op : AluOp) (n a b : ℕ) (f : Flags) → a < 2 ^ n → b < 2 ^ n → (alu op n a b f).value < 2 ^ n
unfolding alu
alu_fits alu_op.Add n a b f h k = result_fits family.Add n a b f (h, k)
alu_fits alu_op.Or n a b f h k = result_fits family.Or n a b f (h, k)
alu_fits alu_op.Adc n a b f h k = result_fits family.Adc n a b f (h, k)
alu_fits alu_op.Sbb n a b f h k = result_fits family.Sbb n a b f (h, k)
alu_fits alu_op.And n a b f h k = result_fits family.And n a b f (h, k)
alu_fits alu_op.Sub n a b f h k = result_fits family.Sub n a b f (h, k)
alu_fits alu_op.Xor n a b f h k = result_fits family.Xor n a b f (h, k)
alu_fits alu_op.Cmp n a b f h k = result_fits family.Sub n a b f (h, k)
alu_fits alu_op.Test n a b f h k = result_fits family.And n a b f (h, k)

pub one_flags_are : (op : OneOp) (n a : ℕ) (f : Flags) → put_flags (one_flags op) (flags_after (one_family op) n a 0) f ≡ (one op n a f).flags
unfolding one inc_of dec_of neg_of not_of with_carry_of
one_flags_are one_op.Inc n a f = refl
one_flags_are one_op.Dec n a f = refl
one_flags_are one_op.Not n a f = refl
one_flags_are one_op.Neg n a f = refl

pub one_value : (op : OneOp) (n a : ℕ) (f : Flags) → result_of (one_family op) n a 0 f ≡ (one op n a f).value
unfolding one
one_value one_op.Inc n a f = refl
one_value one_op.Dec n a f = refl
one_value one_op.Not n a f = refl
one_value one_op.Neg n a f = refl

pub one_fits : (op : OneOp) (n a : ℕ) (f : Flags) → a < 2 ^ n → (one op n a f).value < 2 ^ n
unfolding one
one_fits one_op.Inc n a f h = result_fits family.Inc n a 0 f h
one_fits one_op.Dec n a f h = result_fits family.Dec n a 0 f h
one_fits one_op.Not n a f h = result_fits family.Not n a 0 f h
one_fits one_op.Neg n a f h = result_fits family.Neg n a 0 f h

-- what a shift or a rotation makes
abbrev pub shifted : ShiftOp → ℕ → ℕ → ℕ → Flags → Outcome
shifted shift_op.Shl n a b f = shl_of n a b f
shifted shift_op.Shr n a b f = shr_of n a b f
shifted shift_op.Sar n a b f = sar_of n a b f
shifted shift_op.Rol n a b f = rol_of n a b f
shifted shift_op.Ror n a b f = ror_of n a b f

pub shift_flags_are : (op : ShiftOp) (n a b : ℕ) (f : Flags) → put_flags (shift_flags op) (flags_after (shift_family op) n a b) f ≡ (shifted op n a b f).flags
unfolding shl_of shr_of sar_of rol_of ror_of unless_zero rol_by ror_by turned
shift_flags_are shift_op.Shl n a b f = five_kept (count_of n b == 0) a f (shl_by n a (count_of n b))
shift_flags_are shift_op.Shr n a b f = five_kept (count_of n b == 0) a f (shr_by n a (count_of n b))
shift_flags_are shift_op.Sar n a b f = five_kept (count_of n b == 0) a f (sar_by n a (count_of n b))
shift_flags_are shift_op.Rol n a b f = turned_kept (count_of n b == 0) a (rol_by n a (count_of n b) f).value f (rol_by n a (count_of n b) f).flags.cf (rol_by n a (count_of n b) f).flags.of
shift_flags_are shift_op.Ror n a b f = turned_kept (count_of n b == 0) a (ror_by n a (count_of n b) f).value f (ror_by n a (count_of n b) f).flags.cf (ror_by n a (count_of n b) f).flags.of

-- a count whose used part is 0 leaves flags
pub shift_still : (op : ShiftOp) (n a b : ℕ) (f : Flags) → (count_of n b == 0) ≡ true → (shifted op n a b f).flags ≡ f
unfolding shl_of shr_of sar_of rol_of ror_of unless_zero
shift_still shift_op.Shl n a b f e = rw e
shift_still shift_op.Shr n a b f e = rw e
shift_still shift_op.Sar n a b f e = rw e
shift_still shift_op.Rol n a b f e = rw e
shift_still shift_op.Ror n a b f e = rw e

pub shift_value : (op : ShiftOp) (n a b : ℕ) (f : Flags) → result_of (shift_family op) n a b f ≡ (shifted op n a b f).value
shift_value shift_op.Shl n a b f = refl
shift_value shift_op.Shr n a b f = refl
shift_value shift_op.Sar n a b f = refl
shift_value shift_op.Rol n a b f = refl
shift_value shift_op.Ror n a b f = refl

-- a multiplication clears what it leaves undefined
pub product_flags_are : (signed : Bool) (n a b : ℕ) (f : Flags) → put_flags overflow_and_carry (flags_after (product_family signed) n a b) (record f { pf = false; zf = false; sf = false }) ≡ (product signed n a b).flags
unfolding product umul_of smul_of product_flags
product_flags_are false n a b f = refl
product_flags_are true n a b f = refl
