-- The last part of each instruction that shifts, multiplies or divides.
use Rattle.std.proofs.Common.{◌≡◌, ℕ, zero, suc, ◌-◌, ◌/◌, ◌%◌, ◌<◌, ◌≤◌, ◌^◌, arith, ap, sym, ◌∙◌, refl, subst, Bool, true, false, List, [], ◌∷◌, ◌++◌, length, Option, Some, None, lit<, lit≤}
use Rattle.std.proofs.Math.Nat.{mod-mod}
use Rattle.std.proofs.lemmas.Nat.{mod_below}
use Rattle.std.proofs.lemmas.Bool.{leb-false}
use Rattle.std.specs.Prelude.{slice_index, slice_set, ◌==◌, if◌then◌else◌, ◌||◌, nat_le, ⊤}
use Rattle.guest_state.specs.declared.virtual_state.Virtual.{Virtual}
use Rattle.guest_state.specs.Virtual.{get_of, put_of}
use Rattle.ir_meaning.specs.Does.{did, did_all, quotient_of, divided as divided_by}
use Rattle.ir_meaning.specs.Family.{result_of}
use Rattle.ir_meaning.specs.Width.{state_width}
use Rattle.ir_meaning.proofs.ResultLemmas.{low_bits_lt, result_fits}
use Rattle.ir_syntax.specs.declared.block.Part.{Part}
use Rattle.ir_syntax.specs.declared.line.Family.TheVariants as family
use Rattle.ir_syntax.specs.declared.line.Op.{Op}
use Rattle.ir_syntax.specs.declared.line.Op.TheVariants.{Get, Put, Const, Calc}
use Rattle.ir_syntax.specs.declared.line.PartEnd.TheVariants as ends
use Rattle.ir_syntax.specs.declared.width.Width.TheVariants as ir
use Rattle.x86_flags.specs.declared.flags.Flags.{Flags}
use Rattle.x86_flags.specs.Outcome.{Outcome, unless_zero}
use Rattle.x86_flags.specs.Products.{smul_of}
use Rattle.x86_flags.specs.Quotients.{udiv_of, sdiv_of, joined}
use Rattle.x86_flags.specs.Rotations.{rol_of, ror_of, rol_by, ror_by}
use Rattle.x86_flags.specs.Shifts.{count_of, shl_of, shr_of, sar_of, shl_by, shr_by, sar_by}
use Rattle.x86_forms.specs.declared.operands.Width.{Width}
use Rattle.x86_forms.specs.declared.operands.Width.TheVariants.{W8, W16, W32, W64}
use Rattle.x86_forms.specs.declared.operands.Operand.{Operand}
use Rattle.x86_forms.specs.declared.operands.Operand.TheVariants as operand
use Rattle.x86_forms.specs.declared.instructions.ShiftOp.{ShiftOp}
use Rattle.x86_forms.specs.declared.instructions.ShiftOp.TheVariants as shift_op
use Rattle.x86_forms.specs.declared.instructions.Instr.{Instr}
use Rattle.x86_forms.specs.declared.instructions.Instr.TheVariants.{Mul, Imul, Div, Shift, Spread}
use Rattle.x86_forms.specs.Groups.{is_memory, touches_memory}
use Rattle.x86_forms.specs.Limits.{OperandFits, PlaceFits, PairFits, IsWide, ShiftFits}
use Rattle.x86_forms.specs.Widths.{bits_in}
use Rattle.x86_model.specs.declared.cpu.Cpu.{Cpu}
use Rattle.x86_model.specs.Finishing.{finished, resulting, mul_want, multiplied, imul_want, low_multiplied, div_want, divided, shift_want, count_in}
use Rattle.x86_model.specs.Operands.{value, assigned, given}
use Rattle.x86_model.specs.Registers.{reg, get, put, going_to, with_flags, spread, is_wide}
use Rattle.x86_model.specs.Results.{product, quotient}
use Rattle.x86_model.specs.Thread.{no_flags}
use Rattle.x86_model.specs.Want.{want_of}
use Rattle.lift_table.specs.Follow.{Agrees, Follows, Meets, Onward, Lifts}
use Rattle.lift_table.specs.LiftLines.{ir_width, reads, puts, alone, given_at, flag_lines, zero_lines, all_five, overflow_and_carry, shift_family, shift_flags, high_family, product_family}
use Rattle.lift_table.specs.LiftTable.{both_read, count_line, counted_lines, shift_parts, product_lines, mul_ops}
use Rattle.lift_table.proofs.LiftNumbers.{low_halves, smul_comm, sar_spread}
use Rattle.lift_table.proofs.LiftWords.{virtual, after, same_bits, same_low, same_written, value_lt, reads_do, puts_do, flags_do, calc_do, shifted, shift_flags_are, shift_still, shift_value, product_flags_are}
use Rattle.lift_table.proofs.LiftFollow.{Numbers, IsAt, is_at_same, private_follows, given_follows, assigned_numbers, onward_agrees, goes_to, eight, lifts, quiet, no_loads, is_at_none, left_false, right_false}
use Rattle.lift_table.proofs.LiftAlu.{WasLoaded, not_loaded, both_do}
use Rattle.lift_table.proofs.LiftMoves.{register_fits}

-- ---- 32 and 64 bits

wide_is : (w : Width) → IsWide w → is_wide w ≡ true
wide_is W32 h = refl
wide_is W64 h = refl
wide_is W8 h = absurd h
wide_is W16 h = absurd h

wide_bits : (w : Width) → IsWide w → 32 ≤ bits_in w
wide_bits W32 h = lit≤ tt
wide_bits W64 h = lit≤ tt
wide_bits W8 h = absurd h
wide_bits W16 h = absurd h

-- ---- shifts and rotations

again : (t : Bool) (b : ℕ) → (if t then (if t then b % 64 else b % 32) % 64 else (if t then b % 64 else b % 32) % 32) ≡ (if t then b % 64 else b % 32)
again true b = mod-mod b 64
again false b = mod-mod b 32

count_again : (n b : ℕ) → count_of n (count_of n b) ≡ count_of n b
unfolding count_of
count_again n b = again (n == 64) b

under_64 : (t : Bool) (b : ℕ) → (if t then b % 64 else b % 32) < 2 ^ 8
under_64 true b = omega (arith, mod_below b 64)
under_64 false b = omega (arith, mod_below b 32)

count_small : (n b : ℕ) → count_of n b < 2 ^ 8
unfolding count_of
count_small n b = under_64 (n == 64) b

-- the used part of a count is what counts
used : (op : ShiftOp) (n a b : ℕ) (f : Flags) → shifted op n a (count_of n b) f ≡ shifted op n a b f
unfolding shl_of shr_of sar_of rol_of ror_of
used shift_op.Shl n a b f = ap (λ k. unless_zero k a f (shl_by n a k)) (count_again n b)
used shift_op.Shr n a b f = ap (λ k. unless_zero k a f (shr_by n a k)) (count_again n b)
used shift_op.Sar n a b f = ap (λ k. unless_zero k a f (sar_by n a k)) (count_again n b)
used shift_op.Rol n a b f = ap (λ k. unless_zero k a f (rol_by n a k f)) (count_again n b)
used shift_op.Ror n a b f = ap (λ k. unless_zero k a f (ror_by n a k f)) (count_again n b)

used_fits : (op : ShiftOp) (w : Width) (a b : ℕ) (f : Flags) → ShiftFits op w → a < 2 ^ bits_in w → (shifted op (bits_in w) a (count_of (bits_in w) b) f).value < 2 ^ bits_in w
used_fits shift_op.Shl w a b f fit h = result_fits family.Shl (bits_in w) a (count_of (bits_in w) b) f (h, count_small (bits_in w) b)
used_fits shift_op.Shr w a b f fit h = result_fits family.Shr (bits_in w) a (count_of (bits_in w) b) f (h, count_small (bits_in w) b)
used_fits shift_op.Sar w a b f fit h = result_fits family.Sar (bits_in w) a (count_of (bits_in w) b) f (h, count_small (bits_in w) b)
used_fits shift_op.Rol w a b f fit h = result_fits family.Rol (bits_in w) a (count_of (bits_in w) b) f (h, count_small (bits_in w) b, wide_bits w fit)
used_fits shift_op.Ror w a b f fit h = result_fits family.Ror (bits_in w) a (count_of (bits_in w) b) f (h, count_small (bits_in w) b, wide_bits w fit)

shift_fits : (op : ShiftOp) (w : Width) (a b : ℕ) (f : Flags) → ShiftFits op w → a < 2 ^ bits_in w → (shifted op (bits_in w) a b f).value < 2 ^ bits_in w
shift_fits op w a b f fit h = subst (λ (o : Outcome). o.value < 2 ^ bits_in w) (used op (bits_in w) a b f) (used_fits op w a b f fit h)

shift_wants : (op : ShiftOp) (w : Width) (dst : Operand) (count : Option ℕ) (next : ℕ) (s : Cpu) → ShiftFits op w → shift_want op w dst count next s ≡ resulting s next w dst (shifted op (bits_in w) (value s w dst) (count_in s count) s.flags)
unfolding shift_want
shift_wants shift_op.Shl w dst count next s fit = refl
shift_wants shift_op.Shr w dst count next s fit = refl
shift_wants shift_op.Sar w dst count next s fit = refl
shift_wants shift_op.Rol w dst count next s fit = rw (wide_is w fit)
shift_wants shift_op.Ror w dst count next s fit = rw (wide_is w fit)

count_do : (count : Option ℕ) (a b c d e f g h : ℕ) (s : Cpu) → did (count_line count) (virtual s.regs (eight a b c d e f g h) s.flags) ≡ virtual s.regs (eight a b (count_in s count) d e f g h) s.flags
unfolding value
count_do None a b c d e f g h s = reads_do W8 (operand.Reg 1) 2 (eight a b c d e f g h) s.flags s (lit< tt) (not_loaded s W8 (operand.Reg 1) c refl)
count_do (Some n) a b c d e f g h s = refl

unless_still : (t : Bool) (lines : List Op) (v z : Virtual) → (t ≡ true → v ≡ z) → did_all lines v ≡ z → did_all (if t then [] else lines) v ≡ z
unless_still true lines v z h k = h refl
unless_still false lines v z h k = k

all_counted : (op : ShiftOp) (w : Width) (regs temps : List ℕ) (f : Flags) → did_all (flag_lines (shift_flags op) (shift_family op) w 1 (Some 2)) (virtual regs temps f) ≡ virtual regs temps (shifted op (bits_in w) (slice_index temps 1) (slice_index temps 2) f).flags
all_counted op w regs temps f =
    flags_do (shift_flags op) (shift_family op) w 1 (Some 2) regs temps f ∙ ap (virtual regs temps) (shift_flags_are op (bits_in w) (slice_index temps 1) (slice_index temps 2) f)

counted_do : (op : ShiftOp) (w : Width) (count : Option ℕ) (a x d e f g h : ℕ) (s : Cpu) → did_all (counted_lines op w count) (virtual s.regs (eight a x (count_in s count) d e f g h) s.flags) ≡ virtual s.regs (eight a x (count_in s count) d e f g h) (shifted op (bits_in w) x (count_in s count) s.flags).flags
counted_do op w None a x d e f g h s = all_counted op w s.regs (eight a x (count_in s None) d e f g h) s.flags
counted_do op w (Some n) a x d e f g h s =
    let temps = eight a x n d e f g h in
    unless_still (count_of (bits_in w) n == 0) (flag_lines (shift_flags op) (shift_family op) w 1 (Some 2)) (virtual s.regs temps s.flags) (virtual s.regs temps (shifted op (bits_in w) x n s.flags).flags)
    (λ t. ap (virtual s.regs temps) (sym (shift_still op (bits_in w) x n s.flags t)))
    (all_counted op w s.regs temps s.flags)

pub shift_ends : (op : ShiftOp) (w : Width) (dst : Operand) (count : Option ℕ) (next a b c d e f g h : ℕ) (s : Cpu) → ShiftFits op w → PlaceFits w dst → WasLoaded s w dst b → IsAt next s (eight a b c d e f g h) dst → Numbers s.regs → want_of (Shift op w dst count) next s ≡ finished (Shift op w dst count) next s → Follows (Shift op w dst count) next (shift_parts op w dst count) (virtual s.regs (eight a b c d e f g h) s.flags) s Onward
unfolding finished resulting
shift_ends op w dst count next a b c d e f g h s fit_op fit r at numbers wants =
    let x = value s w dst in
    let k = count_in s count in
    let o = shifted op (bits_in w) x k s.flags in
    let first = virtual s.regs (eight a b c d e f g h) s.flags in
    let lines = counted_lines op w count in
    let rest : List Op = Calc (shift_family op) (ir_width w) 3 1 (Some 2) ∷ lines in
    let temps = eight a x k o.value e f g h in
    let made : did_all (reads w dst 1 ++ (count_line count ∷ rest)) first ≡ virtual s.regs temps o.flags =
    after (reads w dst 1) (count_line count ∷ rest) first (virtual s.regs (eight a x c d e f g h) s.flags) (reads_do w dst 1 (eight a b c d e f g h) s.flags s fit.fits r)
    ∙ ap (did_all rest) (count_do count a x c d e f g h s)
    ∙ ap (did_all lines) (calc_do (shift_family op) w 3 1 (Some 2) s.regs (eight a x k d e f g h) s.flags)
    ∙ ap (λ y. did_all lines (virtual s.regs (eight a x k y e f g h) s.flags)) (shift_value op (bits_in w) x k s.flags)
    ∙ counted_do op w count a x o.value e f g h s in
    given_follows (Shift op w dst count) next w dst 3 (reads w dst 1 ++ (count_line count ∷ rest)) first s (with_flags s o.flags) temps
    made (shift_fits op w x k s.flags fit_op (value_lt w dst s fit.fits)) fit
    (is_at_same next s (with_flags s o.flags) (eight a b c d e f g h) temps dst refl refl at) (wants ∙ shift_wants op w dst count next s fit_op) numbers refl

pub shift_law : (op : ShiftOp) (w : Width) (dst : Operand) (count : Option ℕ) (next : ℕ) → ShiftFits op w → PlaceFits w dst → touches_memory (Shift op w dst count) ≡ false → Lifts (Shift op w dst count) next
shift_law op w dst count next fit_op fit none =
    lifts (Shift op w dst count) next
    (λ a b c d e f g h s mid numbers.
    let at : IsAt next s (eight a b c d e f g h) dst = is_at_none next s (eight a b c d e f g h) dst none in
    rw (no_loads next w dst 1 none)
    (shift_ends op w dst count next a b c d e f g h s fit_op fit (not_loaded s w dst b none) at numbers (quiet (Shift op w dst count) next s none mid)))

-- ---- CDQ and CQO

count_under : (w : Width) → bits_in w - 1 < 2 ^ 8
count_under W8 = lit< tt
count_under W16 = lit< tt
count_under W32 = lit< tt
count_under W64 = lit< tt

pub spread_law : (w : Width) (next : ℕ) → IsWide w → Lifts (Spread w) next
unfolding finished value
spread_law w next wide =
    lifts (Spread w) next
    (λ a b c d e f g h s mid numbers.
    let first = virtual s.regs (eight a b c d e f g h) s.flags in
    let x = value s w (operand.Reg 0) in
    let n = bits_in w in
    let y = spread w x in
    let less : x < 2 ^ n = value_lt w (operand.Reg 0) s (lit< tt) in
    let same : (sar_of n x (n - 1) s.flags).value ≡ y = sar_spread w x s.flags wide less in
    let small : n - 1 < 2 ^ 8 = count_under w in
    let below : y < 2 ^ n = subst (λ (m : ℕ). m < 2 ^ n) same (result_fits family.Sar n x (n - 1) s.flags (less, small)) in
    let rest : List Op = Const ir.W8 2 (n - 1) ∷ Calc family.Sar (ir_width w) 3 1 (Some 2) ∷ [] in
    given_follows (Spread w) next w (operand.Reg 2) 3 (Get (ir_width w) 1 0 ∷ rest) first s s (eight a x (n - 1) y e f g h)
    (ap (did_all rest) (reads_do w (operand.Reg 0) 1 (eight a b c d e f g h) s.flags s (lit< tt) (not_loaded s w (operand.Reg 0) b refl))
    ∙ calc_do family.Sar w 3 1 (Some 2) s.regs (eight a x (n - 1) d e f g h) s.flags
    ∙ ap (λ m. virtual s.regs (eight a x (n - 1) m e f g h) s.flags) same)
    below (register_fits w 2 (lit< tt)) tt (quiet (Spread w) next s refl mid) numbers refl)

-- ---- products

product_low : (signed : Bool) (n a b : ℕ) (f : Flags) → a < 2 ^ n → b < 2 ^ n → result_of family.Mul n a b f ≡ (product signed n a b).low
unfolding product
product_low false n a b f h k = refl
product_low true n a b f h k = low_halves n a b h k

product_high : (signed : Bool) (n a b : ℕ) (f : Flags) → result_of (high_family signed) n a b f ≡ (product signed n a b).high
unfolding product
product_high false n a b f = refl
product_high true n a b f = refl

high_fits : (signed : Bool) (n a b : ℕ) (f : Flags) → a < 2 ^ n → b < 2 ^ n → 32 ≤ n → result_of (high_family signed) n a b f < 2 ^ n
high_fits false n a b f h k l = result_fits family.Umulh n a b f (h, k, l)
high_fits true n a b f h k l = result_fits family.Smulh n a b f (h, k, l)

product_do : (signed : Bool) (w : Width) (regs temps : List ℕ) (f : Flags) → did_all (product_lines signed w) (virtual regs temps f) ≡ virtual regs temps (product signed (bits_in w) (slice_index temps 2) (slice_index temps 1)).flags
product_do signed w regs temps f =
    flags_do overflow_and_carry (product_family signed) w 2 (Some 1) regs temps (record f { pf = false; zf = false; sf = false })
    ∙ ap (virtual regs temps) (product_flags_are signed (bits_in w) (slice_index temps 2) (slice_index temps 1) f)

pub mul_ends : (signed : Bool) (w : Width) (src : Operand) (next a b c d e f g h : ℕ) (s : Cpu) → IsWide w → OperandFits w src → WasLoaded s w src b → Numbers s.regs → want_of (Mul signed w src) next s ≡ finished (Mul signed w src) next s → Follows (Mul signed w src) next (alone (reads w src 1 ++ mul_ops signed w) ends.Tick) (virtual s.regs (eight a b c d e f g h) s.flags) s Onward
unfolding finished mul_want multiplied value assigned
mul_ends signed w src next a b c d e f g h s wide fit r numbers wants =
    let n = bits_in w in
    let x = value s w src in
    let y = value s w (operand.Reg 0) in
    let p = product signed n y x in
    let first = virtual s.regs (eight a b c d e f g h) s.flags in
    let less_x : x < 2 ^ n = value_lt w src s fit in
    let less_y : y < 2 ^ n = value_lt w (operand.Reg 0) s (lit< tt) in
    let low_is : result_of family.Mul n y x s.flags ≡ p.low = product_low signed n y x s.flags less_y less_x in
    let high_is : result_of (high_family signed) n y x s.flags ≡ p.high = product_high signed n y x s.flags in
    let low_less : p.low < 2 ^ n = subst (λ (m : ℕ). m < 2 ^ n) low_is (result_fits family.Mul n y x s.flags (less_y, less_x, wide_bits w wide)) in
    let high_less : p.high < 2 ^ n = subst (λ (m : ℕ). m < 2 ^ n) high_is (high_fits signed n y x s.flags less_y less_x (wide_bits w wide)) in
    let both : List Op = Put (ir_width w) 0 3 ∷ Put (ir_width w) 2 4 ∷ [] in
    let tail : List Op = product_lines signed w ++ both in
    let high_tail : List Op = Calc (high_family signed) (ir_width w) 4 2 (Some 1) ∷ tail in
    let low_tail : List Op = Calc family.Mul (ir_width w) 3 2 (Some 1) ∷ high_tail in
    let temps = eight a x y p.low p.high f g h in
    let one = assigned s w (operand.Reg 0) p.low in
    let two = assigned one w (operand.Reg 2) p.high in
    let made : did_all (reads w src 1 ++ mul_ops signed w) first ≡ virtual two.regs temps p.flags =
    after (reads w src 1) (mul_ops signed w) first (virtual s.regs (eight a x c d e f g h) s.flags) (reads_do w src 1 (eight a b c d e f g h) s.flags s fit r)
    ∙ ap (did_all low_tail) (reads_do w (operand.Reg 0) 2 (eight a x c d e f g h) s.flags s (lit< tt) (not_loaded s w (operand.Reg 0) c refl))
    ∙ ap (did_all high_tail) (calc_do family.Mul w 3 2 (Some 1) s.regs (eight a x y d e f g h) s.flags)
    ∙ ap (λ m. did_all high_tail (virtual s.regs (eight a x y m e f g h) s.flags)) low_is
    ∙ ap (did_all tail) (calc_do (high_family signed) w 4 2 (Some 1) s.regs (eight a x y p.low e f g h) s.flags)
    ∙ ap (λ m. did_all tail (virtual s.regs (eight a x y p.low m f g h) s.flags)) high_is
    ∙ after (product_lines signed w) both (virtual s.regs temps s.flags) (virtual s.regs temps p.flags) (product_do signed w s.regs temps s.flags)
    ∙ after (puts w (operand.Reg 0) 3) (puts w (operand.Reg 2) 4) (virtual s.regs temps p.flags) (virtual one.regs temps p.flags) (puts_do w (operand.Reg 0) 3 temps p.flags s (lit< tt) low_less)
    ∙ puts_do w (operand.Reg 2) 4 temps p.flags one (lit< tt) high_less in
    private_follows (Mul signed w src) next (reads w src 1 ++ mul_ops signed w) first s (with_flags two p.flags) temps made
    (wants ∙ rw (wide_is w wide))
    (assigned_numbers w (operand.Reg 2) p.high one high_less (assigned_numbers w (operand.Reg 0) p.low s low_less numbers)) refl

pub mul_law : (signed : Bool) (w : Width) (src : Operand) (next : ℕ) → IsWide w → PlaceFits w src → touches_memory (Mul signed w src) ≡ false → Lifts (Mul signed w src) next
mul_law signed w src next wide fit none =
    lifts (Mul signed w src) next
    (λ a b c d e f g h s mid numbers.
    rw (no_loads next w src 1 none) (mul_ends signed w src next a b c d e f g h s wide fit.fits (not_loaded s w src b none) numbers (quiet (Mul signed w src) next s none mid)))

-- the first operand is in t1, the second in t2
pub imul_ends : (w : Width) (dst : ℕ) (x y : Operand) (i : Instr) (next a b c d e f g h : ℕ) (s : Cpu) → IsWide w → dst < 16 → OperandFits w x → OperandFits w y → WasLoaded s w x b → WasLoaded s w y c → Numbers s.regs → want_of i next s ≡ low_multiplied s next w dst (smul_of (bits_in w) (value s w y) (value s w x)) → Follows i next (given_at (both_read w x y ++ (Calc family.Mul (ir_width w) 3 2 (Some 1) ∷ product_lines true w)) w (operand.Reg dst) 3) (virtual s.regs (eight a b c d e f g h) s.flags) s Onward
unfolding low_multiplied given assigned put product
imul_ends w dst x y i next a b c d e f g h s wide fit_dst fit_x fit_y r t numbers wants =
    let n = bits_in w in
    let u = value s w x in
    let v = value s w y in
    let p = smul_of n v u in
    let first = virtual s.regs (eight a b c d e f g h) s.flags in
    let lines = product_lines true w in
    let low_is : result_of family.Mul n v u s.flags ≡ p.low = product_low true n v u s.flags (value_lt w y s fit_y) (value_lt w x s fit_x) in
    let low_less : p.low < 2 ^ n = subst (λ (m : ℕ). m < 2 ^ n) low_is (result_fits family.Mul n v u s.flags (value_lt w y s fit_y, value_lt w x s fit_x, wide_bits w wide)) in
    let temps = eight a u v p.low e f g h in
    given_follows i next w (operand.Reg dst) 3 (both_read w x y ++ (Calc family.Mul (ir_width w) 3 2 (Some 1) ∷ lines)) first s (with_flags s p.flags) temps
    (after (both_read w x y) (Calc family.Mul (ir_width w) 3 2 (Some 1) ∷ lines) first (virtual s.regs (eight a u v d e f g h) s.flags) (both_do w x y a b c d e f g h s fit_x fit_y r t)
    ∙ ap (did_all lines) (calc_do family.Mul w 3 2 (Some 1) s.regs (eight a u v d e f g h) s.flags)
    ∙ ap (λ m. did_all lines (virtual s.regs (eight a u v m e f g h) s.flags)) low_is
    ∙ product_do true w s.regs temps s.flags)
    low_less (register_fits w dst fit_dst) tt wants numbers refl

-- what IMUL wants
pub imul_wants : (w : Width) (dst : ℕ) (x y : Operand) (next : ℕ) (s : Cpu) → IsWide w → finished (Imul w dst x y) next s ≡ low_multiplied s next w dst (smul_of (bits_in w) (value s w x) (value s w y))
unfolding finished imul_want
imul_wants w dst x y next s wide = rw (wide_is w wide)

pub imul_law : (w : Width) (dst : ℕ) (x y : Operand) (next : ℕ) → IsWide w → dst < 16 → PairFits w x y → touches_memory (Imul w dst x y) ≡ false → Lifts (Imul w dst x y) next
imul_law w dst x (operand.Imm n) next wide fit_dst fit none =
    let no_x = left_false (is_memory x) false none in
    lifts (Imul w dst x (operand.Imm n)) next
    (λ a b c d e f g h s mid numbers.
    rw (no_loads next w x 1 no_x)
    (imul_ends w dst x (operand.Imm n) (Imul w dst x (operand.Imm n)) next a b c d e f g h s wide fit_dst fit.target.fits fit.source (not_loaded s w x b no_x) (not_loaded s w (operand.Imm n) c refl) numbers
    (quiet (Imul w dst x (operand.Imm n)) next s none mid ∙ imul_wants w dst x (operand.Imm n) next s wide ∙ ap (low_multiplied s next w dst) (smul_comm (bits_in w) (value s w x) (value s w (operand.Imm n))))))
imul_law w dst x (operand.Reg r) next wide fit_dst fit none =
    let no_x = left_false (is_memory x) false none in
    lifts (Imul w dst x (operand.Reg r)) next
    (λ a b c d e f g h s mid numbers.
    rw (no_loads next w x 2 no_x)
    (imul_ends w dst (operand.Reg r) x (Imul w dst x (operand.Reg r)) next a b c d e f g h s wide fit_dst fit.source fit.target.fits (not_loaded s w (operand.Reg r) b refl) (not_loaded s w x c no_x) numbers
    (quiet (Imul w dst x (operand.Reg r)) next s none mid ∙ imul_wants w dst x (operand.Reg r) next s wide)))
imul_law w dst x (operand.High r) next wide fit_dst fit none =
    let no_x = left_false (is_memory x) false none in
    lifts (Imul w dst x (operand.High r)) next
    (λ a b c d e f g h s mid numbers.
    rw (no_loads next w x 2 no_x)
    (imul_ends w dst (operand.High r) x (Imul w dst x (operand.High r)) next a b c d e f g h s wide fit_dst fit.source fit.target.fits (not_loaded s w (operand.High r) b refl) (not_loaded s w x c no_x) numbers
    (quiet (Imul w dst x (operand.High r)) next s none mid ∙ imul_wants w dst x (operand.High r) next s wide)))
imul_law w dst x (operand.Mem m) next wide fit_dst fit none = let no : false ≡ true = sym (right_false (is_memory x) true none) in let never : ⊥ = cc in absurd never

-- ---- quotients

get_same : (w : Width) (r : ℕ) (temps : List ℕ) (f : Flags) (s : Cpu) → get_of (virtual s.regs temps f) r (state_width (ir_width w)) ≡ get s w r
unfolding get_of get
get_same w r temps f s = same_low w (reg s r)

put_same : (w : Width) (r x : ℕ) (temps : List ℕ) (f : Flags) (s : Cpu) → x < 2 ^ bits_in w → put_of (virtual s.regs temps f) r (state_width (ir_width w)) x ≡ virtual (put s w r x).regs temps f
unfolding put_of put
put_same w r x temps f s h = ap (λ n. virtual (slice_set s.regs r n) temps f) (same_written w (reg s r) x h)

quotient_same : (signed : Bool) (w : Width) (temps : List ℕ) (f : Flags) (s : Cpu) (by : ℕ) → quotient_of signed (ir_width w) (virtual s.regs temps f) by ≡ quotient signed (bits_in w) (get s w 2) (get s w 0) by
unfolding quotient
quotient_same false w temps f s by =
    ap (λ n. udiv_of n (get_of (virtual s.regs temps f) 2 (state_width (ir_width w))) (get_of (virtual s.regs temps f) 0 (state_width (ir_width w))) by) (same_bits w)
    ∙ ap (λ n. udiv_of (bits_in w) n (get_of (virtual s.regs temps f) 0 (state_width (ir_width w))) by) (get_same w 2 temps f s)
    ∙ ap (λ n. udiv_of (bits_in w) (get s w 2) n by) (get_same w 0 temps f s)
quotient_same true w temps f s by =
    ap (λ n. sdiv_of n (get_of (virtual s.regs temps f) 2 (state_width (ir_width w))) (get_of (virtual s.regs temps f) 0 (state_width (ir_width w))) by) (same_bits w)
    ∙ ap (λ n. sdiv_of (bits_in w) n (get_of (virtual s.regs temps f) 0 (state_width (ir_width w))) by) (get_same w 2 temps f s)
    ∙ ap (λ n. sdiv_of (bits_in w) (get s w 2) n by) (get_same w 0 temps f s)

-- quotient and remainder, if there are any, are below a limit
abbrev Below : ℕ → Option (ℕ × ℕ) → Type 0
Below m None = ⊤
Below m (Some q) = (q.0 < m) × (q.1 < m)

unless_below : (t : Bool) (m : ℕ) (q : ℕ × ℕ) → (t ≡ false → (q.0 < m) × (q.1 < m)) → Below m (if t then None else Some q)
unless_below true m q h = tt
unless_below false m q h = h refl

second_false : (a b : Bool) → (a || b) ≡ false → b ≡ false
second_false true b e = let no : ⊥ = cc in absurd no
second_false false b e = e

remainder_below : (j by m : ℕ) (t : Bool) → by < m → (by == 0 || t) ≡ false → j % by < m
remainder_below j zero m t h e = let no : ⊥ = cc in absurd no
remainder_below j (suc k) m t h e = omega (arith, mod_below j (suc k))

quotient_below : (signed : Bool) (n high low by : ℕ) → by < 2 ^ n → Below (2 ^ n) (quotient signed n high low by)
unfolding quotient udiv_of sdiv_of
quotient_below false n high low by h =
    let q = joined n high low / by in
    let r = joined n high low % by in
    unless_below (by == 0 || nat_le (2 ^ n) q) (2 ^ n) (q, r) (λ t. (leb-false (2 ^ n) q (second_false (by == 0) (nat_le (2 ^ n) q) t), remainder_below (joined n high low) by (2 ^ n) (nat_le (2 ^ n) q) h t))
quotient_below true n high low by h = unless_below _ (2 ^ n) _ (λ t. (low_bits_lt n _, low_bits_lt n _))

divided_meets : (w : Width) (next : ℕ) (s : Cpu) (temps : List ℕ) (q : Option (ℕ × ℕ)) (ps : List Part) (M : ℕ → Type 0) → ps ≡ [] → Below (2 ^ bits_in w) q → Numbers s.regs → length temps ≡ 8 → Meets (divided_by (ir_width w) (virtual s.regs temps no_flags) q).request (divided s next w q) next (λ a t. (ps ≡ []) × Onward a (divided_by (ir_width w) (virtual s.regs temps no_flags) q).state t) M
unfolding divided assigned
divided_meets w next s temps None ps M last h numbers room = tt
divided_meets w next s temps (Some q) ps M last h numbers room =
    let one = assigned s w (operand.Reg 0) q.0 in
    let two = assigned one w (operand.Reg 2) q.1 in
    let made : put_of (put_of (virtual s.regs temps no_flags) 0 (state_width (ir_width w)) q.0) 2 (state_width (ir_width w)) q.1 ≡ virtual two.regs temps no_flags =
    ap (λ z. put_of z 2 (state_width (ir_width w)) q.1) (put_same w 0 q.0 temps no_flags s h.0) ∙ put_same w 2 q.1 temps no_flags one h.1 in
    let both : Numbers two.regs = assigned_numbers w (operand.Reg 2) q.1 one h.1 (assigned_numbers w (operand.Reg 0) q.0 s h.0 numbers) in
    let end : Cpu = going_to (with_flags two no_flags) next in
    (last, (goes_to (with_flags two no_flags) next, subst (λ (z : Virtual). Agrees None z end) (sym made) (onward_agrees temps (with_flags two no_flags) next both room)))

pub div_ends : (signed : Bool) (w : Width) (src : Operand) (next a b c d e f g h : ℕ) (s : Cpu) → IsWide w → OperandFits w src → WasLoaded s w src b → Numbers s.regs → want_of (Div signed w src) next s ≡ finished (Div signed w src) next s → Follows (Div signed w src) next (alone (reads w src 1 ++ zero_lines all_five) (ends.Divide signed (ir_width w) 1)) (virtual s.regs (eight a b c d e f g h) s.flags) s Onward
unfolding finished div_want
div_ends signed w src next a b c d e f g h s wide fit r numbers wants =
    let x = value s w src in
    let n = bits_in w in
    let first = virtual s.regs (eight a b c d e f g h) s.flags in
    let temps = eight a x c d e f g h in
    let made : did_all (reads w src 1 ++ zero_lines all_five) first ≡ virtual s.regs temps no_flags =
    after (reads w src 1) (zero_lines all_five) first (virtual s.regs temps s.flags) (reads_do w src 1 (eight a b c d e f g h) s.flags s fit r) in
    let ask : want_of (Div signed w src) next s ≡ divided s next w (quotient signed n (get s w 2) (get s w 0) x) = wants ∙ rw (wide_is w wide) in
    rw (ask, made, quotient_same signed w temps no_flags s x)
    (divided_meets w next s temps (quotient signed n (get s w 2) (get s w 0) x) [] _ refl (quotient_below signed n (get s w 2) (get s w 0) x (value_lt w src s fit)) numbers refl)

pub div_law : (signed : Bool) (w : Width) (src : Operand) (next : ℕ) → IsWide w → PlaceFits w src → touches_memory (Div signed w src) ≡ false → Lifts (Div signed w src) next
div_law signed w src next wide fit none =
    lifts (Div signed w src) next
    (λ a b c d e f g h s mid numbers.
    rw (no_loads next w src 1 none) (div_ends signed w src next a b c d e f g h s wide fit.fits (not_loaded s w src b none) numbers (quiet (Div signed w src) next s none mid)))
