-- The parts of each instruction are typed, whatever types the temporaries had before it; there are one or two, of which
-- the first of two takes an answer.
use Rattle.std.proofs.Common.{◌≡◌, ℕ, ◌<◌, ◌^◌, Bool, true, false, ap, sym, subst, refl, List, [], ◌∷◌, ◌++◌, Option, Some, None}
use Rattle.std.proofs.lemmas.Bool.{and_from, lt-ltb}
use Rattle.std.specs.Prelude.{if◌then◌else◌, nat_le, ◌&&◌, ◌==◌}
use Rattle.ir_syntax.specs.declared.block.Part.{Part}
use Rattle.ir_syntax.specs.declared.cond.Cond.TheVariants.{E}
use Rattle.ir_syntax.specs.declared.line.Family.TheVariants as family
use Rattle.ir_syntax.specs.declared.line.LockOp.{LockOp}
use Rattle.ir_syntax.specs.declared.line.LockOp.TheVariants as lock
use Rattle.ir_syntax.specs.declared.line.Op.{Op}
use Rattle.ir_syntax.specs.declared.line.Op.TheVariants.{Get, Put, Const, Calc, Cond, Pick, Zext, Sext, Cut}
use Rattle.ir_syntax.specs.declared.line.PartEnd.{PartEnd}
use Rattle.ir_syntax.specs.declared.line.PartEnd.TheVariants as ends
use Rattle.ir_syntax.specs.declared.line.Target.TheVariants.{Place, Temp}
use Rattle.ir_syntax.specs.declared.width.Width.TheVariants as ir
use Rattle.ir_syntax.specs.Typed.{Types, are_operands, holds, has_result, is_end_typed, is_of_bits, is_typed, goes_on, types_after_end, types_after_part, unwritten}
use Rattle.x86_flags.specs.Shifts.{count_of}
use Rattle.x86_forms.specs.declared.conditions.Cond.{Cond as Condition}
use Rattle.x86_forms.specs.declared.instructions.AluOp.{AluOp}
use Rattle.x86_forms.specs.declared.instructions.AluOp.TheVariants as alu
use Rattle.x86_forms.specs.declared.instructions.Instr.{Instr}
use Rattle.x86_forms.specs.declared.instructions.Instr.TheVariants.{Alu, Mov, Zx, Sx, Lea, Push, Pop, One, Mul, Imul, Div, Shift, Widen, Spread, Xchg, Set, Cmov, Jcc, Jmp, JmpTo, Call, CallTo, Ret, Leave, Nop, Pause, Endbr, Mfence, LockAlu, LockOne, Xadd, Cmpxchg}
use Rattle.x86_forms.specs.declared.instructions.OneOp.{OneOp}
use Rattle.x86_forms.specs.declared.instructions.OneOp.TheVariants as one
use Rattle.x86_forms.specs.declared.instructions.ShiftOp.{ShiftOp}
use Rattle.x86_forms.specs.declared.instructions.ShiftOp.TheVariants.{Shl, Shr, Sar, Rol, Ror}
use Rattle.x86_forms.specs.declared.operands.Mem.{Mem}
use Rattle.x86_forms.specs.declared.operands.Operand.{Operand}
use Rattle.x86_forms.specs.declared.operands.Operand.TheVariants as operand
use Rattle.x86_forms.specs.declared.operands.Width.{Width}
use Rattle.x86_forms.specs.declared.operands.Width.TheVariants.{W8, W16, W32, W64}
use Rattle.x86_forms.specs.Groups.{is_memory, is_transfer}
use Rattle.x86_forms.specs.Limits.{CanLock, CanLockOne, IsOver8, IsWide, MemFits, OperandFits, PairFits, PlaceFits, RegisterFits, ShiftFits, IsCount, InstrFits, Widens, is_immediate}
use Rattle.x86_forms.specs.Widths.{bits_in}
use Rattle.x86_model.specs.Operands.{target}
use Rattle.x86_model.specs.Registers.{half}
use Rattle.lift_table.specs.Faithful.{takes_answer}
use Rattle.lift_table.specs.LiftLines.{address_line, addressed, all_but_carry, all_five, alone, alu_family, end_at, flag_lines, given_at, ir_cond, ir_width, loads, one_family, one_flags, part, puts, reads, shift_family, shift_flags, zero_lines}
use Rattle.lift_table.specs.LiftTable.{accumulator_ops, alu_lines, alu_parts, both_read, called, cmov_parts, count_line, counted_lines, imul_parts, lea_parts, lifted, locked_parts, mul_ops, one_parts, popped, product_lines, pushed, shift_parts, sign_extended_to, spread_parts, stack_at, xchg_parts}
use Rattle.block_lift.proofs.Ready.{PutsAll, Ready, Typed, address_typed, both_ready, end_at_alone, end_at_goes_on, flags_ready, given_typed, kinds, line_ready, maybe_ready, nil_ready, num, one_ready, part_typed, puts_ready, reads_ready, same_num, zeros_ready}

-- ---- instructions

-- a jump, call or return need not go on behind itself
abbrev pub GoesOn : Bool → PartEnd → Type 0
GoesOn transfer end = transfer ≡ false → goes_on end ≡ true

-- the parts of an instruction, before which the temporaries have these types
abbrev pub Good : Types → List Part → Bool → Type 0
Good T (p ∷ []) transfer = (takes_answer p.end ≡ false) × Typed T p × GoesOn transfer p.end
Good T (p ∷ q ∷ []) transfer = (takes_answer p.end ≡ true) × Typed T p × (takes_answer q.end ≡ false) × Typed (types_after_part T p) q × GoesOn transfer q.end
Good T _ transfer = ⊥

either_good : (T : Types) (first : Bool) (xs ys : List Part) (transfer : Bool) → Good T xs transfer → Good T ys transfer → Good T (if first then xs else ys) transfer
either_good T true xs ys transfer x y = x
either_good T false xs ys transfer x y = y

at_64 : (z : Option ℕ) → z ≡ Some 64 → is_of_bits 64 z ≡ true
at_64 z e = ap (is_of_bits 64) e

-- an instruction with one operand, which is loaded to temporary 1 if it is in memory: the last part is typed wherever
-- reading the operand leaves these types
one_operand : (a b c d e f g h : Option ℕ) (next : ℕ) (w : Width) (o : Operand) (ops : List Op) (end : PartEnd) (transfer : Bool) → OperandFits w o → takes_answer end ≡ false → GoesOn transfer end
    → ((T : Types) (z : Option ℕ) → (is_memory o ≡ true → z ≡ Some 64) → Ready T (reads w o 1) (kinds z (Some (num w)) c d e f g h) → Typed T (part ops end))
    → Good (kinds a b c d e f g h) (loads next w o 1 ++ alone ops end) transfer
one_operand a b c d e f g h next w (operand.Mem m) ops end transfer fits quiet on last = (
  refl,
  part_typed (kinds a b c d e f g h) _ _ (kinds (Some 64) b c d e f g h) (one_ready _ _ (address_typed (kinds a b c d e f g h) next m fits)) refl,
  quiet,
  last (kinds (Some 64) (Some (num w)) c d e f g h) (Some 64) (λ _. refl) (reads_ready w (operand.Mem m) 1 _ fits refl (λ _. refl)),
  on,
)
one_operand a b c d e f g h next w o ops end transfer fits quiet on last =
    (quiet, last (kinds a b c d e f g h) a (λ y. absurd (cc)) (reads_ready w o 1 _ fits refl (λ y. absurd (cc))), on)

-- an instruction with two operands, of which one at most is in memory
two_operands : (a b c d e f g h : Option ℕ) (next : ℕ) (w : Width) (dst src : Operand) (ops : List Op) (end : PartEnd) (transfer : Bool) → OperandFits w dst → OperandFits w src → (is_memory dst && is_memory src) ≡ false → takes_answer end ≡ false → GoesOn transfer end
    → ((T : Types) (z : Option ℕ) → (is_memory dst ≡ true → z ≡ Some 64) → Ready T (both_read w dst src) (kinds z (Some (num w)) (Some (num w)) d e f g h) → Typed T (part ops end))
    → Good (kinds a b c d e f g h) (loads next w dst 1 ++ (loads next w src 2 ++ alone ops end)) transfer
two_operands a b c d e f g h next w (operand.Mem m) (operand.Mem k) ops end transfer fits fits2 apart quiet on last = absurd (cc)
two_operands a b c d e f g h next w (operand.Mem m) src ops end transfer fits fits2 apart quiet on last = (
  refl,
  part_typed (kinds a b c d e f g h) _ _ (kinds (Some 64) b c d e f g h) (one_ready _ _ (address_typed (kinds a b c d e f g h) next m fits)) refl,
  quiet,
  last (kinds (Some 64) (Some (num w)) c d e f g h) (Some 64) (λ _. refl)
      (both_ready _ (reads w (operand.Mem m) 1) (reads w src 2) (kinds (Some 64) (Some (num w)) c d e f g h) _ (reads_ready w (operand.Mem m) 1 _ fits refl (λ _. refl)) (reads_ready w src 2 _ fits2 refl (λ y. absurd (cc)))),
  on,
)
two_operands a b c d e f g h next w dst (operand.Mem m) ops end transfer fits fits2 apart quiet on last = (
  refl,
  part_typed (kinds a b c d e f g h) _ _ (kinds (Some 64) b c d e f g h) (one_ready _ _ (address_typed (kinds a b c d e f g h) next m fits2)) refl,
  quiet,
  last (kinds (Some 64) b (Some (num w)) d e f g h) (Some 64) (λ _. refl)
      (both_ready _ (reads w dst 1) (reads w (operand.Mem m) 2) (kinds (Some 64) (Some (num w)) (Some (num w)) d e f g h) _ (reads_ready w dst 1 _ fits refl (λ y. absurd (cc))) (reads_ready w (operand.Mem m) 2 _ fits2 refl (λ _. refl))),
  on,
)
two_operands a b c d e f g h next w dst src ops end transfer fits fits2 apart quiet on last = (
  quiet,
  last (kinds a b c d e f g h) a (λ y. absurd (cc))
      (both_ready _ (reads w dst 1) (reads w src 2) (kinds a (Some (num w)) c d e f g h) _ (reads_ready w dst 1 _ fits refl (λ y. absurd (cc))) (reads_ready w src 2 _ fits2 refl (λ y. absurd (cc)))),
  on,
)

-- ---- families

alu_operands : (op : AluOp) (n a b : ℕ) (T : Types) → holds T a n ≡ true → holds T b n ≡ true → are_operands T (alu_family op) n a (Some b) ≡ true
alu_operands alu.Add n a b T p q = and_from _ _ p q
alu_operands op n a b T p q = and_from _ _ p q

alu_result : (op : AluOp) → has_result (alu_family op) ≡ true
alu_result alu.Add = refl
alu_result op = refl

alu_puts : (op : AluOp) → PutsAll all_five (alu_family op)
alu_puts alu.Add = (refl, (refl, (refl, (refl, (refl, tt)))))
alu_puts op = (refl, (refl, (refl, (refl, (refl, tt)))))

alu_lines_ready : (op : AluOp) (w : Width) (T : Types) → holds T 1 (num w) ≡ true → holds T 2 (num w) ≡ true → Ready T (alu_lines op w) T
alu_lines_ready op w T p q = flags_ready all_five (alu_family op) w 1 (Some 2) T (alu_puts op) (alu_operands op (num w) 1 2 T p q)

one_operands : (op : OneOp) (n a : ℕ) (T : Types) → holds T a n ≡ true → are_operands T (one_family op) n a None ≡ true
one_operands one.Inc n a T p = and_from _ _ p refl
one_operands op n a T p = and_from _ _ p refl

one_result : (op : OneOp) → has_result (one_family op) ≡ true
one_result one.Inc = refl
one_result op = refl

one_puts : (op : OneOp) → PutsAll (one_flags op) (one_family op)
one_puts one.Inc = (refl, (refl, (refl, (refl, tt))))
one_puts one.Dec = (refl, (refl, (refl, (refl, tt))))
one_puts one.Not = tt
one_puts one.Neg = (refl, (refl, (refl, (refl, (refl, tt)))))

wide_num : (w : Width) → IsWide w → nat_le 32 (num w) ≡ true
wide_num W8 h = absurd h
wide_num W16 h = absurd h
wide_num W32 h = refl
wide_num W64 h = refl

-- three tests in a row
all_three : (a b c : Bool) → a ≡ true → b ≡ true → c ≡ true → (a && b && c) ≡ true
all_three a b c p q r = rw p (rw q r)

shift_operands : (op : ShiftOp) (w : Width) (a b : ℕ) (T : Types) → ShiftFits op w → holds T a (num w) ≡ true → holds T b 8 ≡ true → are_operands T (shift_family op) (num w) a (Some b) ≡ true
shift_operands Shl w a b T fits p q = and_from _ _ p q
shift_operands Shr w a b T fits p q = and_from _ _ p q
shift_operands Sar w a b T fits p q = and_from _ _ p q
shift_operands Rol w a b T fits p q = all_three _ _ _ (wide_num w fits) p q
shift_operands Ror w a b T fits p q = all_three _ _ _ (wide_num w fits) p q

shift_result : (op : ShiftOp) → has_result (shift_family op) ≡ true
shift_result Shl = refl
shift_result op = refl

shift_puts : (op : ShiftOp) → PutsAll (shift_flags op) (shift_family op)
shift_puts Shl = (refl, (refl, (refl, (refl, (refl, tt)))))
shift_puts Shr = (refl, (refl, (refl, (refl, (refl, tt)))))
shift_puts Sar = (refl, (refl, (refl, (refl, (refl, tt)))))
shift_puts Rol = (refl, (refl, tt))
shift_puts Ror = (refl, (refl, tt))

-- ---- arithmetic

abbrev pub AluGood : AluOp → Type 0
AluGood op = (a b c d e f g h : Option ℕ) (next : ℕ) (w : Width) (dst src : Operand) → PairFits w dst src → Good (kinds a b c d e f g h) (loads next w dst 1 ++ (loads next w src 2 ++ alu_parts op w dst src)) false

-- flags alone
tested_good : (op : AluOp) (a b c d e f g h : Option ℕ) (next : ℕ) (w : Width) (dst src : Operand) → PairFits w dst src → Good (kinds a b c d e f g h) (loads next w dst 1 ++ (loads next w src 2 ++ alone (both_read w dst src ++ alu_lines op w) ends.Tick)) false
tested_good op a b c d e f g h next w dst src fits =
    two_operands a b c d e f g h next w dst src (both_read w dst src ++ alu_lines op w) ends.Tick false fits.target.fits fits.source fits.one_memory refl (λ _. refl)
    (λ T z at r. part_typed T _ _ _ (both_ready T (both_read w dst src) (alu_lines op w) _ _ r (alu_lines_ready op w _ (same_num w) (same_num w))) refl)

-- a result with its flags
computed_good : (op : AluOp) (a b c d e f g h : Option ℕ) (next : ℕ) (w : Width) (dst src : Operand) → PairFits w dst src → Good (kinds a b c d e f g h) (loads next w dst 1 ++ (loads next w src 2 ++ given_at (both_read w dst src ++ (Calc (alu_family op) (ir_width w) 3 1 (Some 2) ∷ alu_lines op w)) w dst 3)) false
computed_good op a b c d e f g h next w dst src fits =
    let ops = Calc (alu_family op) (ir_width w) 3 1 (Some 2) ∷ alu_lines op w in
    two_operands a b c d e f g h next w dst src ((both_read w dst src ++ ops) ++ puts w dst 3) (end_at w dst 3) false fits.target.fits fits.source fits.one_memory (end_at_alone w dst 3) (λ _. end_at_goes_on w dst 3)
    (λ T z at r. given_typed T (both_read w dst src ++ ops) (kinds z (Some (num w)) (Some (num w)) (Some (num w)) e f g h) w dst 3 fits.target
    (both_ready T (both_read w dst src) ops _ _ r (line_ready (kinds z (Some (num w)) (Some (num w)) d e f g h) _ (alu_lines op w) _ (and_from _ _ (alu_result op) (alu_operands op (num w) 1 2 (kinds z (Some (num w)) (Some (num w)) d e f g h) (same_num w) (same_num w))) (alu_lines_ready op w (kinds z (Some (num w)) (Some (num w)) (Some (num w)) e f g h) (same_num w) (same_num w))))
    (same_num w) (λ y. at_64 z (at y)))

alu_good : (op : AluOp) → AluGood op
alu_good alu.Cmp a b c d e f g h next w dst src fits = tested_good alu.Cmp a b c d e f g h next w dst src fits
alu_good alu.Test a b c d e f g h next w dst src fits = tested_good alu.Test a b c d e f g h next w dst src fits
alu_good op a b c d e f g h next w dst src fits = computed_good op a b c d e f g h next w dst src fits

one_good : (a b c d e f g h : Option ℕ) (next : ℕ) (op : OneOp) (w : Width) (dst : Operand) → PlaceFits w dst → Good (kinds a b c d e f g h) (loads next w dst 1 ++ one_parts op w dst) false
one_good a b c d e f g h next op w dst fits =
    let lines = flag_lines (one_flags op) (one_family op) w 1 None in
    let ops = Calc (one_family op) (ir_width w) 3 1 None ∷ lines in
    one_operand a b c d e f g h next w dst ((reads w dst 1 ++ ops) ++ puts w dst 3) (end_at w dst 3) false fits.fits (end_at_alone w dst 3) (λ _. end_at_goes_on w dst 3)
    (λ T z at r. given_typed T (reads w dst 1 ++ ops) (kinds z (Some (num w)) c (Some (num w)) e f g h) w dst 3 fits
    (both_ready T (reads w dst 1) ops _ _ r (line_ready (kinds z (Some (num w)) c d e f g h) _ lines _ (and_from _ _ (one_result op) (one_operands op (num w) 1 (kinds z (Some (num w)) c d e f g h) (same_num w))) (flags_ready (one_flags op) (one_family op) w 1 None _ (one_puts op) (one_operands op (num w) 1 (kinds z (Some (num w)) c (Some (num w)) e f g h) (same_num w)))))
    (same_num w) (λ y. at_64 z (at y)))

count_ready : (a b c d e f g h : Option ℕ) (count : Option ℕ) → IsCount count → Ready (kinds a b c d e f g h) (count_line count ∷ []) (kinds a b (Some 8) d e f g h)
count_ready a b c d e f g h None fits = record { typed = refl; leaves = refl }
count_ready a b c d e f g h (Some n) fits = one_ready (kinds a b c d e f g h) (Const ir.W8 2 n) (lt-ltb n (2 ^ 8) fits)

counted_ready : (op : ShiftOp) (w : Width) (count : Option ℕ) (T : Types) → ShiftFits op w → holds T 1 (num w) ≡ true → holds T 2 8 ≡ true → Ready T (counted_lines op w count) T
counted_ready op w None T fits p q = flags_ready (shift_flags op) (shift_family op) w 1 (Some 2) T (shift_puts op) (shift_operands op w 1 2 T fits p q)
counted_ready op w (Some n) T fits p q = maybe_ready (count_of (bits_in w) n == 0) T _ (flags_ready (shift_flags op) (shift_family op) w 1 (Some 2) T (shift_puts op) (shift_operands op w 1 2 T fits p q))

shift_good : (a b c d e f g h : Option ℕ) (next : ℕ) (op : ShiftOp) (w : Width) (dst : Operand) (count : Option ℕ) → ShiftFits op w → IsCount count → PlaceFits w dst → Good (kinds a b c d e f g h) (loads next w dst 1 ++ shift_parts op w dst count) false
shift_good a b c d e f g h next op w dst count sized counted fits =
    let lines = counted_lines op w count in
    let calc = Calc (shift_family op) (ir_width w) 3 1 (Some 2) in
    let ops = count_line count ∷ calc ∷ lines in
    one_operand a b c d e f g h next w dst ((reads w dst 1 ++ ops) ++ puts w dst 3) (end_at w dst 3) false fits.fits (end_at_alone w dst 3) (λ _. end_at_goes_on w dst 3)
    (λ T z at r. given_typed T (reads w dst 1 ++ ops) (kinds z (Some (num w)) (Some 8) (Some (num w)) e f g h) w dst 3 fits
    (both_ready T (reads w dst 1) ops _ _ r (both_ready _ (count_line count ∷ []) (calc ∷ lines) _ _ (count_ready z (Some (num w)) c d e f g h count counted)
    (line_ready (kinds z (Some (num w)) (Some 8) d e f g h) calc lines _ (and_from _ _ (shift_result op) (shift_operands op w 1 2 (kinds z (Some (num w)) (Some 8) d e f g h) sized (same_num w) refl)) (counted_ready op w count (kinds z (Some (num w)) (Some 8) (Some (num w)) e f g h) sized (same_num w) refl))))
    (same_num w) (λ y. at_64 z (at y)))

mul_ready : (z c d e f g h : Option ℕ) (signed : Bool) (w : Width) → IsWide w → Ready (kinds z (Some (num w)) c d e f g h) (mul_ops signed w) (kinds z (Some (num w)) (Some (num w)) (Some (num w)) (Some (num w)) f g h)
mul_ready z c d e f g h signed W8 wide = absurd wide
mul_ready z c d e f g h signed W16 wide = absurd wide
mul_ready z c d e f g h true W32 wide = record { typed = refl; leaves = refl }
mul_ready z c d e f g h false W32 wide = record { typed = refl; leaves = refl }
mul_ready z c d e f g h true W64 wide = record { typed = refl; leaves = refl }
mul_ready z c d e f g h false W64 wide = record { typed = refl; leaves = refl }

mul_good : (a b c d e f g h : Option ℕ) (next : ℕ) (signed : Bool) (w : Width) (src : Operand) → IsWide w → PlaceFits w src → Good (kinds a b c d e f g h) (loads next w src 1 ++ alone (reads w src 1 ++ mul_ops signed w) ends.Tick) false
mul_good a b c d e f g h next signed w src wide fits =
    one_operand a b c d e f g h next w src (reads w src 1 ++ mul_ops signed w) ends.Tick false fits.fits refl (λ _. refl)
    (λ T z at r. part_typed T _ _ _ (both_ready T (reads w src 1) (mul_ops signed w) _ _ r (mul_ready z c d e f g h signed w wide)) refl)

div_end : (z c d e f g h : Option ℕ) (signed : Bool) (w : Width) → IsWide w → is_end_typed (kinds z (Some (num w)) c d e f g h) (ends.Divide signed (ir_width w) 1) ≡ true
div_end z c d e f g h signed W8 wide = absurd wide
div_end z c d e f g h signed W16 wide = absurd wide
div_end z c d e f g h signed W32 wide = refl
div_end z c d e f g h signed W64 wide = refl

div_good : (a b c d e f g h : Option ℕ) (next : ℕ) (signed : Bool) (w : Width) (src : Operand) → IsWide w → PlaceFits w src → Good (kinds a b c d e f g h) (loads next w src 1 ++ alone (reads w src 1 ++ zero_lines all_five) (ends.Divide signed (ir_width w) 1)) false
div_good a b c d e f g h next signed w src wide fits =
    one_operand a b c d e f g h next w src (reads w src 1 ++ zero_lines all_five) (ends.Divide signed (ir_width w) 1) false fits.fits refl (λ _. refl)
    (λ T z at r. part_typed T _ _ _ (both_ready T (reads w src 1) (zero_lines all_five) _ _ r (zeros_ready all_five _)) (div_end z c d e f g h signed w wide))

low_ready : (z d e f g h : Option ℕ) (w : Width) → IsWide w → Ready (kinds z (Some (num w)) (Some (num w)) d e f g h) (Calc family.Mul (ir_width w) 3 2 (Some 1) ∷ product_lines true w) (kinds z (Some (num w)) (Some (num w)) (Some (num w)) e f g h)
low_ready z d e f g h W8 wide = absurd wide
low_ready z d e f g h W16 wide = absurd wide
low_ready z d e f g h W32 wide = record { typed = refl; leaves = refl }
low_ready z d e f g h W64 wide = record { typed = refl; leaves = refl }

abbrev register_place : (w : Width) (r : ℕ) → r < 16 → PlaceFits w (operand.Reg r)
register_place w r below = record { fits = below; place = refl }

product_good : (a b c d e f g h : Option ℕ) (next : ℕ) (w : Width) (dst : ℕ) (x y : Operand) → IsWide w → dst < 16 → OperandFits w x → OperandFits w y → (is_memory x && is_memory y) ≡ false → Good (kinds a b c d e f g h) (imul_parts next w dst x y) false
product_good a b c d e f g h next w dst x y wide below fits fits2 apart =
    let ops = Calc family.Mul (ir_width w) 3 2 (Some 1) ∷ product_lines true w in
    two_operands a b c d e f g h next w x y ((both_read w x y ++ ops) ++ puts w (operand.Reg dst) 3) (end_at w (operand.Reg dst) 3) false fits fits2 apart refl (λ _. refl)
    (λ T z at r. given_typed T (both_read w x y ++ ops) (kinds z (Some (num w)) (Some (num w)) (Some (num w)) e f g h) w (operand.Reg dst) 3 (register_place w dst below)
    (both_ready T (both_read w x y) ops _ _ r (low_ready z d e f g h w wide)) (same_num w) (λ k. absurd (cc)))

swapped : (x y : Bool) → (x && y) ≡ false → (y && x) ≡ false
swapped true true e = e
swapped true false e = refl
swapped false true e = refl
swapped false false e = refl

imul_good : (a b c d e f g h : Option ℕ) (next : ℕ) (w : Width) (dst : ℕ) (x y : Operand) → IsWide w → dst < 16 → PairFits w x y → Good (kinds a b c d e f g h) (if is_immediate y then imul_parts next w dst x y else imul_parts next w dst y x) false
imul_good a b c d e f g h next w dst x y wide below fits =
    either_good _ (is_immediate y) (imul_parts next w dst x y) (imul_parts next w dst y x) false (product_good a b c d e f g h next w dst x y wide below fits.target.fits fits.source fits.one_memory)
    (product_good a b c d e f g h next w dst y x wide below fits.source fits.target.fits (swapped (is_memory x) (is_memory y) fits.one_memory))

-- ---- moves

mov_good : (a b c d e f g h : Option ℕ) (next : ℕ) (w : Width) (dst src : Operand) → PairFits w dst src → Good (kinds a b c d e f g h) (loads next w src 1 ++ given_at (addressed next dst ++ reads w src 1) w dst 1) false
mov_good a b c d e f g h next w (operand.Mem m) (operand.Mem k) fits = let no : ⊥ = cc fits.one_memory in absurd no
mov_good a b c d e f g h next w (operand.Mem m) src fits = (
  refl,
  given_typed (kinds a b c d e f g h) (address_line next m ∷ reads w src 1) (kinds (Some 64) (Some (num w)) c d e f g h) w (operand.Mem m) 1 fits.target
      (line_ready _ _ (reads w src 1) _ (address_typed (kinds a b c d e f g h) next m fits.target.fits) (reads_ready w src 1 (kinds (Some 64) b c d e f g h) fits.source refl (λ y. absurd (cc)))) (same_num w) (λ _. refl),
  λ _. refl,
)
mov_good a b c d e f g h next w (operand.Imm n) src fits = let no : ⊥ = cc fits.target.place in absurd no
mov_good a b c d e f g h next w dst src fits =
    one_operand a b c d e f g h next w src (reads w src 1 ++ puts w dst 1) (end_at w dst 1) false fits.source (end_at_alone w dst 1) (λ _. end_at_goes_on w dst 1)
    (λ T z at r. given_typed T (reads w src 1) (kinds z (Some (num w)) c d e f g h) w dst 1 fits.target r (same_num w) (λ k. absurd (cc)))

zext_ready : (z c d e f g h : Option ℕ) (from w : Width) → Widens from w → Ready (kinds z (Some (num from)) c d e f g h) (Zext (bits_in from) (ir_width w) 2 1 ∷ []) (kinds z (Some (num from)) (Some (num w)) d e f g h)
zext_ready z c d e f g h W8 W8 wider = absurd wider
zext_ready z c d e f g h W8 W16 wider = record { typed = refl; leaves = refl }
zext_ready z c d e f g h W8 W32 wider = record { typed = refl; leaves = refl }
zext_ready z c d e f g h W8 W64 wider = record { typed = refl; leaves = refl }
zext_ready z c d e f g h W16 W8 wider = absurd wider
zext_ready z c d e f g h W16 W16 wider = absurd wider
zext_ready z c d e f g h W16 W32 wider = record { typed = refl; leaves = refl }
zext_ready z c d e f g h W16 W64 wider = record { typed = refl; leaves = refl }
zext_ready z c d e f g h W32 W64 wider = record { typed = refl; leaves = refl }
zext_ready z c d e f g h W32 w wider = let no : ⊥ = cc in absurd no
zext_ready z c d e f g h W64 w wider = absurd wider

sext_ready : (z c d e f g h : Option ℕ) (from w : Width) → Widens from w → Ready (kinds z (Some (num from)) c d e f g h) (Sext (bits_in from) (ir_width w) 2 1 ∷ []) (kinds z (Some (num from)) (Some (num w)) d e f g h)
sext_ready z c d e f g h W8 W8 wider = absurd wider
sext_ready z c d e f g h W8 W16 wider = record { typed = refl; leaves = refl }
sext_ready z c d e f g h W8 W32 wider = record { typed = refl; leaves = refl }
sext_ready z c d e f g h W8 W64 wider = record { typed = refl; leaves = refl }
sext_ready z c d e f g h W16 W8 wider = absurd wider
sext_ready z c d e f g h W16 W16 wider = absurd wider
sext_ready z c d e f g h W16 W32 wider = record { typed = refl; leaves = refl }
sext_ready z c d e f g h W16 W64 wider = record { typed = refl; leaves = refl }
sext_ready z c d e f g h W32 W64 wider = record { typed = refl; leaves = refl }
sext_ready z c d e f g h W32 w wider = let no : ⊥ = cc in absurd no
sext_ready z c d e f g h W64 w wider = absurd wider

-- an operand of fewer bits, which lines make one of more
widened_good : (a b c d e f g h : Option ℕ) (next : ℕ) (from w : Width) (src : Operand) (dst : ℕ) (ops : List Op) → dst < 16 → OperandFits from src → ((z : Option ℕ) → Ready (kinds z (Some (num from)) c d e f g h) ops (kinds z (Some (num from)) (Some (num w)) d e f g h)) → Good (kinds a b c d e f g h) (loads next from src 1 ++ given_at (reads from src 1 ++ ops) w (operand.Reg dst) 2) false
widened_good a b c d e f g h next from w src dst ops below fits ready =
    one_operand a b c d e f g h next from src ((reads from src 1 ++ ops) ++ puts w (operand.Reg dst) 2) (end_at w (operand.Reg dst) 2) false fits refl (λ _. refl)
    (λ T z at r. given_typed T (reads from src 1 ++ ops) (kinds z (Some (num from)) (Some (num w)) d e f g h) w (operand.Reg dst) 2 (register_place w dst below)
    (both_ready T (reads from src 1) ops _ _ r (ready z)) (same_num w) (λ k. absurd (cc)))

lea_good : (a b c d e f g h : Option ℕ) (next : ℕ) (w : Width) (dst : ℕ) (m : Mem) → IsOver8 w → dst < 16 → MemFits m → Good (kinds a b c d e f g h) (lea_parts next w dst m) false
lea_good a b c d e f g h next W8 dst m over below fits = absurd over
lea_good a b c d e f g h next W64 dst m over below fits =
    (refl, given_typed (kinds a b c d e f g h) (address_line next m ∷ []) (kinds (Some 64) b c d e f g h) W64 (operand.Reg dst) 0 (register_place W64 dst below) (one_ready _ _ (address_typed (kinds a b c d e f g h) next m fits)) refl (λ k. absurd (cc)), λ _. refl)
lea_good a b c d e f g h next W32 dst m over below fits =
    (refl, given_typed (kinds a b c d e f g h) (address_line next m ∷ Cut 64 ir.W32 1 0 ∷ []) (kinds (Some 64) (Some 32) c d e f g h) W32 (operand.Reg dst) 1 (register_place W32 dst below) (line_ready _ _ (Cut 64 ir.W32 1 0 ∷ []) _ (address_typed (kinds a b c d e f g h) next m fits) (record { typed = refl; leaves = refl })) refl (λ k. absurd (cc)), λ _. refl)
lea_good a b c d e f g h next W16 dst m over below fits =
    (refl, given_typed (kinds a b c d e f g h) (address_line next m ∷ Cut 64 ir.W16 1 0 ∷ []) (kinds (Some 64) (Some 16) c d e f g h) W16 (operand.Reg dst) 1 (register_place W16 dst below) (line_ready _ _ (Cut 64 ir.W16 1 0 ∷ []) _ (address_typed (kinds a b c d e f g h) next m fits) (record { typed = refl; leaves = refl })) refl (λ k. absurd (cc)), λ _. refl)

widen_good : (a b c d e f g h : Option ℕ) (w : Width) → IsWide w → Good (kinds a b c d e f g h) (sign_extended_to (half w) w (operand.Reg 0) 0) false
widen_good a b c d e f g h W8 wide = absurd wide
widen_good a b c d e f g h W16 wide = absurd wide
widen_good a b c d e f g h W32 wide = (refl, record { ops = refl; ends = refl }, λ _. refl)
widen_good a b c d e f g h W64 wide = (refl, record { ops = refl; ends = refl }, λ _. refl)

spread_good : (a b c d e f g h : Option ℕ) (w : Width) → IsWide w → Good (kinds a b c d e f g h) (spread_parts w) false
spread_good a b c d e f g h W8 wide = absurd wide
spread_good a b c d e f g h W16 wide = absurd wide
spread_good a b c d e f g h W32 wide = (refl, record { ops = refl; ends = refl }, λ _. refl)
spread_good a b c d e f g h W64 wide = (refl, record { ops = refl; ends = refl }, λ _. refl)

abbrev place_of : (w : Width) (o : Operand) → RegisterFits w o → PlaceFits w o
place_of w o fits = record { fits = fits.fits; place = fits.place }

-- two registers
exchanged_good : (a b c d e f g h : Option ℕ) (w : Width) (x y : Operand) → PlaceFits w x → PlaceFits w y → Ready (kinds a b c d e f g h) (both_read w x y) (kinds a (Some (num w)) (Some (num w)) d e f g h) → Good (kinds a b c d e f g h) (alone (both_read w x y ++ (puts w x 2 ++ puts w y 1)) ends.Tick) false
exchanged_good a b c d e f g h w x y fits fits2 r =
    (refl, part_typed (kinds a b c d e f g h) _ _ _ (both_ready _ (both_read w x y) (puts w x 2 ++ puts w y 1) _ _ r (both_ready _ (puts w x 2) (puts w y 1) _ _ (puts_ready _ w x 2 fits (same_num w)) (puts_ready _ w y 1 fits2 (same_num w)))) refl, λ _. refl)

read_both : (a b c d e f g h : Option ℕ) (w : Width) (x y : Operand) → OperandFits w x → OperandFits w y → is_memory x ≡ false → is_memory y ≡ false → Ready (kinds a b c d e f g h) (both_read w x y) (kinds a (Some (num w)) (Some (num w)) d e f g h)
read_both a b c d e f g h w x y fits fits2 quiet no2 =
    both_ready _ (reads w x 1) (reads w y 2) (kinds a (Some (num w)) c d e f g h) _ (reads_ready w x 1 _ fits refl (λ k. absurd (cc))) (reads_ready w y 2 _ fits2 refl (λ k. absurd (cc)))

xchg_good : (a b c d e f g h : Option ℕ) (next : ℕ) (w : Width) (x y : Operand) → PlaceFits w x → RegisterFits w y → Good (kinds a b c d e f g h) (xchg_parts next w x y) false
xchg_good a b c d e f g h next w (operand.Mem m) (operand.Mem k) fits fits2 = let no : ⊥ = cc fits2.no_memory in absurd no
xchg_good a b c d e f g h next w (operand.Mem m) (operand.Imm n) fits fits2 = let no : ⊥ = cc fits2.place in absurd no
xchg_good a b c d e f g h next w (operand.Mem m) y fits fits2 = (
  refl,
  part_typed (kinds a b c d e f g h) (address_line next m ∷ reads w y 1) (ends.Locked lock.Xchg (ir_width w) 2 0 1) (kinds (Some 64) (Some (num w)) c d e f g h) (line_ready _ _ (reads w y 1) _ (address_typed (kinds a b c d e f g h) next m fits.fits) (reads_ready w y 1 (kinds (Some 64) b c d e f g h) fits2.fits refl (λ k. absurd (cc)))) (same_num w),
  refl,
  given_typed _ [] _ w y 2 (place_of w y fits2) (nil_ready _) (same_num w) (λ k. absurd (cc)),
  λ _. refl,
)
xchg_good a b c d e f g h next w (operand.Imm n) y fits fits2 = let no : ⊥ = cc fits.place in absurd no
xchg_good a b c d e f g h next w (operand.Reg r) y fits fits2 = exchanged_good a b c d e f g h w (operand.Reg r) y fits (place_of w y fits2) (read_both a b c d e f g h w (operand.Reg r) y fits.fits fits2.fits refl fits2.no_memory)
xchg_good a b c d e f g h next w (operand.High r) y fits fits2 = exchanged_good a b c d e f g h w (operand.High r) y fits (place_of w y fits2) (read_both a b c d e f g h w (operand.High r) y fits.fits fits2.fits refl fits2.no_memory)

set_good : (a b c d e f g h : Option ℕ) (next : ℕ) (kind : Condition) (dst : Operand) → PlaceFits W8 dst → Good (kinds a b c d e f g h) (given_at (addressed next dst ++ (Cond 1 (ir_cond kind) ∷ Zext 1 ir.W8 2 1 ∷ [])) W8 dst 2) false
set_good a b c d e f g h next kind (operand.Mem m) fits = (
  refl,
  given_typed (kinds a b c d e f g h) (address_line next m ∷ Cond 1 (ir_cond kind) ∷ Zext 1 ir.W8 2 1 ∷ []) (kinds (Some 64) (Some 1) (Some 8) d e f g h) W8 (operand.Mem m) 2 fits
      (line_ready _ _ (Cond 1 (ir_cond kind) ∷ Zext 1 ir.W8 2 1 ∷ []) _ (address_typed (kinds a b c d e f g h) next m fits.fits) (record { typed = refl; leaves = refl })) refl (λ _. refl),
  λ _. refl,
)
set_good a b c d e f g h next kind (operand.Imm n) fits = let no : ⊥ = cc fits.place in absurd no
set_good a b c d e f g h next kind dst fits =
    (end_at_alone W8 dst 2, given_typed (kinds a b c d e f g h) (Cond 1 (ir_cond kind) ∷ Zext 1 ir.W8 2 1 ∷ []) (kinds a (Some 1) (Some 8) d e f g h) W8 dst 2 fits (record { typed = refl; leaves = refl }) refl (λ k. absurd (cc)), λ _. end_at_goes_on W8 dst 2)

pick_ready : (z c d e f g h : Option ℕ) (kind : Condition) (w : Width) (dst : ℕ) → IsWide w → dst < 16 → Ready (kinds z (Some (num w)) c d e f g h) (Get (ir_width w) 2 dst ∷ Cond 3 (ir_cond kind) ∷ Pick (ir_width w) 4 3 1 2 ∷ []) (kinds z (Some (num w)) (Some (num w)) (Some 1) (Some (num w)) f g h)
pick_ready z c d e f g h kind W8 dst wide below = absurd wide
pick_ready z c d e f g h kind W16 dst wide below = absurd wide
pick_ready z c d e f g h kind W32 dst wide below = line_ready _ _ (Cond 3 (ir_cond kind) ∷ Pick ir.W32 4 3 1 2 ∷ []) _ (lt-ltb dst 16 below) (record { typed = refl; leaves = refl })
pick_ready z c d e f g h kind W64 dst wide below = line_ready _ _ (Cond 3 (ir_cond kind) ∷ Pick ir.W64 4 3 1 2 ∷ []) _ (lt-ltb dst 16 below) (record { typed = refl; leaves = refl })

cmov_good : (a b c d e f g h : Option ℕ) (next : ℕ) (kind : Condition) (w : Width) (dst : ℕ) (src : Operand) → IsWide w → dst < 16 → PlaceFits w src → Good (kinds a b c d e f g h) (loads next w src 1 ++ cmov_parts kind w dst src) false
cmov_good a b c d e f g h next kind w dst src wide below fits =
    let ops = Get (ir_width w) 2 dst ∷ Cond 3 (ir_cond kind) ∷ Pick (ir_width w) 4 3 1 2 ∷ [] in
    one_operand a b c d e f g h next w src ((reads w src 1 ++ ops) ++ puts w (operand.Reg dst) 4) (end_at w (operand.Reg dst) 4) false fits.fits refl (λ _. refl)
    (λ T z at r. given_typed T (reads w src 1 ++ ops) (kinds z (Some (num w)) (Some (num w)) (Some 1) (Some (num w)) f g h) w (operand.Reg dst) 4 (register_place w dst below)
    (both_ready T (reads w src 1) ops _ _ r (pick_ready z c d e f g h kind w dst wide below)) (same_num w) (λ k. absurd (cc)))

-- ---- the stack and transfers

push_good : (a b c d e f g h : Option ℕ) (next : ℕ) (src : Operand) → OperandFits W64 src → Good (kinds a b c d e f g h) (loads next W64 src 1 ++ alone (reads W64 src 1 ++ pushed) (ends.Store ir.W64 2 1)) false
push_good a b c d e f g h next src fits =
    one_operand a b c d e f g h next W64 src (reads W64 src 1 ++ pushed) (ends.Store ir.W64 2 1) false fits refl (λ _. refl)
    (λ T z at r. part_typed T _ _ (kinds z (Some 64) (Some 64) d e f g h) (both_ready T (reads W64 src 1) pushed _ _ r (record { typed = refl; leaves = refl })) refl)

pop_good : (a b c d e f g h : Option ℕ) (dst : ℕ) → dst < 16 → Good (kinds a b c d e f g h) (popped 4 ∷ alone (stack_at 4 8 ++ (Put ir.W64 dst 1 ∷ [])) ends.Tick) false
pop_good a b c d e f g h dst below = (
  refl,
  record { ops = refl; ends = refl },
  refl,
  part_typed (kinds (Some 64) (Some 64) c d e f g h) _ ends.Tick _ (both_ready _ (stack_at 4 8) (Put ir.W64 dst 1 ∷ []) (kinds (Some 64) (Some 64) (Some 64) d e f g h) _ (record { typed = refl; leaves = refl }) (one_ready _ (Put ir.W64 dst 1) (and_from _ _ (lt-ltb dst 16 below) refl))) refl,
  λ _. refl,
)

-- a transfer may leave the block
leaves_block : (end : PartEnd) → GoesOn true end
leaves_block end e = absurd (cc)

jump_to_good : (a b c d e f g h : Option ℕ) (next : ℕ) (src : Operand) → PlaceFits W64 src → Good (kinds a b c d e f g h) (loads next W64 src 1 ++ alone (reads W64 src 1) (ends.Go (Temp 1))) true
jump_to_good a b c d e f g h next src fits =
    one_operand a b c d e f g h next W64 src (reads W64 src 1) (ends.Go (Temp 1)) true fits.fits refl (leaves_block (ends.Go (Temp 1))) (λ T z at r. part_typed T _ _ _ r refl)

next_ready : (T : Types) (next : ℕ) → next < 2 ^ 64 → is_typed T (Const ir.W64 1 next) ≡ true
next_ready T next below = lt-ltb next (2 ^ 64) below

call_good : (a b c d e f g h : Option ℕ) (next to : ℕ) → next < 2 ^ 64 → Good (kinds a b c d e f g h) (called [] next (Place to)) true
call_good a b c d e f g h next to below = (
  refl,
  part_typed (kinds a b c d e f g h) _ _ (kinds a (Some 64) (Some 64) d e f g h) (both_ready _ pushed (Const ir.W64 1 next ∷ []) (kinds a b (Some 64) d e f g h) _ (record { typed = refl; leaves = refl }) (one_ready (kinds a b (Some 64) d e f g h) (Const ir.W64 1 next) (next_ready unwritten next below))) refl,
  leaves_block (ends.StoreGo 2 1 (Place to)),
)

-- the place to call is in temporary 3
called_typed : (T : Types) (z b c d e f g h : Option ℕ) (next : ℕ) (src : Operand) → next < 2 ^ 64 → Ready T (reads W64 src 3) (kinds z b c (Some 64) e f g h) → Typed T (part (reads W64 src 3 ++ (pushed ++ (Const ir.W64 1 next ∷ []))) (ends.StoreGo 2 1 (Temp 3)))
called_typed T z b c d e f g h next src below r =
    part_typed T _ _ (kinds z (Some 64) (Some 64) (Some 64) e f g h) (both_ready T (reads W64 src 3) (pushed ++ (Const ir.W64 1 next ∷ [])) _ _ r
    (both_ready _ pushed (Const ir.W64 1 next ∷ []) (kinds z b (Some 64) (Some 64) e f g h) _ (record { typed = refl; leaves = refl }) (one_ready (kinds z b (Some 64) (Some 64) e f g h) (Const ir.W64 1 next) (next_ready unwritten next below)))) refl

call_to_good : (a b c d e f g h : Option ℕ) (next : ℕ) (src : Operand) → next < 2 ^ 64 → PlaceFits W64 src → Good (kinds a b c d e f g h) (loads next W64 src 3 ++ called (reads W64 src 3) next (Temp 3)) true
call_to_good a b c d e f g h next (operand.Mem m) below fits = (
  refl,
  part_typed (kinds a b c d e f g h) _ _ (kinds (Some 64) b c d e f g h) (one_ready _ _ (address_typed (kinds a b c d e f g h) next m fits.fits)) refl,
  refl,
  called_typed (kinds (Some 64) b c (Some 64) e f g h) (Some 64) b c d e f g h next (operand.Mem m) below (reads_ready W64 (operand.Mem m) 3 _ fits.fits refl (λ _. refl)),
  leaves_block (ends.StoreGo 2 1 (Temp 3)),
)
call_to_good a b c d e f g h next src below fits =
    (refl, called_typed (kinds a b c d e f g h) a b c d e f g h next src below (reads_ready W64 src 3 _ fits.fits refl (λ y. absurd (cc))), leaves_block (ends.StoreGo 2 1 (Temp 3)))

-- ---- locked instructions

-- an address in temporary 0, and a number in temporary 2
locked_good : (a b c d e f g h : Option ℕ) (kind : LockOp) (w : Width) (before after : List Op) → Ready (kinds a b c d e f g h) before (kinds (Some 64) b (Some (num w)) d e f g h) → Ready (kinds (Some 64) (Some (num w)) (Some (num w)) d e f g h) after (kinds (Some 64) (Some (num w)) (Some (num w)) d e f g h) → Good (kinds a b c d e f g h) (locked_parts before (Some kind) w after) false
locked_good a b c d e f g h kind w before after r r2 = (
  refl,
  part_typed (kinds a b c d e f g h) before (ends.Locked kind (ir_width w) 1 0 2) _ r (same_num w),
  refl,
  subst (λ (t : Types). Typed (types_after_end t (ends.Locked kind (ir_width w) 1 0 2)) (part after ends.Tick)) (sym r.leaves) (part_typed (kinds (Some 64) (Some (num w)) (Some (num w)) d e f g h) after ends.Tick _ r2 refl),
  λ _. refl,
)

operand_ready : (a b c d e f g h : Option ℕ) (next : ℕ) (w : Width) (m : Mem) (src : Operand) → MemFits m → OperandFits w src → is_memory src ≡ false → Ready (kinds a b c d e f g h) (address_line next m ∷ reads w src 2) (kinds (Some 64) b (Some (num w)) d e f g h)
operand_ready a b c d e f g h next w m src fits fits2 quiet =
    line_ready _ _ (reads w src 2) _ (address_typed (kinds a b c d e f g h) next m fits) (reads_ready w src 2 (kinds (Some 64) b c d e f g h) fits2 refl (λ k. absurd (cc)))

lock_alu_good : (a b c d e f g h : Option ℕ) (next : ℕ) (op : AluOp) (w : Width) (m : Mem) (src : Operand) → CanLock op → MemFits m → OperandFits w src → is_memory src ≡ false → Good (kinds a b c d e f g h) (lifted (LockAlu op w m src) next) false
lock_alu_good a b c d e f g h next alu.Add w m src can fits fits2 quiet = locked_good a b c d e f g h _ w _ _ (operand_ready a b c d e f g h next w m src fits fits2 quiet) (alu_lines_ready alu.Add w _ (same_num w) (same_num w))
lock_alu_good a b c d e f g h next alu.Or w m src can fits fits2 quiet = locked_good a b c d e f g h _ w _ _ (operand_ready a b c d e f g h next w m src fits fits2 quiet) (alu_lines_ready alu.Or w _ (same_num w) (same_num w))
lock_alu_good a b c d e f g h next alu.And w m src can fits fits2 quiet = locked_good a b c d e f g h _ w _ _ (operand_ready a b c d e f g h next w m src fits fits2 quiet) (alu_lines_ready alu.And w _ (same_num w) (same_num w))
lock_alu_good a b c d e f g h next alu.Sub w m src can fits fits2 quiet = locked_good a b c d e f g h _ w _ _ (operand_ready a b c d e f g h next w m src fits fits2 quiet) (alu_lines_ready alu.Sub w _ (same_num w) (same_num w))
lock_alu_good a b c d e f g h next alu.Xor w m src can fits fits2 quiet = locked_good a b c d e f g h _ w _ _ (operand_ready a b c d e f g h next w m src fits fits2 quiet) (alu_lines_ready alu.Xor w _ (same_num w) (same_num w))
lock_alu_good a b c d e f g h next op w m src can fits fits2 quiet = absurd can

step_ready : (a b c d e f g h : Option ℕ) (next : ℕ) (w : Width) (m : Mem) → MemFits m → Ready (kinds a b c d e f g h) (address_line next m ∷ Const (ir_width w) 2 1 ∷ []) (kinds (Some 64) b (Some (num w)) d e f g h)
step_ready a b c d e f g h next W8 m fits = line_ready _ _ (Const ir.W8 2 1 ∷ []) _ (address_typed (kinds a b c d e f g h) next m fits) (record { typed = refl; leaves = refl })
step_ready a b c d e f g h next W16 m fits = line_ready _ _ (Const ir.W16 2 1 ∷ []) _ (address_typed (kinds a b c d e f g h) next m fits) (record { typed = refl; leaves = refl })
step_ready a b c d e f g h next W32 m fits = line_ready _ _ (Const ir.W32 2 1 ∷ []) _ (address_typed (kinds a b c d e f g h) next m fits) (record { typed = refl; leaves = refl })
step_ready a b c d e f g h next W64 m fits = line_ready _ _ (Const ir.W64 2 1 ∷ []) _ (address_typed (kinds a b c d e f g h) next m fits) (record { typed = refl; leaves = refl })

lock_one_good : (a b c d e f g h : Option ℕ) (next : ℕ) (op : OneOp) (w : Width) (m : Mem) → CanLockOne op → MemFits m → Good (kinds a b c d e f g h) (lifted (LockOne op w m) next) false
lock_one_good a b c d e f g h next one.Inc w m can fits = locked_good a b c d e f g h _ w _ _ (step_ready a b c d e f g h next w m fits) (flags_ready all_but_carry family.Inc w 1 None _ (refl, (refl, (refl, (refl, tt)))) (one_operands one.Inc (num w) 1 (kinds (Some 64) (Some (num w)) (Some (num w)) d e f g h) (same_num w)))
lock_one_good a b c d e f g h next one.Dec w m can fits = locked_good a b c d e f g h _ w _ _ (step_ready a b c d e f g h next w m fits) (flags_ready all_but_carry family.Dec w 1 None _ (refl, (refl, (refl, (refl, tt)))) (one_operands one.Dec (num w) 1 (kinds (Some 64) (Some (num w)) (Some (num w)) d e f g h) (same_num w)))
lock_one_good a b c d e f g h next op w m can fits = absurd can

xadd_good : (a b c d e f g h : Option ℕ) (next : ℕ) (w : Width) (m : Mem) (reg : Operand) → MemFits m → RegisterFits w reg → Good (kinds a b c d e f g h) (lifted (Xadd w m reg) next) false
xadd_good a b c d e f g h next w m reg fits fits2 =
    locked_good a b c d e f g h lock.Add w _ _ (operand_ready a b c d e f g h next w m reg fits fits2.fits fits2.no_memory)
    (both_ready _ (flag_lines all_five family.Add w 1 (Some 2)) (puts w reg 1) _ _ (alu_lines_ready alu.Add w _ (same_num w) (same_num w)) (puts_ready _ w reg 1 (place_of w reg fits2) (same_num w)))

both_same : (n : ℕ) → (n == n) ≡ true → ((n == n) && (n == n)) ≡ true
both_same n e = and_from _ _ e e

compared_typed : (c d e f g h : Option ℕ) (w : Width) → Typed (kinds (Some 64) (Some (num w)) c (Some (num w)) e f g h) (part (flag_lines all_five family.Sub w 3 (Some 1) ++ (Cond 4 E ∷ accumulator_ops w)) ends.Tick)
compared_typed c d e f g h W8 = record { ops = refl; ends = refl }
compared_typed c d e f g h W16 = record { ops = refl; ends = refl }
compared_typed c d e f g h W32 = record { ops = refl; ends = refl }
compared_typed c d e f g h W64 = record { ops = refl; ends = refl }

cmpxchg_good : (a b c d e f g h : Option ℕ) (next : ℕ) (w : Width) (m : Mem) (reg : Operand) → MemFits m → RegisterFits w reg → Good (kinds a b c d e f g h) (lifted (Cmpxchg w m reg) next) false
cmpxchg_good a b c d e f g h next w m reg fits fits2 =
    let end = ends.LockedCmpxchg (ir_width w) 1 0 3 2 in
    let last = reads w reg 2 ++ (Get (ir_width w) 3 0 ∷ []) in
    let reading : Ready (kinds a b c d e f g h) (address_line next m ∷ last) (kinds (Some 64) b (Some (num w)) (Some (num w)) e f g h) =
    line_ready _ _ last _ (address_typed (kinds a b c d e f g h) next m fits)
    (both_ready (kinds (Some 64) b c d e f g h) (reads w reg 2) (Get (ir_width w) 3 0 ∷ []) (kinds (Some 64) b (Some (num w)) d e f g h) _ (reads_ready w reg 2 _ fits2.fits refl (λ k. absurd (cc fits2.no_memory))) (one_ready _ (Get (ir_width w) 3 0) refl)) in (
      refl,
      part_typed (kinds a b c d e f g h) _ end _ reading (both_same (num w) (same_num w)),
      refl,
      subst (λ (t : Types). Typed (types_after_end t end) (part (flag_lines all_five family.Sub w 3 (Some 1) ++ (Cond 4 E ∷ accumulator_ops w)) ends.Tick)) (sym reading.leaves) (compared_typed (Some (num w)) d e f g h w),
      λ _. refl,
    )

-- ---- every instruction

pub good : (i : Instr) (next : ℕ) (a b c d e f g h : Option ℕ) → InstrFits i → next < 2 ^ 64 → Good (kinds a b c d e f g h) (lifted i next) (is_transfer i)
good (Alu op w dst src) next a b c d e f g h fit below = alu_good op a b c d e f g h next w dst src fit
good (Mov w dst src) next a b c d e f g h fit below = mov_good a b c d e f g h next w dst src fit
good (Zx from w dst src) next a b c d e f g h fit below = widened_good a b c d e f g h next from w src dst _ fit.1 fit.2.fits (λ z. zext_ready z c d e f g h from w fit.0)
good (Sx from w dst src) next a b c d e f g h fit below = widened_good a b c d e f g h next from w src dst _ fit.1 fit.2.fits (λ z. sext_ready z c d e f g h from w fit.0)
good (Lea w dst mem) next a b c d e f g h fit below = lea_good a b c d e f g h next w dst mem fit.0 fit.1 fit.2
good (Push src) next a b c d e f g h fit below = push_good a b c d e f g h next src fit
good (Pop dst) next a b c d e f g h fit below = pop_good a b c d e f g h dst fit
good (One op w dst) next a b c d e f g h fit below = one_good a b c d e f g h next op w dst fit
good (Mul signed w src) next a b c d e f g h fit below = mul_good a b c d e f g h next signed w src fit.0 fit.1
good (Imul w dst x y) next a b c d e f g h fit below = imul_good a b c d e f g h next w dst x y fit.0 fit.1 fit.2
good (Div signed w src) next a b c d e f g h fit below = div_good a b c d e f g h next signed w src fit.0 fit.1
good (Shift op w dst count) next a b c d e f g h fit below = shift_good a b c d e f g h next op w dst count fit.0 fit.2 fit.1
good (Widen w) next a b c d e f g h fit below = widen_good a b c d e f g h w fit
good (Spread w) next a b c d e f g h fit below = spread_good a b c d e f g h w fit
good (Xchg w x y) next a b c d e f g h fit below = xchg_good a b c d e f g h next w x y fit.0 fit.1
good (Set kind dst) next a b c d e f g h fit below = set_good a b c d e f g h next kind dst fit
good (Cmov kind w dst src) next a b c d e f g h fit below = cmov_good a b c d e f g h next kind w dst src fit.0 fit.1 fit.2
good (Jcc kind rel) next a b c d e f g h fit below = (refl, record { ops = refl; ends = refl }, leaves_block (ends.Branch (ir_cond kind) (target next rel) next))
good (Jmp rel) next a b c d e f g h fit below = (refl, record { ops = refl; ends = refl }, leaves_block (ends.Go (Place (target next rel))))
good (JmpTo src) next a b c d e f g h fit below = jump_to_good a b c d e f g h next src fit
good (Call rel) next a b c d e f g h fit below = call_good a b c d e f g h next (target next rel) below
good (CallTo src) next a b c d e f g h fit below = call_to_good a b c d e f g h next src below fit
good (Ret extra) next a b c d e f g h fit below = (refl, record { ops = refl; ends = refl }, refl, record { ops = refl; ends = refl }, leaves_block (ends.Go (Temp 1)))
good Leave next a b c d e f g h fit below = (refl, record { ops = refl; ends = refl }, refl, record { ops = refl; ends = refl }, λ _. refl)
good Nop next a b c d e f g h fit below = (refl, record { ops = refl; ends = refl }, λ _. refl)
good Pause next a b c d e f g h fit below = (refl, record { ops = refl; ends = refl }, λ _. refl)
good Endbr next a b c d e f g h fit below = (refl, record { ops = refl; ends = refl }, λ _. refl)
good Mfence next a b c d e f g h fit below = (refl, record { ops = refl; ends = refl }, λ _. refl)
good (LockAlu op w mem src) next a b c d e f g h fit below = lock_alu_good a b c d e f g h next op w mem src fit.0 fit.1 fit.2 fit.3
good (LockOne op w mem) next a b c d e f g h fit below = lock_one_good a b c d e f g h next op w mem fit.0 fit.1
good (Xadd w mem reg) next a b c d e f g h fit below = xadd_good a b c d e f g h next w mem reg fit.0 fit.1
good (Cmpxchg w mem reg) next a b c d e f g h fit below = cmpxchg_good a b c d e f g h next w mem reg fit.0 fit.1
