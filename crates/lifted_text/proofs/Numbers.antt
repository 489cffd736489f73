-- The numbers in the parts of lifted instructions have 64 bits.
use Rattle.std.proofs.Common.{ℕ, ℤ, pos, negsuc, ◌+◌, ◌-◌, ◌^◌, Bool, true, false, List, [], ◌∷◌, ◌++◌, Option, Some, None, arith}
use Rattle.std.proofs.lemmas.Int.{ints}
use Rattle.std.specs.Int.{w64, cast_unsigned}
use Rattle.std.specs.Prelude.{if◌then◌else◌, ◌==◌}
use Rattle.ir_meaning.specs.Live.{is_dead, kept_ops, kept_parts, live_before_end, live_before_ops, live_before_parts}
use Rattle.ir_syntax.specs.declared.block.Part.{Part}
use Rattle.ir_syntax.specs.declared.cond.Flag.{Flag}
use Rattle.ir_syntax.specs.declared.line.Family.{Family}
use Rattle.ir_syntax.specs.declared.cond.Cond.TheVariants.{E}
use Rattle.ir_syntax.specs.declared.line.Family.TheVariants as family
use Rattle.ir_syntax.specs.declared.line.LockOp.{LockOp}
use Rattle.ir_syntax.specs.declared.line.LockOp.TheVariants as lock
use Rattle.ir_syntax.specs.declared.line.Op.TheVariants.{Get, Put, Const, Calc, Cond, Pick, Zext, Sext, Cut}
use Rattle.ir_syntax.specs.declared.width.Width.TheVariants as ir
use Rattle.ir_syntax.specs.declared.line.Op.{Op}
use Rattle.ir_syntax.specs.declared.line.PartEnd.{PartEnd}
use Rattle.ir_syntax.specs.declared.line.PartEnd.TheVariants as ends
use Rattle.ir_syntax.specs.declared.line.Target.{Target}
use Rattle.ir_syntax.specs.declared.line.Target.TheVariants.{Place, Temp}
use Rattle.ir_text.specs.Text.{IsNumber}
use Rattle.x86_flags.specs.declared.flags.Flags.{Flags}
use Rattle.x86_flags.specs.Shifts.{count_of}
use Rattle.x86_forms.specs.declared.instructions.ShiftOp.{ShiftOp}
use Rattle.x86_forms.specs.declared.instructions.Instr.{Instr}
use Rattle.x86_forms.specs.declared.instructions.Instr.TheVariants.{Alu, Mov, Zx, Sx, Lea, Push, Pop, One, Mul, Imul, Div, Shift, Widen, Spread, Xchg, Set, Cmov, Jcc, Jmp, JmpTo, Call, CallTo, Ret, Leave, Nop, Pause, Endbr, Mfence, LockAlu, LockOne, Xadd, Cmpxchg}
use Rattle.x86_forms.specs.declared.operands.Base.{Base}
use Rattle.x86_forms.specs.declared.operands.Base.TheVariants as base
use Rattle.x86_forms.specs.declared.operands.Mem.{Mem}
use Rattle.x86_forms.specs.declared.operands.Operand.{Operand}
use Rattle.x86_forms.specs.declared.operands.Operand.TheVariants as operand
use Rattle.x86_forms.specs.declared.operands.Width.{Width}
use Rattle.x86_forms.specs.declared.operands.Width.TheVariants.{W8, W16, W32, W64}
use Rattle.x86_forms.specs.Limits.{InstrFits, IsDistance, OperandFits, is_immediate}
use Rattle.x86_forms.specs.Widths.{bits_in}
use Rattle.x86_model.specs.Operands.{target}
use Rattle.x86_model.specs.Registers.{half}
use Rattle.x86_model.specs.Results.{keeps_result}
use Rattle.basic_blocks.specs.Placed.{Placed}
use Rattle.lift_table.specs.Faithful.{block_parts, lifted_all}
use Rattle.lift_table.specs.LiftLines.{address_line, addressed, all_but_carry, all_five, alone, alu_family, cleared, end_at, flag_lines, given_at, ir_cond, ir_width, loads, lock_op, lock_one_op, number_in, one_family, one_flags, overflow_and_carry, product_family, puts, reads, shift_family, shift_flags, zero_lines}
use Rattle.lift_table.specs.LiftTable.{accumulator_ops, alu_lines, alu_parts, both_read, called, cmov_parts, count_line, counted_lines, imul_parts, lea_parts, lifted, locked_parts, mul_ops, one_parts, popped, product_lines, pushed, shift_parts, sign_extended_to, stack_at, xchg_parts, zero_extended_to}
use Rattle.lifted_text.proofs.Spelled.{AllNumbers as Parts, EndNumber, OpNumber, OpNumbers as Ops, TargetNumber}

-- ---- joining

join : (xs ys : List Op) → Ops xs → Ops ys → Ops (xs ++ ys)
join [] ys h k = k
join (x ∷ xs) ys h k = (h.0, join xs ys h.1 k)

chain : (xs ys : List Part) → Parts xs → Parts ys → Parts (xs ++ ys)
chain [] ys h k = k
chain (x ∷ xs) ys h k = (h.0, chain xs ys h.1 k)

one : (ops : List Op) (end : PartEnd) → Ops ops → EndNumber end → Parts (alone ops end)
one ops end h k = (record { ops = h; end = k }, tt)

-- ---- numbers

target_number : (next : ℕ) (rel : ℤ) → IsNumber (target next rel)
unfolding target
target_number next rel = omega arith

unsigned_number : (disp : ℤ) → IsDistance disp → IsNumber (cast_unsigned w64 disp)
unsigned_number (pos n) d = omega (arith, ints, d)
unsigned_number (negsuc n) d = omega (arith, ints, d)

address_number : (next : ℕ) (m : Base) (disp : ℤ) → IsDistance disp → IsNumber (number_in next m disp)
address_number next base.None disp d = unsigned_number disp d
address_number next (base.Reg r) disp d = unsigned_number disp d
address_number next base.Rip disp d = target_number next disp

-- the displacement of an operand in memory has 32 bits
abbrev pub HasDistance : Operand → Type 0
HasDistance (operand.Mem m) = IsDistance m.disp
HasDistance (operand.Reg r) = Unit {0}
HasDistance (operand.High r) = Unit {0}
HasDistance (operand.Imm n) = Unit {0}

far : (w : Width) (o : Operand) → OperandFits w o → HasDistance o
far w (operand.Mem m) fits = fits.2
far w (operand.Reg r) fits = tt
far w (operand.High r) fits = tt
far w (operand.Imm n) fits = tt

-- ---- lines

line : (next : ℕ) (m : Mem) → IsDistance m.disp → OpNumber (address_line next m)
line next m d = address_number next m.base m.disp d

addressed_numbers : (next : ℕ) (o : Operand) → HasDistance o → Ops (addressed next o)
addressed_numbers next (operand.Mem m) d = (line next m d, tt)
addressed_numbers next (operand.Reg r) d = tt
addressed_numbers next (operand.High r) d = tt
addressed_numbers next (operand.Imm n) d = tt

reads_numbers : (w : Width) (o : Operand) (t : ℕ) → Ops (reads w o t)
reads_numbers w (operand.Mem m) t = tt
reads_numbers w (operand.Reg r) t = (tt, tt)
reads_numbers w (operand.High r) t = (tt, tt)
reads_numbers w (operand.Imm n) t = (tt, tt)

both_numbers : (w : Width) (dst src : Operand) → Ops (both_read w dst src)
both_numbers w dst src = join (reads w dst 1) (reads w src 2) (reads_numbers w dst 1) (reads_numbers w src 2)

puts_numbers : (w : Width) (o : Operand) (t : ℕ) → Ops (puts w o t)
puts_numbers w (operand.Mem m) t = tt
puts_numbers w (operand.Reg r) t = (tt, tt)
puts_numbers w (operand.High r) t = (tt, tt)
puts_numbers w (operand.Imm n) t = tt

flags_numbers : (fs : List Flag) (f : Family) (w : Width) (a : ℕ) (b : Option ℕ) → Ops (flag_lines fs f w a b)
flags_numbers [] f w a b = tt
flags_numbers (flag ∷ fs) f w a b = (tt, flags_numbers fs f w a b)

zeros_numbers : (fs : List Flag) → Ops (zero_lines fs)
zeros_numbers [] = tt
zeros_numbers (f ∷ fs) = (tt, zeros_numbers fs)

-- ---- parts

loads_numbers : (next : ℕ) (w : Width) (o : Operand) (t : ℕ) → HasDistance o → Parts (loads next w o t)
loads_numbers next w (operand.Mem m) t d = (record { ops = (line next m d, tt); end = tt }, tt)
loads_numbers next w (operand.Reg r) t d = tt
loads_numbers next w (operand.High r) t d = tt
loads_numbers next w (operand.Imm n) t d = tt

loaded : (next : ℕ) (w : Width) (o : Operand) (t : ℕ) (rest : List Part) → OperandFits w o → Parts rest → Parts (loads next w o t ++ rest)
loaded next w o t rest fits h = chain (loads next w o t) rest (loads_numbers next w o t (far w o fits)) h

end_numbers : (w : Width) (o : Operand) (t : ℕ) → EndNumber (end_at w o t)
end_numbers w (operand.Mem m) t = tt
end_numbers w (operand.Reg r) t = tt
end_numbers w (operand.High r) t = tt
end_numbers w (operand.Imm n) t = tt

given : (ops : List Op) (w : Width) (dst : Operand) (t : ℕ) → Ops ops → Parts (given_at ops w dst t)
given ops w dst t h = one (ops ++ puts w dst t) (end_at w dst t) (join ops (puts w dst t) h (puts_numbers w dst t)) (end_numbers w dst t)

-- one of two lists
parts_if : (b : Bool) (xs ys : List Part) → Parts xs → Parts ys → Parts (if b then xs else ys)
parts_if true xs ys h k = h
parts_if false xs ys h k = k

ops_if : (b : Bool) (xs ys : List Op) → Ops xs → Ops ys → Ops (if b then xs else ys)
ops_if true xs ys h k = h
ops_if false xs ys h k = k

-- ---- arithmetic

counted_numbers : (op : ShiftOp) (w : Width) (count : Option ℕ) → Ops (counted_lines op w count)
counted_numbers op w None = flags_numbers (shift_flags op) (shift_family op) w 1 (Some 2)
counted_numbers op w (Some n) = ops_if (count_of (bits_in w) n == 0) [] (flag_lines (shift_flags op) (shift_family op) w 1 (Some 2)) tt (flags_numbers (shift_flags op) (shift_family op) w 1 (Some 2))

count_numbers : (count : Option ℕ) → OpNumber (count_line count)
count_numbers None = tt
count_numbers (Some n) = tt

product_numbers : (signed : Bool) (w : Width) → Ops (product_lines signed w)
product_numbers signed w = join (zero_lines cleared) (flag_lines overflow_and_carry (product_family signed) w 2 (Some 1)) (zeros_numbers cleared) (flags_numbers overflow_and_carry (product_family signed) w 2 (Some 1))

imul_numbers : (next : ℕ) (w : Width) (dst : ℕ) (a b : Operand) → OperandFits w a → OperandFits w b → Parts (imul_parts next w dst a b)
imul_numbers next w dst a b fa fb =
    let ops = Calc family.Mul (ir_width w) 3 2 (Some 1) ∷ product_lines true w in
    loaded next w a 1 (loads next w b 2 ++ given_at (both_read w a b ++ ops) w (operand.Reg dst) 3) fa (loaded next w b 2 (given_at (both_read w a b ++ ops) w (operand.Reg dst) 3) fb (given (both_read w a b ++ ops) w (operand.Reg dst) 3 (join (both_read w a b) ops (both_numbers w a b) (tt, product_numbers true w))))

-- ---- moves

lea_numbers : (next : ℕ) (w : Width) (dst : ℕ) (m : Mem) → IsDistance m.disp → Parts (lea_parts next w dst m)
lea_numbers next W64 dst m d = given (address_line next m ∷ []) W64 (operand.Reg dst) 0 (line next m d, tt)
lea_numbers next W32 dst m d = given (address_line next m ∷ Cut 64 ir.W32 1 0 ∷ []) W32 (operand.Reg dst) 1 (line next m d, (tt, tt))
lea_numbers next W16 dst m d = given (address_line next m ∷ Cut 64 ir.W16 1 0 ∷ []) W16 (operand.Reg dst) 1 (line next m d, (tt, tt))
lea_numbers next W8 dst m d = given (address_line next m ∷ Cut 64 ir.W8 1 0 ∷ []) W8 (operand.Reg dst) 1 (line next m d, (tt, tt))

exchanged : (w : Width) (a b : Operand) → Ops (both_read w a b ++ (puts w a 2 ++ puts w b 1))
exchanged w a b = join (both_read w a b) (puts w a 2 ++ puts w b 1) (both_numbers w a b) (join (puts w a 2) (puts w b 1) (puts_numbers w a 2) (puts_numbers w b 1))

xchg_numbers : (next : ℕ) (w : Width) (a b : Operand) → HasDistance a → Parts (xchg_parts next w a b)
xchg_numbers next w (operand.Mem m) b d = (record { ops = (line next m d, reads_numbers w b 1); end = tt }, given [] w b 2 tt)
xchg_numbers next w (operand.Reg r) b d = one (both_read w (operand.Reg r) b ++ (puts w (operand.Reg r) 2 ++ puts w b 1)) ends.Tick (exchanged w (operand.Reg r) b) tt
xchg_numbers next w (operand.High r) b d = one (both_read w (operand.High r) b ++ (puts w (operand.High r) 2 ++ puts w b 1)) ends.Tick (exchanged w (operand.High r) b) tt
xchg_numbers next w (operand.Imm n) b d = one (both_read w (operand.Imm n) b ++ (puts w (operand.Imm n) 2 ++ puts w b 1)) ends.Tick (exchanged w (operand.Imm n) b) tt

-- ---- the stack

stack_numbers : (r n : ℕ) → IsNumber n → Ops (stack_at r n)
stack_numbers r n h = (h, (tt, tt))

popped_numbers : (ops : List Op) (end : PartEnd) (r : ℕ) → Ops ops → EndNumber end → Parts (popped r ∷ alone ops end)
popped_numbers ops end r h k = (record { ops = (tt, tt); end = tt }, one ops end h k)

pushed_numbers : Ops pushed
pushed_numbers = stack_numbers 4 (2 ^ 64 - 8) (omega arith)

called_numbers : (ops : List Op) (next : ℕ) (to : Target) → Ops ops → TargetNumber to → Parts (called ops next to)
called_numbers ops next to h k =
    let after = Const ir.W64 1 next ∷ [] in
    one (ops ++ (pushed ++ after)) (ends.StoreGo 2 1 to) (join ops (pushed ++ after) h (join pushed after pushed_numbers (tt, tt))) k

-- ---- locked instructions

locked_numbers : (before : List Op) (kind : Option LockOp) (w : Width) (after : List Op) → Ops before → Ops after → Parts (locked_parts before kind w after)
locked_numbers before None w after h k = one [] ends.BadCode tt tt
locked_numbers before (Some kind) w after h k = (record { ops = h; end = tt }, one after ends.Tick k tt)

accumulator_numbers : (w : Width) → Ops (accumulator_ops w)
accumulator_numbers W8 = (tt, (tt, tt))
accumulator_numbers W16 = (tt, (tt, tt))
accumulator_numbers W32 = (tt, (tt, (tt, (tt, tt))))
accumulator_numbers W64 = (tt, (tt, tt))

-- ---- every instruction

lifted_numbers : (i : Instr) (next : ℕ) → IsNumber next → InstrFits i → Parts (lifted i next)
lifted_numbers (Alu op w dst src) next n fits =
    let ops = Calc (alu_family op) (ir_width w) 3 1 (Some 2) ∷ alu_lines op w in
    let flags = flags_numbers all_five (alu_family op) w 1 (Some 2) in
    loaded next w dst 1 (loads next w src 2 ++ alu_parts op w dst src) fits.target.fits
    (loaded next w src 2 (alu_parts op w dst src) fits.source
    (parts_if (keeps_result op) (given_at (both_read w dst src ++ ops) w dst 3) (alone (both_read w dst src ++ alu_lines op w) ends.Tick)
    (given (both_read w dst src ++ ops) w dst 3 (join (both_read w dst src) ops (both_numbers w dst src) (tt, flags)))
    (one (both_read w dst src ++ alu_lines op w) ends.Tick (join (both_read w dst src) (alu_lines op w) (both_numbers w dst src) flags) tt)))
lifted_numbers (Mov w dst src) next n fits =
    let ops = addressed next dst ++ reads w src 1 in
    loaded next w src 1 (given_at ops w dst 1) fits.source (given ops w dst 1 (join (addressed next dst) (reads w src 1) (addressed_numbers next dst (far w dst fits.target.fits)) (reads_numbers w src 1)))
lifted_numbers (Zx from w dst src) next n fits =
    let more = Zext (bits_in from) (ir_width w) 2 1 ∷ [] in
    loaded next from src 1 (zero_extended_to from w src dst) fits.2.fits (given (reads from src 1 ++ more) w (operand.Reg dst) 2 (join (reads from src 1) more (reads_numbers from src 1) (tt, tt)))
lifted_numbers (Sx from w dst src) next n fits =
    let more = Sext (bits_in from) (ir_width w) 2 1 ∷ [] in
    loaded next from src 1 (sign_extended_to from w src dst) fits.2.fits (given (reads from src 1 ++ more) w (operand.Reg dst) 2 (join (reads from src 1) more (reads_numbers from src 1) (tt, tt)))
lifted_numbers (Lea w dst m) next n fits = lea_numbers next w dst m fits.2.2
lifted_numbers (Push src) next n fits =
    let ops = reads W64 src 1 ++ pushed in
    loaded next W64 src 1 (alone ops (ends.Store ir.W64 2 1)) fits (one ops (ends.Store ir.W64 2 1) (join (reads W64 src 1) pushed (reads_numbers W64 src 1) pushed_numbers) tt)
lifted_numbers (Pop dst) next n fits = popped_numbers (stack_at 4 8 ++ (Put ir.W64 dst 1 ∷ [])) ends.Tick 4 (join (stack_at 4 8) (Put ir.W64 dst 1 ∷ []) (stack_numbers 4 8 (omega arith)) (tt, tt)) tt
lifted_numbers (One op w dst) next n fits =
    let more = Calc (one_family op) (ir_width w) 3 1 None ∷ flag_lines (one_flags op) (one_family op) w 1 None in
    loaded next w dst 1 (one_parts op w dst) fits.fits (given (reads w dst 1 ++ more) w dst 3 (join (reads w dst 1) more (reads_numbers w dst 1) (tt, flags_numbers (one_flags op) (one_family op) w 1 None)))
lifted_numbers (Mul signed w src) next n fits =
    let last = Put (ir_width w) 0 3 ∷ Put (ir_width w) 2 4 ∷ [] in
    let ops = reads w src 1 ++ mul_ops signed w in
    loaded next w src 1 (alone ops ends.Tick) fits.1.fits (one ops ends.Tick (join (reads w src 1) (mul_ops signed w) (reads_numbers w src 1) (tt, (tt, (tt, join (product_lines signed w) last (product_numbers signed w) (tt, (tt, tt)))))) tt)
lifted_numbers (Imul w dst a b) next n fits = parts_if (is_immediate b) (imul_parts next w dst a b) (imul_parts next w dst b a) (imul_numbers next w dst a b fits.2.target.fits fits.2.source) (imul_numbers next w dst b a fits.2.source fits.2.target.fits)
lifted_numbers (Div signed w src) next n fits =
    let ops = reads w src 1 ++ zero_lines all_five in
    let end = ends.Divide signed (ir_width w) 1 in
    loaded next w src 1 (alone ops end) fits.1.fits (one ops end (join (reads w src 1) (zero_lines all_five) (reads_numbers w src 1) (zeros_numbers all_five)) tt)
lifted_numbers (Shift op w dst count) next n fits =
    let more = count_line count ∷ Calc (shift_family op) (ir_width w) 3 1 (Some 2) ∷ counted_lines op w count in
    loaded next w dst 1 (shift_parts op w dst count) fits.1.fits (given (reads w dst 1 ++ more) w dst 3 (join (reads w dst 1) more (reads_numbers w dst 1) (count_numbers count, (tt, counted_numbers op w count))))
lifted_numbers (Widen w) next n fits = given (reads (half w) (operand.Reg 0) 1 ++ (Sext (bits_in (half w)) (ir_width w) 2 1 ∷ [])) w (operand.Reg 0) 2 (tt, (tt, tt))
lifted_numbers (Spread w) next n fits = given (Get (ir_width w) 1 0 ∷ Const ir.W8 2 (bits_in w - 1) ∷ Calc family.Sar (ir_width w) 3 1 (Some 2) ∷ []) w (operand.Reg 2) 3 (tt, (tt, (tt, tt)))
lifted_numbers (Xchg w a b) next n fits = xchg_numbers next w a b (far w a fits.0.fits)
lifted_numbers (Set cc dst) next n fits =
    let more = Cond 1 (ir_cond cc) ∷ Zext 1 ir.W8 2 1 ∷ [] in
    given (addressed next dst ++ more) W8 dst 2 (join (addressed next dst) more (addressed_numbers next dst (far W8 dst fits.fits)) (tt, (tt, tt)))
lifted_numbers (Cmov cc w dst src) next n fits =
    let more = Get (ir_width w) 2 dst ∷ Cond 3 (ir_cond cc) ∷ Pick (ir_width w) 4 3 1 2 ∷ [] in
    loaded next w src 1 (cmov_parts cc w dst src) fits.2.fits (given (reads w src 1 ++ more) w (operand.Reg dst) 4 (join (reads w src 1) more (reads_numbers w src 1) (tt, (tt, (tt, tt)))))
lifted_numbers (Jcc cc rel) next n fits = one [] (ends.Branch (ir_cond cc) (target next rel) next) tt (target_number next rel, n)
lifted_numbers (Jmp rel) next n fits = one [] (ends.Go (Place (target next rel))) tt (target_number next rel)
lifted_numbers (JmpTo src) next n fits = loaded next W64 src 1 (alone (reads W64 src 1) (ends.Go (Temp 1))) fits.fits (one (reads W64 src 1) (ends.Go (Temp 1)) (reads_numbers W64 src 1) tt)
lifted_numbers (Call rel) next n fits = called_numbers [] next (Place (target next rel)) tt (target_number next rel)
lifted_numbers (CallTo src) next n fits = loaded next W64 src 3 (called (reads W64 src 3) next (Temp 3)) fits.fits (called_numbers (reads W64 src 3) next (Temp 3) (reads_numbers W64 src 3) tt)
lifted_numbers (Ret extra) next n fits = popped_numbers (stack_at 4 (8 + extra)) (ends.Go (Temp 1)) 4 (stack_numbers 4 (8 + extra) (omega (arith, fits))) tt
lifted_numbers Leave next n fits = popped_numbers (stack_at 5 8 ++ (Put ir.W64 5 1 ∷ [])) ends.Tick 5 (join (stack_at 5 8) (Put ir.W64 5 1 ∷ []) (stack_numbers 5 8 (omega arith)) (tt, tt)) tt
lifted_numbers Nop next n fits = one [] ends.Tick tt tt
lifted_numbers Pause next n fits = one [] ends.Tick tt tt
lifted_numbers Endbr next n fits = one [] ends.Tick tt tt
lifted_numbers Mfence next n fits = one [] ends.Fence tt tt
lifted_numbers (LockAlu op w m src) next n fits = locked_numbers (address_line next m ∷ reads w src 2) (lock_op op) w (flag_lines all_five (alu_family op) w 1 (Some 2)) (line next m fits.1.2, reads_numbers w src 2) (flags_numbers all_five (alu_family op) w 1 (Some 2))
lifted_numbers (LockOne op w m) next n fits = locked_numbers (address_line next m ∷ Const (ir_width w) 2 1 ∷ []) (lock_one_op op) w (flag_lines all_but_carry (one_family op) w 1 None) (line next m fits.1.2, (tt, tt)) (flags_numbers all_but_carry (one_family op) w 1 None)
lifted_numbers (Xadd w m reg) next n fits =
    let flags = flag_lines all_five family.Add w 1 (Some 2) in
    locked_numbers (address_line next m ∷ reads w reg 2) (Some lock.Add) w (flags ++ puts w reg 1) (line next m fits.0.2, reads_numbers w reg 2) (join flags (puts w reg 1) (flags_numbers all_five family.Add w 1 (Some 2)) (puts_numbers w reg 1))
lifted_numbers (Cmpxchg w m reg) next n fits =
    let old = Get (ir_width w) 3 0 ∷ [] in
    let flags = flag_lines all_five family.Sub w 3 (Some 1) in
    let more = Cond 4 E ∷ accumulator_ops w in (
      record { ops = (line next m fits.0.2, join (reads w reg 2) old (reads_numbers w reg 2) (tt, tt)); end = tt },
      one (flags ++ more) ends.Tick (join flags more (flags_numbers all_five family.Sub w 3 (Some 1)) (tt, accumulator_numbers w)) tt,
    )

-- ---- blocks

-- the instructions of a block, within their limits
abbrev pub AreFit : List Placed → Type 0
AreFit [] = Unit {0}
AreFit (p ∷ ps) = (IsNumber p.next × InstrFits p.instr) × AreFit ps

all_numbers : (is : List Placed) → AreFit is → Parts (lifted_all is)
all_numbers [] h = tt
all_numbers (i ∷ is) h = chain (lifted i.instr i.next) (lifted_all is) (lifted_numbers i.instr i.next h.0.0 h.0.1) (all_numbers is h.1)

kept_line : (dead : Bool) (o : Op) (os : List Op) → OpNumber o → Ops os → Ops (if dead then os else o ∷ os)
kept_line true o os h k = k
kept_line false o os h k = (h, k)

kept_lines : (os : List Op) (live : Flags) → Ops os → Ops (kept_ops os live)
kept_lines [] live h = tt
kept_lines (o ∷ os) live h = kept_line (is_dead o (live_before_ops os live)) o (kept_ops os live) h.0 (kept_lines os live h.1)

kept_numbers : (ps : List Part) → Parts ps → Parts (kept_parts ps)
kept_numbers [] h = tt
kept_numbers (p ∷ ps) h = (record { ops = kept_lines p.ops (live_before_end p.end (live_before_parts ps)) h.0.ops; end = h.0.end }, kept_numbers ps h.1)

pub block_numbers : (is : List Placed) → AreFit is → Parts (block_parts is)
block_numbers [] h = one [] ends.BadCode tt tt
block_numbers (i ∷ is) h = kept_numbers (lifted_all (i ∷ is)) (all_numbers (i ∷ is) h)
