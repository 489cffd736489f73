-- The lifting table: the parts of each instruction, where `next` is the address of the next one. An instruction with
-- an operand in memory loads it in a part of its own first. Then other operands are read, and results and flags follow.
use Rattle.std.specs.Prelude.{ℕ, ◌+◌, ◌-◌, ◌^◌, ◌==◌, Bool, true, if◌then◌else◌, List, [], ◌∷◌, ◌++◌, Option, Some, None}
use Rattle.ir_syntax.specs.declared.block.Part.{Part}
use Rattle.ir_syntax.specs.declared.cond.Cond.TheVariants.{E}
use Rattle.ir_syntax.specs.declared.line.Family.TheVariants as family
use Rattle.ir_syntax.specs.declared.line.LockOp.{LockOp}
use Rattle.ir_syntax.specs.declared.line.LockOp.TheVariants as lock
use Rattle.ir_syntax.specs.declared.line.Op.{Op}
use Rattle.ir_syntax.specs.declared.line.Op.TheVariants.{Get, Put, Const, Ea, Calc, Cond, Pick, Zext, Sext, Cut}
use Rattle.ir_syntax.specs.declared.line.PartEnd.TheVariants as ends
use Rattle.ir_syntax.specs.declared.line.Target.{Target}
use Rattle.ir_syntax.specs.declared.line.Target.TheVariants.{Place, Temp}
use Rattle.ir_syntax.specs.declared.width.Width.TheVariants as ir
use Rattle.x86_flags.specs.Shifts.{count_of}
use Rattle.x86_forms.specs.declared.conditions.Cond.{Cond as Condition}
use Rattle.x86_forms.specs.declared.operands.Width.{Width}
use Rattle.x86_forms.specs.declared.operands.Width.TheVariants.{W8, W16, W32, W64}
use Rattle.x86_forms.specs.declared.operands.Mem.{Mem}
use Rattle.x86_forms.specs.declared.operands.Operand.{Operand}
use Rattle.x86_forms.specs.declared.operands.Operand.TheVariants as operand
use Rattle.x86_forms.specs.declared.instructions.AluOp.{AluOp}
use Rattle.x86_forms.specs.declared.instructions.OneOp.{OneOp}
use Rattle.x86_forms.specs.declared.instructions.ShiftOp.{ShiftOp}
use Rattle.x86_forms.specs.declared.instructions.Instr.{Instr}
use Rattle.x86_forms.specs.declared.instructions.Instr.TheVariants.{Alu, Mov, Zx, Sx, Lea, Push, Pop, One, Mul, Imul, Div, Shift, Widen, Spread, Xchg, Set, Cmov, Jcc, Jmp, JmpTo, Call, CallTo, Ret, Leave, Nop, Pause, Endbr, Mfence, LockAlu, LockOne, Xadd, Cmpxchg}
use Rattle.x86_forms.specs.Limits.{is_immediate}
use Rattle.x86_forms.specs.Widths.{bits_in}
use Rattle.x86_model.specs.Operands.{target}
use Rattle.x86_model.specs.Registers.{half}
use Rattle.x86_model.specs.Results.{keeps_result}
use Rattle.lift_table.specs.LiftLines.{ir_width, ir_cond, address_line, addressed, reads, loads, puts, part, alone, given_at, flag_lines, zero_lines, all_five, all_but_carry, overflow_and_carry, cleared, alu_family, one_family, one_flags, shift_family, shift_flags, high_family, product_family, lock_op, lock_one_op}

-- ---- arithmetic

-- t1 and t2 are the operands, and t3 the result
abbrev pub both_read : Width → Operand → Operand → List Op
both_read w dst src = reads w dst 1 ++ reads w src 2

abbrev pub alu_lines : AluOp → Width → List Op
alu_lines op w = flag_lines all_five (alu_family op) w 1 (Some 2)

-- CMP and TEST put flags alone
abbrev pub alu_parts : AluOp → Width → Operand → Operand → List Part
alu_parts op w dst src =
    if keeps_result op
    then given_at (both_read w dst src ++ (Calc (alu_family op) (ir_width w) 3 1 (Some 2) ∷ alu_lines op w)) w dst 3
    else alone (both_read w dst src ++ alu_lines op w) ends.Tick

abbrev pub one_parts : OneOp → Width → Operand → List Part
one_parts op w dst =
    given_at (reads w dst 1 ++ (Calc (one_family op) (ir_width w) 3 1 None ∷ flag_lines (one_flags op) (one_family op) w 1 None)) w dst 3

-- the number in the instruction, or cl, as a count of 8 bits
abbrev pub count_line : Option ℕ → Op
count_line None = Get ir.W8 2 1
count_line (Some n) = Const ir.W8 2 n

-- a number whose used part is 0 puts no flags
abbrev pub counted_lines : ShiftOp → Width → Option ℕ → List Op
counted_lines op w None = flag_lines (shift_flags op) (shift_family op) w 1 (Some 2)
counted_lines op w (Some n) =
    if count_of (bits_in w) n == 0 then [] else flag_lines (shift_flags op) (shift_family op) w 1 (Some 2)

abbrev pub shift_parts : ShiftOp → Width → Operand → Option ℕ → List Part
shift_parts op w dst count =
    given_at (reads w dst 1 ++ (count_line count ∷ Calc (shift_family op) (ir_width w) 3 1 (Some 2) ∷ counted_lines op w count)) w dst 3

abbrev pub product_lines : Bool → Width → List Op
product_lines signed w = zero_lines cleared ++ flag_lines overflow_and_carry (product_family signed) w 2 (Some 1)

-- rax is multiplied; the low half goes to rax, the high half to rdx
abbrev pub mul_ops : Bool → Width → List Op
mul_ops signed w =
    Get (ir_width w) 2 0 ∷ Calc family.Mul (ir_width w) 3 2 (Some 1) ∷ Calc (high_family signed) (ir_width w) 4 2 (Some 1) ∷ (product_lines signed w ++ (Put (ir_width w) 0 3 ∷ Put (ir_width w) 2 4 ∷ []))

-- the operand that is no number comes first: with two operands it is the second one, as the first is the destination
abbrev pub imul_parts : ℕ → Width → ℕ → Operand → Operand → List Part
imul_parts next w dst a b =
    loads next w a 1 ++ (loads next w b 2 ++ given_at (both_read w a b ++ (Calc family.Mul (ir_width w) 3 2 (Some 1) ∷ product_lines true w)) w (operand.Reg dst) 3)

-- ---- moves

-- the low bits of an address
abbrev pub lea_parts : ℕ → Width → ℕ → Mem → List Part
lea_parts next W64 dst mem = given_at (address_line next mem ∷ []) W64 (operand.Reg dst) 0
lea_parts next W32 dst mem = given_at (address_line next mem ∷ Cut 64 ir.W32 1 0 ∷ []) W32 (operand.Reg dst) 1
lea_parts next W16 dst mem = given_at (address_line next mem ∷ Cut 64 ir.W16 1 0 ∷ []) W16 (operand.Reg dst) 1
lea_parts next W8 dst mem = given_at (address_line next mem ∷ Cut 64 ir.W8 1 0 ∷ []) W8 (operand.Reg dst) 1

-- an operand of fewer bits goes to a register with zeros, or with copies of its top bit, above it
abbrev pub zero_extended_to : Width → Width → Operand → ℕ → List Part
zero_extended_to from w src dst = given_at (reads from src 1 ++ (Zext (bits_in from) (ir_width w) 2 1 ∷ [])) w (operand.Reg dst) 2

abbrev pub sign_extended_to : Width → Width → Operand → ℕ → List Part
sign_extended_to from w src dst = given_at (reads from src 1 ++ (Sext (bits_in from) (ir_width w) 2 1 ∷ [])) w (operand.Reg dst) 2

-- rdx gets copies of the top bit of rax
abbrev pub spread_parts : Width → List Part
spread_parts w = given_at (Get (ir_width w) 1 0 ∷ Const ir.W8 2 (bits_in w - 1) ∷ Calc family.Sar (ir_width w) 3 1 (Some 2) ∷ []) w (operand.Reg 2) 3

-- with memory the exchange is one locked step; two registers get what the other had
abbrev pub xchg_parts : ℕ → Width → Operand → Operand → List Part
xchg_parts next w (operand.Mem m) b = part (address_line next m ∷ reads w b 1) (ends.Locked lock.Xchg (ir_width w) 2 0 1) ∷ given_at [] w b 2
xchg_parts next w (operand.Reg r) b = alone (both_read w (operand.Reg r) b ++ (puts w (operand.Reg r) 2 ++ puts w b 1)) ends.Tick
xchg_parts next w (operand.High r) b = alone (both_read w (operand.High r) b ++ (puts w (operand.High r) 2 ++ puts w b 1)) ends.Tick
xchg_parts next w (operand.Imm n) b = alone (both_read w (operand.Imm n) b ++ (puts w (operand.Imm n) 2 ++ puts w b 1)) ends.Tick

-- a register gets the operand where the condition holds, and else what it had: at 32 bits its upper half is cleared either way
abbrev pub cmov_parts : Condition → Width → ℕ → Operand → List Part
cmov_parts cc w dst src = given_at (reads w src 1 ++ (Get (ir_width w) 2 dst ∷ Cond 3 (ir_cond cc) ∷ Pick (ir_width w) 4 3 1 2 ∷ [])) w (operand.Reg dst) 4

-- ---- the stack

-- t2 is so many bytes above a register, and rsp becomes it
abbrev pub stack_at : ℕ → ℕ → List Op
stack_at r n = Ea 2 (Some r) None 1 n ∷ Put ir.W64 4 2 ∷ []

-- eight bytes less
abbrev pub pushed : List Op
pushed = stack_at 4 (2 ^ 64 - 8)

-- t1 is loaded from where a register points
abbrev pub popped : ℕ → Part
popped r = part (Get ir.W64 0 r ∷ []) (ends.Load ir.W64 1 0)

-- the address of the next instruction is pushed
abbrev pub called : List Op → ℕ → Target → List Part
called ops next to = alone (ops ++ (pushed ++ (Const ir.W64 1 next ∷ []))) (ends.StoreGo 2 1 to)

-- ---- locked instructions: t1 gets the old value

abbrev pub locked_parts : List Op → Option LockOp → Width → List Op → List Part
locked_parts before None w after = alone [] ends.BadCode
locked_parts before (Some kind) w after = part before (ends.Locked kind (ir_width w) 1 0 2) ∷ alone after ends.Tick

-- rax gets the old value where it isn't equal to it; at 32 bits it stays whole where it is
abbrev pub accumulator_ops : Width → List Op
accumulator_ops W32 = Get ir.W64 5 0 ∷ Zext 32 ir.W64 6 1 ∷ Pick ir.W64 7 4 5 6 ∷ Put ir.W64 0 7 ∷ []
accumulator_ops W64 = Pick ir.W64 7 4 3 1 ∷ Put ir.W64 0 7 ∷ []
accumulator_ops W16 = Pick ir.W16 7 4 3 1 ∷ Put ir.W16 0 7 ∷ []
accumulator_ops W8 = Pick ir.W8 7 4 3 1 ∷ Put ir.W8 0 7 ∷ []

-- ---- every instruction

abbrev pub lifted : Instr → ℕ → List Part
lifted (Alu op w dst src) next = loads next w dst 1 ++ (loads next w src 2 ++ alu_parts op w dst src)
lifted (Mov w dst src) next = loads next w src 1 ++ given_at (addressed next dst ++ reads w src 1) w dst 1
lifted (Zx from w dst src) next = loads next from src 1 ++ zero_extended_to from w src dst
lifted (Sx from w dst src) next = loads next from src 1 ++ sign_extended_to from w src dst
lifted (Lea w dst mem) next = lea_parts next w dst mem
lifted (Push src) next = loads next W64 src 1 ++ alone (reads W64 src 1 ++ pushed) (ends.Store ir.W64 2 1)
lifted (Pop dst) next = popped 4 ∷ alone (stack_at 4 8 ++ (Put ir.W64 dst 1 ∷ [])) ends.Tick
lifted (One op w dst) next = loads next w dst 1 ++ one_parts op w dst
lifted (Mul signed w src) next = loads next w src 1 ++ alone (reads w src 1 ++ mul_ops signed w) ends.Tick
lifted (Imul w dst a b) next = if is_immediate b then imul_parts next w dst a b else imul_parts next w dst b a
lifted (Div signed w src) next = loads next w src 1 ++ alone (reads w src 1 ++ zero_lines all_five) (ends.Divide signed (ir_width w) 1)
lifted (Shift op w dst count) next = loads next w dst 1 ++ shift_parts op w dst count
lifted (Widen w) next = sign_extended_to (half w) w (operand.Reg 0) 0
lifted (Spread w) next = spread_parts w
lifted (Xchg w a b) next = xchg_parts next w a b
lifted (Set cc dst) next = given_at (addressed next dst ++ (Cond 1 (ir_cond cc) ∷ Zext 1 ir.W8 2 1 ∷ [])) W8 dst 2
lifted (Cmov cc w dst src) next = loads next w src 1 ++ cmov_parts cc w dst src
lifted (Jcc cc rel) next = alone [] (ends.Branch (ir_cond cc) (target next rel) next)
lifted (Jmp rel) next = alone [] (ends.Go (Place (target next rel)))
lifted (JmpTo src) next = loads next W64 src 1 ++ alone (reads W64 src 1) (ends.Go (Temp 1))
lifted (Call rel) next = called [] next (Place (target next rel))
lifted (CallTo src) next = loads next W64 src 3 ++ called (reads W64 src 3) next (Temp 3)
lifted (Ret extra) next = popped 4 ∷ alone (stack_at 4 (8 + extra)) (ends.Go (Temp 1))
lifted Leave next = popped 5 ∷ alone (stack_at 5 8 ++ (Put ir.W64 5 1 ∷ [])) ends.Tick
lifted Nop next = alone [] ends.Tick
lifted Pause next = alone [] ends.Tick
lifted Endbr next = alone [] ends.Tick
lifted Mfence next = alone [] ends.Fence
lifted (LockAlu op w mem src) next = locked_parts (address_line next mem ∷ reads w src 2) (lock_op op) w (flag_lines all_five (alu_family op) w 1 (Some 2))
lifted (LockOne op w mem) next = locked_parts (address_line next mem ∷ Const (ir_width w) 2 1 ∷ []) (lock_one_op op) w (flag_lines all_but_carry (one_family op) w 1 None)
lifted (Xadd w mem reg) next = locked_parts (address_line next mem ∷ reads w reg 2) (Some lock.Add) w (flag_lines all_five family.Add w 1 (Some 2) ++ puts w reg 1)
lifted (Cmpxchg w mem reg) next =
    part (address_line next mem ∷ (reads w reg 2 ++ (Get (ir_width w) 3 0 ∷ []))) (ends.LockedCmpxchg (ir_width w) 1 0 3 2) ∷ alone (flag_lines all_five family.Sub w 3 (Some 1) ++ (Cond 4 E ∷ accumulator_ops w)) ends.Tick
