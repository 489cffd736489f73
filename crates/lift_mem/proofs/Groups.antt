-- Every instruction of the two groups follows the thread.
use Rattle.std.proofs.Common.{◌≡◌, ◌≢◌, ℕ, refl, Bool, true, false}
use Rattle.std.specs.Prelude.{if◌then◌else◌}
use Rattle.x86_forms.specs.declared.operands.Operand.TheVariants as operand
use Rattle.x86_forms.specs.declared.instructions.Group.{Group}
use Rattle.x86_forms.specs.declared.instructions.Group.TheVariants.{Memory, Private, Transfer}
use Rattle.x86_forms.specs.declared.instructions.Instr.{Instr}
use Rattle.x86_forms.specs.declared.instructions.Instr.TheVariants.{Alu, Mov, Zx, Sx, Push, Pop, One, Mul, Imul, Div, Shift, Xchg, Set, Cmov, Jcc, Jmp, JmpTo, Call, CallTo, Ret, Leave, Mfence, LockAlu, LockOne, Xadd, Cmpxchg}
use Rattle.x86_forms.specs.Groups.{is_transfer, touches_memory, group_of}
use Rattle.lift_mem.proofs.Statements.{AluLifts, OneLifts, ShiftLifts, MulLifts, ImulLifts, DivLifts, MovLifts, ZxLifts, SxLifts, SetLifts, CmovLifts, PushLifts, PopLifts, LeaveLifts, XchgLifts, LockAluLifts, LockOneLifts, XaddLifts, CmpxchgLifts, MfenceLifts, JccLifts, JmpLifts, JmpToLifts, CallLifts, CallToLifts, RetLifts, MemoryLifts, FlowLifts}
use Rattle.lift_mem.proofs.Computing.{alu_law, one_in_memory, shift_in_memory, mul_from_memory, imul_law, div_by_memory}
use Rattle.lift_mem.proofs.Moves.{mov_to_memory, mov_from_memory, zx_law, sx_law, set_law, cmov_law}
use Rattle.lift_mem.proofs.Ordered.{lock_alu_law, lock_one_law, xadd_law, exchange_law}
use Rattle.lift_mem.proofs.Compared.{cmpxchg_law}
use Rattle.lift_mem.proofs.Pushed.{push_law, pop_law, leave_law}
use Rattle.lift_mem.proofs.Transfers.{mfence_law, jcc_law, jmp_law, jmp_to_law, call_law, call_to_law, ret_law}

-- ---- operands in memory

pub alu_lifts : AluLifts
alu_lifts op w dst src next fit some = alu_law op w dst src next fit some

pub one_lifts : OneLifts
one_lifts op w (operand.Mem m) next fit some = one_in_memory op w m next fit
one_lifts op w dst next fit some = let no : ⊥ = cc in absurd no

pub shift_lifts : ShiftLifts
shift_lifts op w (operand.Mem m) count next fit some = shift_in_memory op w m count next fit.0 fit.1
shift_lifts op w dst count next fit some = let no : ⊥ = cc in absurd no

pub mul_lifts : MulLifts
mul_lifts signed w (operand.Mem m) next fit some = mul_from_memory signed w m next fit.0 fit.1
mul_lifts signed w src next fit some = let no : ⊥ = cc in absurd no

pub imul_lifts : ImulLifts
imul_lifts w dst a b next fit some = imul_law w dst a b next fit.0 fit.1 fit.2 some

pub div_lifts : DivLifts
div_lifts signed w (operand.Mem m) next fit some = div_by_memory signed w m next fit.0 fit.1
div_lifts signed w src next fit some = let no : ⊥ = cc in absurd no

pub mov_lifts : MovLifts
mov_lifts w (operand.Mem m) src next fit some = mov_to_memory w m src next fit fit.one_memory
mov_lifts w dst (operand.Mem m) next fit some = mov_from_memory w dst m next fit
mov_lifts w dst src next fit some = let no : ⊥ = cc in absurd no

pub zx_lifts : ZxLifts
zx_lifts from w dst (operand.Mem m) next fit some = zx_law from w dst m next fit.0 fit.1 fit.2
zx_lifts from w dst src next fit some = let no : ⊥ = cc in absurd no

pub sx_lifts : SxLifts
sx_lifts from w dst (operand.Mem m) next fit some = sx_law from w dst m next fit.0 fit.1 fit.2
sx_lifts from w dst src next fit some = let no : ⊥ = cc in absurd no

pub set_lifts : SetLifts
set_lifts kind (operand.Mem m) next fit some = set_law kind m next fit
set_lifts kind dst next fit some = let no : ⊥ = cc in absurd no

pub cmov_lifts : CmovLifts
cmov_lifts kind w dst (operand.Mem m) next fit some = cmov_law kind w dst m next fit.1 fit.2
cmov_lifts kind w dst src next fit some = let no : ⊥ = cc in absurd no

-- ---- the stack

pub push_lifts : PushLifts
push_lifts src next fit = push_law src next fit

pub pop_lifts : PopLifts
pop_lifts dst next fit = pop_law dst next fit

pub leave_lifts : LeaveLifts
leave_lifts next fit = leave_law next

-- ---- locked steps, and MFENCE

pub xchg_lifts : XchgLifts
xchg_lifts w (operand.Mem m) b next fit some = exchange_law w m b next fit.1
xchg_lifts w (operand.Reg r) b next fit some = let no : ⊥ = cc fit.1.no_memory in absurd no
xchg_lifts w (operand.High r) b next fit some = let no : ⊥ = cc fit.1.no_memory in absurd no
xchg_lifts w (operand.Imm n) b next fit some = let no : ⊥ = cc fit.1.no_memory in absurd no

pub lock_alu_lifts : LockAluLifts
lock_alu_lifts op w mem src next fit = lock_alu_law op w mem src next fit.0 fit.2 fit.3

pub lock_one_lifts : LockOneLifts
lock_one_lifts op w mem next fit = lock_one_law op w mem next fit.0

pub xadd_lifts : XaddLifts
xadd_lifts w mem r next fit = xadd_law w mem r next fit.1

pub cmpxchg_lifts : CmpxchgLifts
cmpxchg_lifts w mem r next fit = cmpxchg_law w mem r next fit.0 fit.1

pub mfence_lifts : MfenceLifts
mfence_lifts next fit = mfence_law next

-- ---- transfers

pub jcc_lifts : JccLifts
jcc_lifts kind rel next fit = jcc_law kind rel next

pub jmp_lifts : JmpLifts
jmp_lifts rel next fit = jmp_law rel next

pub jmp_to_lifts : JmpToLifts
jmp_to_lifts src next fit = jmp_to_law src next fit

pub call_lifts : CallLifts
call_lifts rel next fit = call_law rel next

pub call_to_lifts : CallToLifts
call_to_lifts src next fit = call_to_law src next fit

pub ret_lifts : RetLifts
ret_lifts extra next fit = ret_law extra next

-- ---- all of them

some_memory_of : (t u : Bool) → (if t then Transfer else if u then Memory else Private) ≡ Memory → u ≡ true
some_memory_of true u e = let no : ⊥ = cc in absurd no
some_memory_of false true e = refl
some_memory_of false false e = let no : ⊥ = cc in absurd no

-- an instruction of the group that is neither locked nor on the stack has an operand in memory
pub some_of : (i : Instr) → group_of i ≡ Memory → touches_memory i ≡ true
some_of i e = some_memory_of (is_transfer i) (touches_memory i) e

pub memory_lifts : MemoryLifts
memory_lifts (Alu op w dst src) next fit is = alu_lifts op w dst src next fit (some_of (Alu op w dst src) is)
memory_lifts (One op w dst) next fit is = one_lifts op w dst next fit (some_of (One op w dst) is)
memory_lifts (Shift op w dst count) next fit is = shift_lifts op w dst count next fit (some_of (Shift op w dst count) is)
memory_lifts (Mul signed w src) next fit is = mul_lifts signed w src next fit (some_of (Mul signed w src) is)
memory_lifts (Imul w dst a b) next fit is = imul_lifts w dst a b next fit (some_of (Imul w dst a b) is)
memory_lifts (Div signed w src) next fit is = div_lifts signed w src next fit (some_of (Div signed w src) is)
memory_lifts (Mov w dst src) next fit is = mov_lifts w dst src next fit (some_of (Mov w dst src) is)
memory_lifts (Zx from w dst src) next fit is = zx_lifts from w dst src next fit (some_of (Zx from w dst src) is)
memory_lifts (Sx from w dst src) next fit is = sx_lifts from w dst src next fit (some_of (Sx from w dst src) is)
memory_lifts (Set kind dst) next fit is = set_lifts kind dst next fit (some_of (Set kind dst) is)
memory_lifts (Cmov kind w dst src) next fit is = cmov_lifts kind w dst src next fit (some_of (Cmov kind w dst src) is)
memory_lifts (Xchg w a b) next fit is = xchg_lifts w a b next fit (some_of (Xchg w a b) is)
memory_lifts (Push src) next fit is = push_lifts src next fit
memory_lifts (Pop dst) next fit is = pop_lifts dst next fit
memory_lifts Leave next fit is = leave_lifts next fit
memory_lifts (LockAlu op w mem src) next fit is = lock_alu_lifts op w mem src next fit
memory_lifts (LockOne op w mem) next fit is = lock_one_lifts op w mem next fit
memory_lifts (Xadd w mem r) next fit is = xadd_lifts w mem r next fit
memory_lifts (Cmpxchg w mem r) next fit is = cmpxchg_lifts w mem r next fit
memory_lifts Mfence next fit is = mfence_lifts next fit
memory_lifts i next fit is = let no : ⊥ = cc in absurd no

some_transfer : (t : Bool) → (if t then Memory else Private) ≢ Transfer
some_transfer true e = cc
some_transfer false e = cc

pub flow_lifts : FlowLifts
flow_lifts (Jcc kind rel) next fit is = jcc_lifts kind rel next fit
flow_lifts (Jmp rel) next fit is = jmp_lifts rel next fit
flow_lifts (JmpTo src) next fit is = jmp_to_lifts src next fit
flow_lifts (Call rel) next fit is = call_lifts rel next fit
flow_lifts (CallTo src) next fit is = call_to_lifts src next fit
flow_lifts (Ret extra) next fit is = ret_lifts extra next fit
flow_lifts i next fit is = absurd (some_transfer (touches_memory i) is)
