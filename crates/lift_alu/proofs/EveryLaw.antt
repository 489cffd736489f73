-- Every private instruction.
use Rattle.std.proofs.Common.{◌≡◌, ℕ}
use Rattle.x86_forms.specs.declared.instructions.Group.TheVariants as group
use Rattle.x86_forms.specs.declared.instructions.Instr.{Instr}
use Rattle.x86_forms.specs.declared.instructions.Instr.TheVariants.{Alu, Mov, Zx, Sx, Lea, One, Mul, Imul, Div, Shift, Widen, Spread, Xchg, Set, Cmov, Nop, Pause, Endbr}
use Rattle.x86_forms.specs.Groups.{group_of}
use Rattle.x86_forms.specs.Limits.{InstrFits}
use Rattle.lift_table.specs.Follow.{Lifts}
use Rattle.lift_table.proofs.LiftAlu.{alu_law, one_law}
use Rattle.lift_table.proofs.LiftMoves.{mov_law, zx_law, sx_law, lea_law, widen_law, xchg_law, set_law, cmov_law, nop_law, pause_law, endbr_law}
use Rattle.lift_table.proofs.LiftArith.{shift_law, mul_law, imul_law, div_law, spread_law}
use Rattle.lift_alu.proofs.Quiet.{quiet_of}

pub every_law : (i : Instr) (next : ℕ) → InstrFits i → group_of i ≡ group.Private → Lifts i next
every_law (Alu op w dst src) next fit e = alu_law op w dst src next fit (quiet_of (Alu op w dst src) e)
every_law (Mov w dst src) next fit e = mov_law w dst src next fit (quiet_of (Mov w dst src) e)
every_law (Zx from w dst src) next fit e = zx_law from w dst src next fit.0 fit.1 fit.2 (quiet_of (Zx from w dst src) e)
every_law (Sx from w dst src) next fit e = sx_law from w dst src next fit.0 fit.1 fit.2 (quiet_of (Sx from w dst src) e)
every_law (Lea w dst mem) next fit e = lea_law w dst mem next fit.1
every_law (One op w dst) next fit e = one_law op w dst next fit (quiet_of (One op w dst) e)
every_law (Mul signed w src) next fit e = mul_law signed w src next fit.0 fit.1 (quiet_of (Mul signed w src) e)
every_law (Imul w dst a b) next fit e = imul_law w dst a b next fit.0 fit.1 fit.2 (quiet_of (Imul w dst a b) e)
every_law (Div signed w src) next fit e = div_law signed w src next fit.0 fit.1 (quiet_of (Div signed w src) e)
every_law (Shift op w dst count) next fit e = shift_law op w dst count next fit.0 fit.1 (quiet_of (Shift op w dst count) e)
every_law (Widen w) next fit e = widen_law w next fit
every_law (Spread w) next fit e = spread_law w next fit
every_law (Xchg w a b) next fit e = xchg_law w a b next fit.0 fit.1 (quiet_of (Xchg w a b) e)
every_law (Set c dst) next fit e = set_law c dst next fit (quiet_of (Set c dst) e)
every_law (Cmov c w dst src) next fit e = cmov_law c w dst src next fit.1 fit.2 (quiet_of (Cmov c w dst src) e)
every_law Nop next fit e = nop_law next
every_law Pause next fit e = pause_law next
every_law Endbr next fit e = endbr_law next
every_law _ next fit e = let no : ⊥ = cc in absurd no
