use Rattle.x86_forms.specs.declared.instructions.Instr.TheVariants.{Mov, Zx, Sx}
use Rattle.lift_table.proofs.LiftMoves.{mov_law, zx_law, sx_law}
use Rattle.lift_alu.proofs.Quiet.{quiet_of}
use Rattle.lift_alu.proofs.laws.moves_lift.Goals as goal

pub returns : goal.returns
returns c = record {
  mov = λ w dst src next fit group. mov_law w dst src next fit (quiet_of (Mov w dst src) group);
  zero_extended = λ from w dst src next fit group. zx_law from w dst src next fit.0 fit.1 fit.2 (quiet_of (Zx from w dst src) group);
  sign_extended = λ from w dst src next fit group. sx_law from w dst src next fit.0 fit.1 fit.2 (quiet_of (Sx from w dst src) group);
}
