use Rattle.x86_forms.specs.declared.instructions.Instr.TheVariants.{Set, Cmov}
use Rattle.lift_table.proofs.LiftMoves.{set_law, cmov_law}
use Rattle.lift_alu.proofs.Quiet.{quiet_of}
use Rattle.lift_alu.proofs.laws.choices_lift.Goals as goal

pub returns : goal.returns
returns c = record {
  set = λ d dst next fit group. set_law d dst next fit (quiet_of (Set d dst) group);
  cmov = λ d w dst src next fit group. cmov_law d w dst src next fit.1 fit.2 (quiet_of (Cmov d w dst src) group);
}
