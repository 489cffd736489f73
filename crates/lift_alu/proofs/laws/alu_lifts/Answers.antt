use Rattle.x86_forms.specs.declared.instructions.Instr.TheVariants.{Alu}
use Rattle.lift_table.proofs.LiftAlu.{alu_law}
use Rattle.lift_alu.proofs.Quiet.{quiet_of}
use Rattle.lift_alu.proofs.laws.alu_lifts.Goals as goal

pub returns : goal.returns
returns c = λ op w dst src next fit group. alu_law op w dst src next fit (quiet_of (Alu op w dst src) group)
