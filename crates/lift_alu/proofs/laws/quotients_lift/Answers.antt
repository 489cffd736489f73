use Rattle.x86_forms.specs.declared.instructions.Instr.TheVariants.{Div}
use Rattle.lift_table.proofs.LiftArith.{div_law}
use Rattle.lift_alu.proofs.Quiet.{quiet_of}
use Rattle.lift_alu.proofs.laws.quotients_lift.Goals as goal

pub returns : goal.returns
returns c = λ signed w src next fit group. div_law signed w src next fit.0 fit.1 (quiet_of (Div signed w src) group)
