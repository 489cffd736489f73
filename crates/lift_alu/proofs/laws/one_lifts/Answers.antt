use Rattle.x86_forms.specs.declared.instructions.Instr.TheVariants.{One}
use Rattle.lift_table.proofs.LiftAlu.{one_law}
use Rattle.lift_alu.proofs.Quiet.{quiet_of}
use Rattle.lift_alu.proofs.laws.one_lifts.Goals as goal

pub returns : goal.returns
returns c = λ op w dst next fit group. one_law op w dst next fit (quiet_of (One op w dst) group)
