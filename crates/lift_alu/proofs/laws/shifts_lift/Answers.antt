use Rattle.x86_forms.specs.declared.instructions.Instr.TheVariants.{Shift}
use Rattle.lift_table.proofs.LiftArith.{shift_law}
use Rattle.lift_alu.proofs.Quiet.{quiet_of}
use Rattle.lift_alu.proofs.laws.shifts_lift.Goals as goal

pub returns : goal.returns
returns c = λ op w dst count next fit group. shift_law op w dst count next fit.0 fit.1 (quiet_of (Shift op w dst count) group)
