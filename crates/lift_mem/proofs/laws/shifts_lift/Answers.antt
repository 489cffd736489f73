use Rattle.x86_forms.specs.declared.instructions.Instr.TheVariants.{Shift}
use Rattle.lift_mem.proofs.Groups.{shift_lifts, some_of}
use Rattle.lift_mem.proofs.laws.shifts_lift.Goals as goal

pub returns : goal.returns
returns c = λ op w dst count next fit group. shift_lifts op w dst count next fit (some_of (Shift op w dst count) group)
