use Rattle.x86_forms.specs.declared.instructions.Instr.TheVariants.{One}
use Rattle.lift_mem.proofs.Groups.{one_lifts, some_of}
use Rattle.lift_mem.proofs.laws.one_lifts.Goals as goal

pub returns : goal.returns
returns c = λ op w dst next fit group. one_lifts op w dst next fit (some_of (One op w dst) group)
