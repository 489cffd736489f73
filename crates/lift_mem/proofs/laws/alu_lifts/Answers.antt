use Rattle.x86_forms.specs.declared.instructions.Instr.TheVariants.{Alu}
use Rattle.lift_mem.proofs.Groups.{alu_lifts, some_of}
use Rattle.lift_mem.proofs.laws.alu_lifts.Goals as goal

pub returns : goal.returns
returns c = λ op w dst src next fit group. alu_lifts op w dst src next fit (some_of (Alu op w dst src) group)
