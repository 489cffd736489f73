use Rattle.x86_forms.specs.declared.instructions.Instr.TheVariants.{Div}
use Rattle.lift_mem.proofs.Groups.{div_lifts, some_of}
use Rattle.lift_mem.proofs.laws.quotients_lift.Goals as goal

pub returns : goal.returns
returns c = λ signed w src next fit group. div_lifts signed w src next fit (some_of (Div signed w src) group)
