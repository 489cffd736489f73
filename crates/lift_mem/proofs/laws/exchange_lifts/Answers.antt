use Rattle.x86_forms.specs.declared.instructions.Instr.TheVariants.{Xchg}
use Rattle.lift_mem.proofs.Groups.{xchg_lifts, some_of}
use Rattle.lift_mem.proofs.laws.exchange_lifts.Goals as goal

pub returns : goal.returns
returns c = λ w a b next fit group. xchg_lifts w a b next fit (some_of (Xchg w a b) group)
