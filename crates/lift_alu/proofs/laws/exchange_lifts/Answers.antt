use Rattle.x86_forms.specs.declared.instructions.Instr.TheVariants.{Xchg}
use Rattle.lift_table.proofs.LiftMoves.{xchg_law}
use Rattle.lift_alu.proofs.Quiet.{quiet_of}
use Rattle.lift_alu.proofs.laws.exchange_lifts.Goals as goal

pub returns : goal.returns
returns c = λ w a b next fit group. xchg_law w a b next fit.0 fit.1 (quiet_of (Xchg w a b) group)
