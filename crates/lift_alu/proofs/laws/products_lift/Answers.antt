use Rattle.x86_forms.specs.declared.instructions.Instr.TheVariants.{Mul, Imul}
use Rattle.lift_table.proofs.LiftArith.{mul_law, imul_law}
use Rattle.lift_alu.proofs.Quiet.{quiet_of}
use Rattle.lift_alu.proofs.laws.products_lift.Goals as goal

pub returns : goal.returns
returns c = record {
  wide = λ signed w src next fit group. mul_law signed w src next fit.0 fit.1 (quiet_of (Mul signed w src) group);
  low = λ w dst a b next fit group. imul_law w dst a b next fit.0 fit.1 fit.2 (quiet_of (Imul w dst a b) group);
}
