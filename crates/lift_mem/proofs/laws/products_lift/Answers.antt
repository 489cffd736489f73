use Rattle.x86_forms.specs.declared.instructions.Instr.TheVariants.{Mul, Imul}
use Rattle.lift_mem.proofs.Groups.{mul_lifts, imul_lifts, some_of}
use Rattle.lift_mem.proofs.laws.products_lift.Goals as goal

pub returns : goal.returns
returns c = record {
  wide = λ signed w src next fit group. mul_lifts signed w src next fit (some_of (Mul signed w src) group);
  low = λ w dst a b next fit group. imul_lifts w dst a b next fit (some_of (Imul w dst a b) group);
}
