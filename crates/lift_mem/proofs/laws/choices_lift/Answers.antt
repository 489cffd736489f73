use Rattle.x86_forms.specs.declared.instructions.Instr.TheVariants.{Set, Cmov}
use Rattle.lift_mem.proofs.Groups.{set_lifts, cmov_lifts, some_of}
use Rattle.lift_mem.proofs.laws.choices_lift.Goals as goal

pub returns : goal.returns
returns c = record {
  set = λ kind dst next fit group. set_lifts kind dst next fit (some_of (Set kind dst) group);
  cmov = λ kind w dst src next fit group. cmov_lifts kind w dst src next fit (some_of (Cmov kind w dst src) group);
}
