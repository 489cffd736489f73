use Rattle.x86_forms.specs.declared.instructions.Instr.TheVariants.{Mov, Zx, Sx}
use Rattle.lift_mem.proofs.Groups.{mov_lifts, zx_lifts, sx_lifts, some_of}
use Rattle.lift_mem.proofs.laws.moves_lift.Goals as goal

pub returns : goal.returns
returns c = record {
  mov = λ w dst src next fit group. mov_lifts w dst src next fit (some_of (Mov w dst src) group);
  zero_extended = λ from w dst src next fit group. zx_lifts from w dst src next fit (some_of (Zx from w dst src) group);
  sign_extended = λ from w dst src next fit group. sx_lifts from w dst src next fit (some_of (Sx from w dst src) group);
}
