use Rattle.std.proofs.Common.{refl}
use Rattle.x86_flags.specs.Rotations.{rol_by, turned}
use Rattle.x86_flags.proofs.rotations.rol_by.Goals as goal

pub returns-clause-flags : goal.returns-clause-flags
unfolding rol_by turned
returns-clause-flags c = rw (c.is_negative.ensures, c.bit-carry.ensures, c.turned_left-value.ensures.value) refl
