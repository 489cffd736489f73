use Rattle.std.proofs.Common.{refl}
use Rattle.x86_flags.specs.Rotations.{ror_by, turned}
use Rattle.x86_flags.proofs.rotations.ror_by.Goals as goal

pub returns-clause-flags : goal.returns-clause-flags
unfolding ror_by turned
returns-clause-flags c = rw (c.is_negative-carry.ensures, c.bit.ensures, c.turned_right-value.ensures.value, c.bits.ensures.value) refl
