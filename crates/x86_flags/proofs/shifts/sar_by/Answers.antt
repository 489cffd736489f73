use Rattle.std.proofs.Common.{◌∙◌, refl}
use Rattle.x86_flags.specs.Outcome.{outcome}
use Rattle.x86_flags.specs.Shifts.{sar_by}
use Rattle.x86_flags.proofs.shifts.sar_by.Goals as goal

pub returns-clause-value : goal.returns-clause-value
unfolding sar_by outcome
returns-clause-value c = c.divided-value.ensures.value

pub returns-clause-flags : goal.returns-clause-flags
unfolding sar_by outcome
returns-clause-flags c = c.status.ensures ∙ rw (c.divided-value.ensures.value, c.bit-carry.ensures, c.min.ensures, c.bits.ensures.value) refl
