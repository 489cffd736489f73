use Rattle.std.proofs.Common.{◌∙◌, refl}
use Rattle.x86_flags.specs.Outcome.{outcome}
use Rattle.x86_flags.specs.Shifts.{shr_by}
use Rattle.x86_flags.proofs.shifts.shr_by.Goals as goal

pub returns-clause-value : goal.returns-clause-value
unfolding shr_by outcome
returns-clause-value c = refl

pub returns-clause-flags : goal.returns-clause-flags
unfolding shr_by outcome
returns-clause-flags c = c.status.ensures ∙ rw (c.out_right-carry.ensures, c.is_negative.ensures) refl
