use Rattle.std.proofs.Common.{◌∙◌, refl}
use Rattle.x86_flags.specs.Outcome.{outcome}
use Rattle.x86_flags.specs.Shifts.{shl_by}
use Rattle.x86_flags.specs.Width.{bits}
use Rattle.x86_flags.proofs.ShiftLemmas.{shl_wide}
use Rattle.x86_flags.proofs.shifts.shl_by.Goals as goal

pub returns-clause-value : goal.returns-clause-value
unfolding shl_by outcome
returns-clause-value c = c.low-value.ensures ∙ shl_wide (bits c.args.w) c.args.a c.args.n c.ranges.a.fits c.requires.count

pub returns-clause-flags : goal.returns-clause-flags
unfolding shl_by outcome
returns-clause-flags c =
    let value = c.low-value.ensures ∙ shl_wide (bits c.args.w) c.args.a c.args.n c.ranges.a.fits c.requires.count in
    c.status.ensures ∙ rw (c.is_negative.ensures, c.out_left-carry.ensures, value) refl
