-- Where a refusal comes after a read, what was read before and what that read gave were taken.
use Rattle.mx_outside.proofs.ByteLemmas.{Consumes-append}
use Rattle.mx_outside.proofs.source.read_all.Goals as goal

pub returns-then-taken-max-clause-taken : goal.returns-then-taken-max-clause-taken
returns-then-taken-max-clause-taken g c = (_, Consumes-append _ _ _ _ _ c.loop-taken.invariant.taken c.in-Ok.ensures.bytes.0)

pub returns-then-is_err-clause-taken : goal.returns-then-is_err-clause-taken
returns-then-is_err-clause-taken g c = (_, Consumes-append _ _ _ _ _ c.loop-taken.invariant.taken c.in-Ok.ensures.bytes.0)
