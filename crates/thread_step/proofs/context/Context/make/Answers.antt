use Rattle.std.proofs.Common.{refl}
use Rattle.thread_step.proofs.context.Context.make.Goals as goal

pub returns-clause-context : goal.returns-clause-context
returns-clause-context c = λ h saw ready. record { pass = c.args.pass; there = refl; holds = record { lock = refl; number = c.requires.number; saw = saw; ready = ready } }
