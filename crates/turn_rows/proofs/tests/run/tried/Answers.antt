use Rattle.std.proofs.Common.{subst}
use Rattle.thread_step.specs.Guest.{IsLeft}
use Rattle.turn_rows.proofs.tests.run.tried.Goals as goal

pub returns-in-Ran : goal.returns-in-Ran
returns-in-Ran c = λ h g l on. subst (λ z. IsLeft z h g) c.in-Ran.is l

pub returns-in-Waiting : goal.returns-in-Waiting
returns-in-Waiting c = λ h g l on. subst (λ z. IsLeft z h g) c.in-Waiting.is l

pub returns-in-Ended : goal.returns-in-Ended
returns-in-Ended c = λ h g l on. subst (λ z. IsLeft z h g) c.in-Ended.is l

pub returns-in-Idle : goal.returns-in-Idle
returns-in-Idle c = λ h g l on. subst (λ z. IsLeft z h g) c.in-Idle.is l
