use Rattle.guest_parts.proofs.Turns.{call_acts, stay_acts, wait_acts}
use Rattle.guest_parts.proofs.laws.calls_in_turns.Goals as goal

pub returns-clause-call : goal.returns-clause-call
returns-clause-call e = call_acts

pub returns-clause-stay : goal.returns-clause-stay
returns-clause-stay e = stay_acts

pub returns-clause-wait : goal.returns-clause-wait
returns-clause-wait e = wait_acts
