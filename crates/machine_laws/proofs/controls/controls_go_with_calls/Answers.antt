use Rattle.machine_laws.proofs.Onces as onces
use Rattle.machine_laws.proofs.controls.controls_go_with_calls.Goals as goal

pub returns-clause-calls : goal.returns-clause-calls
returns-clause-calls c = onces.calls_from

pub returns-clause-entry : goal.returns-clause-entry
returns-clause-entry c = onces.entry_law

pub returns-clause-done : goal.returns-clause-done
returns-clause-done c = onces.done_law
