use Rattle.machine_model.proofs.OwnKinds as kinds
use Rattle.machine_model.proofs.own_laws.faults_end.Goals as goal

pub returns-clause-bad : goal.returns-clause-bad
returns-clause-bad c = kinds.bad_own

pub returns-clause-load : goal.returns-clause-load
returns-clause-load c = kinds.load_refused

pub returns-clause-store : goal.returns-clause-store
returns-clause-store c = kinds.store_refused

pub returns-clause-locked : goal.returns-clause-locked
returns-clause-locked c = kinds.locked_refused

pub returns-clause-call : goal.returns-clause-call
returns-clause-call c = kinds.call_bad
