use Rattle.machine_model.proofs.OwnKinds as kinds
use Rattle.machine_model.proofs.own_laws.events_leave.Goals as goal

pub returns-clause-load : goal.returns-clause-load
returns-clause-load c = kinds.load_own

pub returns-clause-store : goal.returns-clause-store
returns-clause-store c = kinds.store_own

pub returns-clause-fence : goal.returns-clause-fence
returns-clause-fence c = kinds.fence_own

pub returns-clause-locked : goal.returns-clause-locked
returns-clause-locked c = kinds.locked_own

pub returns-clause-call : goal.returns-clause-call
returns-clause-call c = kinds.call_own
