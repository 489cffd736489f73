use Rattle.machine_model.proofs.OwnKinds as kinds
use Rattle.machine_model.proofs.own_laws.entries_leave.Goals as goal

pub returns-clause-tick : goal.returns-clause-tick
returns-clause-tick c = kinds.tick_own

pub returns-clause-wait : goal.returns-clause-wait
returns-clause-wait c = kinds.wait_own

pub returns-clause-over : goal.returns-clause-over
returns-clause-over c = kinds.over_own

pub returns-clause-miss : goal.returns-clause-miss
returns-clause-miss c = kinds.miss_own

pub returns-clause-grow : goal.returns-clause-grow
returns-clause-grow c = kinds.grow_own

pub returns-clause-full : goal.returns-clause-full
returns-clause-full c = kinds.full_own

pub returns-clause-flush : goal.returns-clause-flush
returns-clause-flush c = kinds.flush_own

pub returns-clause-waits : goal.returns-clause-waits
returns-clause-waits c = kinds.flush_waits
