use Rattle.machine_laws.proofs.Leaving as leaving
use Rattle.machine_laws.proofs.others.others_stay.Goals as goal

pub returns-clause-entry : goal.returns-clause-entry
returns-clause-entry c = leaving.entry_law

pub returns-clause-entries : goal.returns-clause-entries
returns-clause-entries c = leaving.entries_law

pub returns-clause-thread : goal.returns-clause-thread
returns-clause-thread c = leaving.thread_law
