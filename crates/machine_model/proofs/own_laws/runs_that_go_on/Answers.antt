use Rattle.machine_model.proofs.Prefixes as prefixes
use Rattle.machine_model.proofs.own_laws.runs_that_go_on.Goals as goal

pub returns-clause-prefix : goal.returns-clause-prefix
returns-clause-prefix c = prefixes.going_before

pub returns-clause-flush : goal.returns-clause-flush
returns-clause-flush c = prefixes.flush_ahead

pub returns-clause-grow : goal.returns-clause-grow
returns-clause-grow c = prefixes.grow_ahead

pub returns-clause-grown : goal.returns-clause-grown
returns-clause-grown c = prefixes.no_repeats
