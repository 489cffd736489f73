use Rattle.machine_model.proofs.Comes as comes
use Rattle.machine_model.proofs.serial_laws.entries_that_may_come.Goals as goal

pub returns-clause-here : goal.returns-clause-here
returns-clause-here c = comes.leads_here

pub returns-clause-more : goal.returns-clause-more
returns-clause-more c = comes.both_more

pub returns-clause-gated : goal.returns-clause-gated
returns-clause-gated c = comes.comes_gated

pub returns-clause-last : goal.returns-clause-last
returns-clause-last c = comes.comes_if_gated
