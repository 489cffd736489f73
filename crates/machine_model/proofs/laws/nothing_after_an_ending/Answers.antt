use Rattle.machine_model.proofs.Walks.{ended_no_step, ended_no_more}
use Rattle.machine_model.proofs.laws.nothing_after_an_ending.Goals as goal

pub returns-clause-step : goal.returns-clause-step
returns-clause-step c = ended_no_step

pub returns-clause-journal : goal.returns-clause-journal
returns-clause-journal c = ended_no_more
