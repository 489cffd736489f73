use Rattle.machine_model.proofs.Counts.{time_played, numbers_played}
use Rattle.machine_model.proofs.laws.numbers_fit.Goals as goal

pub returns-clause-steps : goal.returns-clause-steps
returns-clause-steps c = time_played

pub returns-clause-numbers : goal.returns-clause-numbers
returns-clause-numbers c = numbers_played
