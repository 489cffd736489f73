use Rattle.machine_model.proofs.Calls.{calls_at_start, calls_stay, calls_played}
use Rattle.machine_model.proofs.laws.calls_back.Goals as goal

pub returns-clause-start : goal.returns-clause-start
returns-clause-start c = calls_at_start

pub returns-clause-step : goal.returns-clause-step
returns-clause-step c = calls_stay

pub returns-clause-played : goal.returns-clause-played
returns-clause-played c = calls_played
