use Rattle.machine_model.proofs.Sizes.{sized_at_start, sized_stays, sized_played}
use Rattle.machine_model.proofs.laws.sized_from_the_start.Goals as goal

pub returns-clause-start : goal.returns-clause-start
returns-clause-start c = sized_at_start

pub returns-clause-step : goal.returns-clause-step
returns-clause-step c = sized_stays

pub returns-clause-played : goal.returns-clause-played
returns-clause-played c = sized_played
