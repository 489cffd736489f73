use Rattle.machine_model.proofs.Walks.{play_more}
use Rattle.machine_model.proofs.laws.played_step_by_step.Goals as goal

pub returns : goal.returns
returns c = play_more
