use Rattle.x86_model.proofs.Standing.{runs_spelled}
use Rattle.x86_model.proofs.laws.runs_what_is_spelled.Goals as goal

pub returns : goal.returns
returns c = runs_spelled c.reads_exactly.ensures
