use Rattle.machine_model.proofs.Costs.{bounded}
use Rattle.machine_model.proofs.laws.gated_is_bounded.Goals as goal

pub returns : goal.returns
returns c = bounded
