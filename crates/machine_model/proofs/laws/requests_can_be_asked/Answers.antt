use Rattle.machine_model.proofs.Calls.{can_ask}
use Rattle.machine_model.proofs.laws.requests_can_be_asked.Goals as goal

pub returns : goal.returns
returns c = can_ask
