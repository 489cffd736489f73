use Rattle.lift_mem.proofs.Groups.{flow_lifts}
use Rattle.lift_mem.proofs.laws.flow_lifts.Goals as goal

pub returns : goal.returns
returns c = flow_lifts
