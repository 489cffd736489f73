use Rattle.lift_mem.proofs.Groups.{xadd_lifts}
use Rattle.lift_mem.proofs.laws.xadd_lifts.Goals as goal

pub returns : goal.returns
returns c = xadd_lifts
