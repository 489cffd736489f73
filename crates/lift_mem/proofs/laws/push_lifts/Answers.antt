use Rattle.lift_mem.proofs.Groups.{push_lifts}
use Rattle.lift_mem.proofs.laws.push_lifts.Goals as goal

pub returns : goal.returns
returns c = push_lifts
