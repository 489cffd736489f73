use Rattle.lift_mem.proofs.Groups.{memory_lifts}
use Rattle.lift_mem.proofs.laws.memory_lifts.Goals as goal

pub returns : goal.returns
returns c = memory_lifts
