use Rattle.lift_mem.proofs.Groups.{pop_lifts}
use Rattle.lift_mem.proofs.laws.pop_lifts.Goals as goal

pub returns : goal.returns
returns c = pop_lifts
