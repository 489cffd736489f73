use Rattle.lift_mem.proofs.Groups.{cmpxchg_lifts}
use Rattle.lift_mem.proofs.laws.cmpxchg_lifts.Goals as goal

pub returns : goal.returns
returns c = cmpxchg_lifts
