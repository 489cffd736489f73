use Rattle.lift_mem.proofs.Transfers.{ret_law}
use Rattle.lift_mem.proofs.laws.ret_lifts.Goals as goal

pub returns : goal.returns
returns c = ret_law
