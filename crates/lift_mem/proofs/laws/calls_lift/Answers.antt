use Rattle.lift_mem.proofs.Transfers.{call_law}
use Rattle.lift_mem.proofs.Groups.{call_to_lifts}
use Rattle.lift_mem.proofs.laws.calls_lift.Goals as goal

pub returns : goal.returns
returns c = record {
  direct = call_law;
  indirect = call_to_lifts;
}
