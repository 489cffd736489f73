use Rattle.lift_mem.proofs.Transfers.{jcc_law, jmp_law}
use Rattle.lift_mem.proofs.Groups.{jmp_to_lifts}
use Rattle.lift_mem.proofs.laws.jumps_lift.Goals as goal

pub returns : goal.returns
returns c = record {
  conditional = jcc_law;
  direct = jmp_law;
  indirect = jmp_to_lifts;
}
