use Rattle.lift_mem.proofs.Groups.{lock_alu_lifts, lock_one_lifts}
use Rattle.lift_mem.proofs.laws.locked_lift.Goals as goal

pub returns : goal.returns
returns c = record {
  two_operands = lock_alu_lifts;
  one_operand = lock_one_lifts;
}
