use Rattle.lift_table.proofs.LiftMoves.{nop_law, pause_law, endbr_law}
use Rattle.lift_alu.proofs.laws.nops_lift.Goals as goal

pub returns : goal.returns
returns c = record { nop = nop_law; pause = pause_law; endbr = endbr_law }
