use Rattle.lift_table.proofs.LiftMoves.{widen_law}
use Rattle.lift_table.proofs.LiftArith.{spread_law}
use Rattle.lift_alu.proofs.laws.widening_lifts.Goals as goal

pub returns : goal.returns
returns c = record { widen = λ w next fit. widen_law w next fit; spread = λ w next fit. spread_law w next fit }
