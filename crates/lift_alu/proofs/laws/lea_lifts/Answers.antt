use Rattle.lift_table.proofs.LiftMoves.{lea_law}
use Rattle.lift_alu.proofs.laws.lea_lifts.Goals as goal

pub returns : goal.returns
returns c = λ w dst mem next fit. lea_law w dst mem next fit.1
