use Rattle.lift_alu.proofs.EveryLaw.{every_law}
use Rattle.lift_alu.proofs.laws.private_lifts.Goals as goal

pub returns : goal.returns
returns c = every_law
