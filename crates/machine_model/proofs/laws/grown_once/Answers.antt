use Rattle.machine_model.proofs.Gates as gates
use Rattle.machine_model.proofs.laws.grown_once.Goals as goal

pub returns : goal.returns
returns c = gates.grown_once
