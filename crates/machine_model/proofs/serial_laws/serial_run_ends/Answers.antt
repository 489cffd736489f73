use Rattle.machine_model.proofs.SerialRounds.{serial_ends}
use Rattle.machine_model.proofs.serial_laws.serial_run_ends.Goals as goal

pub returns : goal.returns
returns c = serial_ends
