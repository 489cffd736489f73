use Rattle.machine_model.proofs.SerialGated as gated
use Rattle.machine_model.proofs.Reaches as reaches
use Rattle.machine_model.proofs.serial_laws.serial_is_gated.Goals as goal

pub returns-clause-run : goal.returns-clause-run
returns-clause-run c = gated.serial_goes

pub returns-clause-journal : goal.returns-clause-journal
returns-clause-journal c = reaches.serial_gated
