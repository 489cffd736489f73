use Rattle.machine_model.proofs.NamesDead as names
use Rattle.machine_model.proofs.serial_laws.serial_is_there.Goals as goal

pub returns-clause-run : goal.returns-clause-run
returns-clause-run c = names.serial_named

pub returns-clause-journal : goal.returns-clause-journal
returns-clause-journal c = names.serial_there
