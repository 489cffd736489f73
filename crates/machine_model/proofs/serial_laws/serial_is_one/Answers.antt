use Rattle.machine_model.proofs.Reaches as reaches
use Rattle.machine_model.proofs.serial_laws.serial_is_one.Goals as goal

pub returns-clause-one : goal.returns-clause-one
returns-clause-one c = reaches.serial_one

pub returns-clause-told : goal.returns-clause-told
returns-clause-told c = reaches.serial_told
