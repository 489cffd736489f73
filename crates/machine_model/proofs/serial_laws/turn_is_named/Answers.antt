use Rattle.machine_model.proofs.NamesTurns.{turn_named}
use Rattle.machine_model.proofs.serial_laws.turn_is_named.Goals as goal

pub returns : goal.returns
returns c = turn_named
