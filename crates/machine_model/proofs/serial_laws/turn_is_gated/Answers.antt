use Rattle.machine_model.proofs.SerialGated as gated
use Rattle.machine_model.proofs.serial_laws.turn_is_gated.Goals as goal

pub returns-clause-entries : goal.returns-clause-entries
returns-clause-entries c = gated.turn_from_gated

pub returns-clause-turn : goal.returns-clause-turn
returns-clause-turn c = gated.turn_gated
