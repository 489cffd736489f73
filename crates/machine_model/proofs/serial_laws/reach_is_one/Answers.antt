use Rattle.machine_model.proofs.Reaches as reaches
use Rattle.machine_model.proofs.serial_laws.reach_is_one.Goals as goal

pub returns-clause-some : goal.returns-clause-some
returns-clause-some c = reaches.has_reach

pub returns-clause-one : goal.returns-clause-one
returns-clause-one c = reaches.one_reach
