use Rattle.machine_model.proofs.Gates.{untouched, ahead_stays}
use Rattle.machine_model.proofs.laws.untouched_by_others.Goals as goal

pub returns-clause-thread : goal.returns-clause-thread
returns-clause-thread c = λ x b n s entries sized. untouched x b n s entries sized.slots

pub returns-clause-steps : goal.returns-clause-steps
returns-clause-steps c = λ x b n s k entries d sized. ahead_stays x b n s k entries d sized.slots
