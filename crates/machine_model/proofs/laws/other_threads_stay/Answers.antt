use Rattle.machine_model.proofs.Independence.{threads_stay, lists_stay}
use Rattle.machine_model.proofs.laws.other_threads_stay.Goals as goal

pub returns-clause-thread : goal.returns-clause-thread
returns-clause-thread c = λ x m n e sized. threads_stay x m n e sized.slots

pub returns-clause-writes : goal.returns-clause-writes
returns-clause-writes c = λ x m n e sized. lists_stay x m n e sized.slots
