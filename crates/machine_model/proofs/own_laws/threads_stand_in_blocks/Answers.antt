use Rattle.machine_model.proofs.InBlocks as blocks
use Rattle.machine_model.proofs.Settled as settled
use Rattle.machine_model.proofs.own_laws.threads_stand_in_blocks.Goals as goal

pub returns-clause-settled : goal.returns-clause-settled
returns-clause-settled c = settled.settled_from

pub returns-clause-steps : goal.returns-clause-steps
returns-clause-steps c = blocks.steps_placed

pub returns-clause-first : goal.returns-clause-first
returns-clause-first c = blocks.first_left
