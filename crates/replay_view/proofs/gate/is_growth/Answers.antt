use Rattle.replay_view.proofs.gate.is_growth.Goals as goal

pub returns-in-Growing-clause-is : goal.returns-in-Growing-clause-is
returns-in-Growing-clause-is c = rw c.in-Growing.is c.is_growth_after.ensures.is
