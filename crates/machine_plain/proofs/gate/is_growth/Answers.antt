use Rattle.machine_plain.proofs.gate.is_growth.Goals as goal

pub returns-in-Growing : goal.returns-in-Growing
returns-in-Growing c = rw c.in-Growing.is c.is_growth_after.ensures
