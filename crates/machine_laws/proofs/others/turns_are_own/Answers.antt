use Rattle.machine_laws.proofs.Turns as turns
use Rattle.machine_laws.proofs.others.turns_are_own.Goals as goal

pub returns-clause-entries : goal.returns-clause-entries
returns-clause-entries c = turns.turn_from_own

pub returns-clause-turn : goal.returns-clause-turn
returns-clause-turn c = turns.turn_own

pub returns-clause-leads : goal.returns-clause-leads
returns-clause-leads c = turns.turn_leads
