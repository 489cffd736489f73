use Rattle.machine_laws.proofs.Spans as spans
use Rattle.machine_laws.proofs.lives.lives_change_by_requests.Goals as goal

pub returns-clause-entry : goal.returns-clause-entry
returns-clause-entry c = spans.lives_go

pub returns-clause-first : goal.returns-clause-first
returns-clause-first c = spans.first_lives
