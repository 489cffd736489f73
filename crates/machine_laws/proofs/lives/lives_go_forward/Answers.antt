use Rattle.machine_laws.proofs.Spans as spans
use Rattle.machine_laws.proofs.lives.lives_go_forward.Goals as goal

pub returns-clause-unborn : goal.returns-clause-unborn
returns-clause-unborn c = spans.unborn_before

pub returns-clause-ended : goal.returns-clause-ended
returns-clause-ended c = spans.ended_after

pub returns-clause-joined : goal.returns-clause-joined
returns-clause-joined c = spans.joined_after
