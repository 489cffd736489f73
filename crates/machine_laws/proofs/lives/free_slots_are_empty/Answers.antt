use Rattle.machine_laws.proofs.Spans as spans
use Rattle.machine_laws.proofs.lives.free_slots_are_empty.Goals as goal

pub returns : goal.returns
returns c = spans.free_from
