use Rattle.machine_laws.proofs.Spans as spans
use Rattle.machine_laws.proofs.lives.new_threads_wait.Goals as goal

pub returns : goal.returns
returns c = spans.new_from
