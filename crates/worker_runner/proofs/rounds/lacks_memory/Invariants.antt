use Rattle.std.proofs.Common.{ℕ, ◌<◌, slice_index_or}
use Rattle.worker_runner.specs.declared.round.Worker.{Worker}
use Rattle.worker_runner.specs.Rounds.{HadMemory}
use Rattle.worker_runner.proofs.rounds.lacks_memory.Given as goal

abbrev pub invariant-loop-w : goal.invariant-loop-w
invariant-loop-w g l = (k : ℕ) (d : Worker g.row.N.Denot) → k < l.w-index → HadMemory (slice_index_or l.workers k d).turned
