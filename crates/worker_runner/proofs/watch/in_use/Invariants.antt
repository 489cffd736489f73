use Rattle.std.proofs.Common.{◌≤◌}
use Rattle.worker_runner.proofs.watch.in_use.Given as goal

abbrev pub invariant-loop-slot : goal.invariant-loop-slot
invariant-loop-slot l = l.used ≤ l.slot
