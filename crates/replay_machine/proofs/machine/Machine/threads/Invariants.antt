use Rattle.std.proofs.Common.{◌≡◌, ◌-◌, ◌≤◌, ◌^◌}
use Rattle.replay_machine.specs.Views.{threads_below}
use Rattle.replay_machine.proofs.machine.Machine.threads.Given as goal

-- the threads so far
abbrev pub invariant-loop-t : goal.invariant-loop-t
invariant-loop-t l = record {
  threads : l.threads.items ≡ threads_below l.self l.from;
  within : l.from ≤ 2 ^ 32;
}

abbrev pub decreases-loop-t : goal.decreases-loop-t
decreases-loop-t l = 2 ^ 32 - l.from
