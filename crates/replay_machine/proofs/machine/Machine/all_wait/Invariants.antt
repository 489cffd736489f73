use Rattle.std.proofs.Common.{◌≡◌, ◌<◌, ℕ, true}
use Rattle.machine_model.specs.State.{thread_in}
use Rattle.machine_model.specs.Step.{is_stuck}
use Rattle.replay_machine.proofs.machine.Machine.all_wait.Given as goal

abbrev pub invariant-loop-s : goal.invariant-loop-s
invariant-loop-s l = (u : ℕ) → u < l.s → is_stuck l.image l.self u (thread_in l.self u) ≡ true
