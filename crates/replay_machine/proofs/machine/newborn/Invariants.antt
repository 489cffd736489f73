use Rattle.std.proofs.Common.{◌≡◌, ◌<◌, ℕ, false, ◌&&◌, not, get_or}
use Rattle.machine_model.specs.Step.{is_in_use}
use Rattle.replay_machine.proofs.machine.newborn.Given as goal

abbrev pub invariant-loop-t : goal.invariant-loop-t
invariant-loop-t l = (u : ℕ) → u < l.t → (is_in_use l.library u && not (get_or l.before u false)) ≡ false
