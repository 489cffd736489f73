use Rattle.std.proofs.Common.{◌≡◌, ◌<◌, ℕ, true}
use Rattle.tso_memory.specs.Tso.{is_none_waiting}
use Rattle.machine_model.specs.State.{list_at}
use Rattle.replay_machine.proofs.machine.Machine.all_empty.Given as goal

abbrev pub invariant-loop-t : goal.invariant-loop-t
invariant-loop-t l = (u : ℕ) → u < l.t → is_none_waiting (list_at l.self u) ≡ true
