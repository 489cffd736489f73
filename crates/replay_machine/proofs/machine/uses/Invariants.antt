use Rattle.std.proofs.Common.{◌≡◌, ◌<◌, ℕ, false, get_or, length}
use Rattle.machine_model.specs.Step.{is_in_use}
use Rattle.replay_machine.proofs.machine.uses.Given as goal

abbrev pub invariant-loop-s : goal.invariant-loop-s
invariant-loop-s l = (length l.uses ≡ 64) × ((u : ℕ) → u < l.s → get_or l.uses u false ≡ is_in_use l.library u)
