use Rattle.std.proofs.Common.{◌≡◌, ◌<◌, ℕ, true}
use Rattle.hall_core.specs.Shared.{is_stuck_in}
use Rattle.hall_core.proofs.shared.Shared.all_wait.Given as goal

abbrev pub invariant-loop-s : goal.invariant-loop-s
invariant-loop-s l = (u : ℕ) → u < l.s → is_stuck_in l.self l.marks u ≡ true
