use Rattle.std.proofs.Common.{◌≡◌, ◌<◌, ℕ, true}
use Rattle.tso_memory.specs.Tso.{buffer_of, is_none_waiting}
use Rattle.hall_core.proofs.shared.Shared.all_empty.Given as goal

abbrev pub invariant-loop-s : goal.invariant-loop-s
invariant-loop-s l = (u : ℕ) → u < l.s → is_none_waiting (buffer_of l.self.tso u) ≡ true
