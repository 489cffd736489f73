use Rattle.std.proofs.Common.{◌≡◌, ◌<◌, ℕ, None, length, slice_index_or}
use Rattle.thread_step.proofs.guest.clear.Given as goal

abbrev pub invariant-loop-i : goal.invariant-loop-i
invariant-loop-i l = (length l.table.items ≡ length l.fn.table.items) × ((j : ℕ) → j < l.i → slice_index_or l.table.items j None ≡ None)
