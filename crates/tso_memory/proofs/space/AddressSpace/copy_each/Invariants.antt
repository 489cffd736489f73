use Rattle.std.proofs.Common.{◌≡◌, ℕ, ◌+◌, ◌<◌, slice_index}
use Rattle.tso_memory.specs.Memory.{byte_of}
use Rattle.tso_memory.proofs.space.AddressSpace.copy_each.Given as goal

abbrev pub invariant-loop-k : goal.invariant-loop-k
invariant-loop-k l = (j : ℕ) → j < l.k → slice_index l.to j ≡ byte_of l.self (l.a + j)
