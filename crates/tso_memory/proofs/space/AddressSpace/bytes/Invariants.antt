use Rattle.std.proofs.Common.{◌≡◌, ℕ, ◌+◌, ◌<◌, length, slice_index}
use Rattle.tso_memory.specs.Memory.{byte_of}
use Rattle.tso_memory.proofs.space.AddressSpace.bytes.Given as goal

abbrev pub invariant-loop-k : goal.invariant-loop-k
invariant-loop-k l = (length l.bytes ≡ 8) × ((j : ℕ) → j < l.k → slice_index l.bytes j ≡ byte_of l.self (l.a + j))
