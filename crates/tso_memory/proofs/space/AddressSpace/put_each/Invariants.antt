use Rattle.std.proofs.Common.{◌≡◌, ◌+◌, drop}
use Rattle.tso_memory.specs.Memory.{put_bytes}
use Rattle.tso_memory.proofs.space.AddressSpace.put_each.Given as goal

abbrev pub invariant-loop-k : goal.invariant-loop-k
invariant-loop-k l = put_bytes l.self (l.a + l.k) (drop l.k l.bytes) ≡ put_bytes l.fn.self l.a l.bytes
