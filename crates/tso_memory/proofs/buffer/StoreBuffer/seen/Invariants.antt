use Rattle.std.proofs.Common.{◌≡◌, ◌-◌, take}
use Rattle.tso_memory.specs.Buffer.{seen}
use Rattle.tso_memory.proofs.buffer.StoreBuffer.seen.Given as goal

abbrev pub invariant-loop-k : goal.invariant-loop-k
invariant-loop-k l = seen (take (l.reach - l.k) l.self-inside.ring.items) l.x l.byte ≡ seen (take l.reach l.self-inside.ring.items) l.x l.byte
