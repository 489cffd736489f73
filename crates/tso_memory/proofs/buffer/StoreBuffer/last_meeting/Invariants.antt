use Rattle.std.proofs.Common.{◌≡◌, ℕ, ◌+◌, ◌-◌, ◌<◌, ◌≤◌, take}
use Rattle.tso_memory.specs.Buffer.{seen}
use Rattle.tso_memory.proofs.buffer.StoreBuffer.last_meeting.Given as goal

abbrev pub invariant-loop-k : goal.invariant-loop-k
invariant-loop-k l = (x b : ℕ) → l.a ≤ x → x < l.a + l.size → seen (take (l.n - l.k) l.self-inside.ring.items) x b ≡ seen (take l.n l.self-inside.ring.items) x b
