use Rattle.std.proofs.Common.{◌≡◌, ℕ, ◌+◌, ◌<◌, ◌≤◌, List, length, slice_index}
use Rattle.tso_memory.specs.declared.write.PendingWrite.{PendingWrite}
use Rattle.tso_memory.specs.Buffer.{seen}
use Rattle.tso_memory.specs.Memory.{Memory, byte_of}
use Rattle.tso_memory.proofs.tso.number_seen.Given as goal

-- the first k bytes are as they are seen, and the rest as they stand in memory
pub record SeenSoFar (m : Memory) (ps : List PendingWrite) (a k n : ℕ) (bytes : List ℕ) : Type 0 where
  pub eight : length bytes ≡ 8
  pub seen : (j : ℕ) → j < k → slice_index bytes j ≡ seen ps (a + j) (byte_of m (a + j))
  pub rest : (j : ℕ) → k ≤ j → j < n → slice_index bytes j ≡ byte_of m (a + j)

abbrev pub invariant-loop-k : goal.invariant-loop-k
invariant-loop-k l = SeenSoFar l.space l.buffer l.a l.k l.size l.bytes
