use Rattle.std.proofs.Common.{length, arith}
use Rattle.sync_more.specs.declared.state.Sleepers.{Sleepers}
use Rattle.sync_more.specs.declared.state.Barrier.{Barrier}
use Rattle.sync_more.proofs.UpToLemmas.{UpTo-empty}
use Rattle.sync_more.proofs.rooms.Rooms.make.Goals as goal

pub invariant_of-result : goal.invariant_of-result
invariant_of-result c = (
  UpTo-empty (λ (s : Sleepers). length s.threads) 0 c.make.result.places c.make.ensures,
  UpTo-empty (λ (b : Barrier). length b.waiters) 0 c.make-2.result.places c.make-2.ensures,
  omega arith,
  omega arith,
  λ h. absurd (omega arith),
)
