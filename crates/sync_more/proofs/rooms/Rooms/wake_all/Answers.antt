use Rattle.std.proofs.Common.{length, arith}
use Rattle.sync_more.specs.declared.state.Sleepers.{Sleepers}
use Rattle.sync_more.proofs.UpToLemmas.{UpTo-remove}
use Rattle.sync_more.proofs.rooms.Rooms.wake_all.Goals as goal

pub invariant_of-self-2 : goal.invariant_of-self-2
invariant_of-self-2 c =
    (UpTo-remove (λ (s : Sleepers). length s.threads) c.self.inside.longest _ _ c.args.c c.take.ensures.places c.self.invariant.0, c.self.invariant.1, c.self.invariant.2, omega arith, λ h. absurd (omega arith))
