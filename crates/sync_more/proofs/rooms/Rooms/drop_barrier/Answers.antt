use Rattle.std.proofs.Common.{length, arith}
use Rattle.sync_more.specs.declared.state.Barrier.{Barrier}
use Rattle.sync_more.proofs.UpToLemmas.{UpTo-remove}
use Rattle.sync_more.proofs.rooms.Rooms.drop_barrier.Goals as goal

pub invariant_of-self : goal.invariant_of-self
invariant_of-self c = (
  c.self.invariant.0,
  UpTo-remove (λ (b : Barrier). length b.waiters) c.self.inside.longest _ _ c.args.b c.take-barrier.ensures.places c.self.invariant.1,
  c.self.invariant.2,
  c.self.invariant.3,
  λ h. let ready = c.self.invariant.4 h in (ready.0, omega (arith, ready.1, c.take-barrier.ensures.room), ready.2, ready.3, ready.4),
)
