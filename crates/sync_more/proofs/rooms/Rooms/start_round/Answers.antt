use Rattle.std.proofs.Common.{◌≤◌, length, ap, arith}
use Rattle.sync_more.specs.declared.state.Barrier.{Barrier}
use Rattle.sync_more.proofs.UpToLemmas.{UpTo-insert}
use Rattle.sync_more.proofs.rooms.Rooms.start_round.Goals as goal

pub invariant_of-self : goal.invariant_of-self
invariant_of-self c =
    let none : length c.make.result ≤ c.self.inside.longest = omega (arith, ap length c.make.ensures) in
    (c.self.invariant.0, UpTo-insert (λ (b : Barrier). length b.waiters) c.self.inside.longest _ _ c.args.b _ c.put.ensures none c.self.invariant.1, c.self.invariant.2, omega arith, λ h. absurd (omega arith))
