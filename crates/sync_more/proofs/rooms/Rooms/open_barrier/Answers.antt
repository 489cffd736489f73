use Rattle.std.proofs.Common.{◌≡◌, ◌≤◌, Some, length, sym, ◌∙◌, ap, arith}
use Rattle.sync_more.specs.declared.state.Barrier.{Barrier}
use Rattle.sync_more.specs.Rooms.{RoomsData}
use Rattle.sync_more.proofs.UpToLemmas.{UpTo-insert, UpTo-remove}
use Rattle.sync_more.proofs.RoomsLemmas.{is_opened}
use Rattle.sync_more.proofs.rooms.Rooms.open_barrier.Goals as goal

pub invariant_of-self : goal.invariant_of-self
invariant_of-self c =
    let n = c.self.inside.longest in
    let none : length c.make.result ≤ n = omega (arith, ap length c.make.ensures) in (
      c.self.invariant.0,
      UpTo-insert (λ (b : Barrier). length b.waiters) n _ _ c.args.b _ c.put.ensures none (UpTo-remove (λ (b : Barrier). length b.waiters) n _ _ c.args.b c.take.ensures.places c.self.invariant.1),
      c.self.invariant.2,
      omega arith,
      λ h. absurd (omega arith),
    )

pub returns-clause-state : goal.returns-clause-state
returns-clause-state c =
    let r = c.self.inside in
    let old : RoomsData = record { sleepers = r.sleepers.places; barriers = r.barriers.places; controls = r.controls.places; phases = r.phases.places; rounds = r.rounds } in
    let is : c.take.result ≡ Some c.unwrap-barrier.result = c.unwrap-barrier.ensures in
    rw (← c.self.view_is) (is_opened old c.args.b c.unwrap-barrier.result c.threads.result.now c.make.result c.take.new.self.places c.put.new.self.places c.set_phases.new.phases.places
    (sym is ∙ c.take.ensures.value) c.take.ensures.places c.make.ensures c.put.ensures c.threads.ensures c.set_phases.ensures)
