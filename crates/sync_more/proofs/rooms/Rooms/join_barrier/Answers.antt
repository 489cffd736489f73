use Rattle.std.proofs.Common.{◌≡◌, ◌≤◌, Some, length, sym, ◌∙◌, arith}
use Rattle.sync_more.specs.declared.state.Sleepers.{Sleepers}
use Rattle.sync_more.specs.declared.state.Barrier.{Barrier}
use Rattle.sync_more.specs.Rooms.{RoomsData}
use Rattle.sync_more.proofs.UpToLemmas.{UpTo-insert, UpTo-more, UpTo-remove}
use Rattle.sync_more.proofs.RoomsLemmas.{is_joined}
use Rattle.sync_more.proofs.rooms.Rooms.join_barrier.Goals as goal

pub invariant_of-self : goal.invariant_of-self
invariant_of-self c =
    let n = c.self.inside.longest in
    let more : n ≤ c.max-self-inside.result = omega (arith, c.max-self-inside.ensures) in
    let joined : c.len.result ≤ c.max-self-inside.result = omega (arith, c.max-self-inside.ensures) in (
      UpTo-more (λ (s : Sleepers). length s.threads) n c.max-self-inside.result _ more c.self.invariant.0,
      UpTo-insert (λ (b : Barrier). length b.waiters) c.max-self-inside.result _ _ c.args.b _ c.put.ensures (omega (arith, joined, c.len.ensures.len))
          (UpTo-more (λ (b : Barrier). length b.waiters) n c.max-self-inside.result _ more (UpTo-remove (λ (b : Barrier). length b.waiters) n _ _ c.args.b c.take.ensures.places c.self.invariant.1)),
      omega (arith, c.max-self-inside.ensures, c.len.ensures.small, c.self.invariant.2),
      omega arith,
      λ h. absurd (omega arith),
    )

pub returns-clause-state : goal.returns-clause-state
returns-clause-state c =
    let r = c.self.inside in
    let old : RoomsData = record { sleepers = r.sleepers.places; barriers = r.barriers.places; controls = r.controls.places; phases = r.phases.places; rounds = r.rounds } in
    let is : c.take.result ≡ Some c.unwrap-barrier.result = c.unwrap-barrier.ensures in
    rw (← c.self.view_is) (is_joined old c.args.t c.args.b c.unwrap-barrier.result c.join.new.self c.take.new.self.places c.put.new.self.places c.put-2.new.self.places
    (sym is ∙ c.take.ensures.value) c.take.ensures.places c.join.ensures c.put.ensures c.put-2.ensures.places)
