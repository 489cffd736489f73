use Rattle.std.proofs.Common.{◌≤◌, length, arith}
use Rattle.sync_more.specs.declared.state.Sleepers.{Sleepers}
use Rattle.sync_more.specs.declared.state.Barrier.{Barrier}
use Rattle.sync_more.specs.Rooms.{RoomsData}
use Rattle.sync_more.proofs.UpToLemmas.{UpTo-insert, UpTo-more, UpTo-remove}
use Rattle.sync_more.proofs.RoomsLemmas.{is_asleep}
use Rattle.sync_more.proofs.rooms.Rooms.fall_asleep.Goals as goal

pub invariant_of-self : goal.invariant_of-self
invariant_of-self c =
    let n = c.self.inside.longest in
    let more : n ≤ c.max-self-inside.result = omega (arith, c.max-self-inside.ensures) in
    let joined : c.len.result ≤ c.max-self-inside.result = omega (arith, c.max-self-inside.ensures) in (
      UpTo-insert (λ (s : Sleepers). length s.threads) c.max-self-inside.result _ _ c.args.c _ c.put.ensures (omega (arith, joined, c.len.ensures.len))
          (UpTo-more (λ (s : Sleepers). length s.threads) n c.max-self-inside.result _ more (UpTo-remove (λ (s : Sleepers). length s.threads) n _ _ c.args.c c.take_sleepers-s.ensures.places c.self.invariant.0)),
      UpTo-more (λ (b : Barrier). length b.waiters) n c.max-self-inside.result _ more c.self.invariant.1,
      omega (arith, c.max-self-inside.ensures, c.len.ensures.small, c.self.invariant.2),
      omega arith,
      λ h. absurd (omega arith),
    )

pub returns-clause-state : goal.returns-clause-state
returns-clause-state c =
    let r = c.self.inside in
    let old : RoomsData = record { sleepers = r.sleepers.places; barriers = r.barriers.places; controls = r.controls.places; phases = r.phases.places; rounds = r.rounds } in
    rw (← c.self.view_is) (is_asleep old c.args.t c.args.c c.args.mutex c.take_sleepers-s.result c.join.new.self c.take_sleepers-s.new.sleepers.places c.put.new.self.places c.put-2.new.self.places
    c.take_sleepers-s.ensures.sleepers c.take_sleepers-s.ensures.places c.join.ensures c.put.ensures c.put-2.ensures.places)
