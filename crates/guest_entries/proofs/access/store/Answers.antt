use Rattle.std.proofs.Common.{◌<◌, ℕ, length, refl, sym, arith}
use Rattle.address_space.specs.Slots.{slot_of}
use Rattle.x86_model.specs.declared.want.Want.TheVariants as wants
use Rattle.guest_steps.specs.declared.own.Own.{Own}
use Rattle.machine_model.specs.State.{list_at}
use Rattle.hall_core.specs.Hall.{both}
use Rattle.guest_steps.specs.Own.{data_of}
use Rattle.guest_entries.proofs.Accesses.{few_writes, storing}
use Rattle.guest_entries.proofs.Composed.{room_count}
use Rattle.std.specs.Prelude.{nat_le, if◌then◌else◌}
use Rattle.guest_entries.proofs.Composed.{asking_flushed, entered_flushed}
use Rattle.guest_entries.proofs.access.store.Goals as goal

pub make_room-requires-clause-with : goal.make_room-requires-clause-with
make_room-requires-clause-with c = let r = c.requires.asks in let a = r.4.along in (data_of (record c.args.own.now { state = r.0 }), r.1, a.going, a.with, refl)

pub write-requires-clause-asks : goal.write-requires-clause-asks
write-requires-clause-asks c =
    let r = c.requires.asks in
    let own = c.args.own.now in
    let f = c.make_room.ensures.flushed (data_of (record own { state = r.0 })) r.1 r.4.along.going r.4.along.with refl in
    (r.0, r.1, r.2, r.3, asking_flushed c.args.hall.now c.make_room.new.hall c.args.t (if nat_le 64 (length own.ages) then 1 else 0) own c.make_room.new.ages c.args.table.now.items r.0 r.1 r.2 r.4 f)

pub returns : goal.returns
returns c = λ v d r by q.
    let h = c.args.hall.now in
    let n = c.make_room.new.hall in
    let own = c.args.own.now in
    let before : Own = record own { state = v } in
    let ages = c.make_room.new.ages in
    let m : ℕ = if nat_le 64 (length own.ages) then 1 else 0 in
    let f = c.make_room.ensures.flushed (data_of before) d q.along.going q.along.with refl in
    let after = asking_flushed h n c.args.t m own ages c.args.table.now.items v d r q f in
    let s = storing h own c.args.a c.args.value c.args.to c.args.w d r by q.asks in
    let few : length (list_at (both n).machine (slot_of c.args.t)) < 64 = omega (arith, f.with.ages, c.make_room.ensures.few) in
    entered_flushed h n c.write.new.hall c.args.t m own before c.write.new.own ages c.args.table.now.items c.write.new.table.items d (wants.Store c.args.a s.width c.args.value s.next) refl f s.wants (room_count _ _ (sym q.along.with.ages)) (few_writes _ few) c.make_room.ensures.fresh (c.write.ensures v d r by after)
