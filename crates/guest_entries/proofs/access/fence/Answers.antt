use Rattle.std.proofs.Common.{◌≡◌, length, refl, sym, subst, ap, ◌∙◌}
use Rattle.address_space.specs.Slots.{slot_of}
use Rattle.ir_syntax.specs.declared.request.Request.TheVariants as ask
use Rattle.x86_model.specs.declared.want.Want.TheVariants as wants
use Rattle.guest_steps.specs.declared.own.Own.{Own}
use Rattle.machine_model.specs.State.{list_at}
use Rattle.hall_core.specs.Hall.{both}
use Rattle.guest_steps.specs.Ages.{AreAges}
use Rattle.guest_steps.specs.Own.{data_of}
use Rattle.guest_entries.proofs.Composed.{asking_flushed, entered_flushed}
use Rattle.guest_entries.proofs.access.fence.Goals as goal

pub flush_all-requires-clause-with : goal.flush_all-requires-clause-with
flush_all-requires-clause-with c = let r = c.requires.asks in let a = r.2.along in (data_of (record c.args.own.now { state = r.0 }), r.1, a.going, a.with, refl)

pub pass_fence-requires-clause-asks : goal.pass_fence-requires-clause-asks
pass_fence-requires-clause-asks c =
    let r = c.requires.asks in
    let table = c.args.table.now.items in let v = r.0 in let d = r.1 in
    let h = c.args.hall.now in
    let n = c.flush_all.new.hall in
    let t = c.args.t in
    let own = c.args.own.now in
    let ages = c.flush_all.new.ages in
    let f = c.flush_all.ensures.flushed (data_of (record own { state = v })) d r.2.along.going r.2.along.with refl in
    (v, d, asking_flushed h n t (length own.ages) own ages table v d ask.Fence r.2 f)

pub returns : goal.returns
returns c = λ v d q.
    let h = c.args.hall.now in
    let n = c.flush_all.new.hall in
    let own = c.args.own.now in
    let before : Own = record own { state = v } in
    let ages = c.flush_all.new.ages in
    let f = c.flush_all.ensures.flushed (data_of before) d q.along.going q.along.with refl in
    let after = asking_flushed h n c.args.t (length own.ages) own ages c.args.table.now.items v d ask.Fence q f in
    let count : length (list_at (both h).machine (slot_of c.args.t)) ≡ length own.ages = sym q.along.with.ages in
    let none : length (list_at (both n).machine (slot_of c.args.t)) ≡ 0 = sym f.with.ages ∙ ap length c.flush_all.ensures.none in
    entered_flushed h n c.pass_fence.new.hall c.args.t (length own.ages) own before c.pass_fence.new.own ages c.args.table.now.items c.pass_fence.new.table.items d (wants.Fence q.asks.wanted.next) refl f q.asks.wanted.wants count none (λ y. subst (AreAges 255) (sym c.flush_all.ensures.none) tt) (c.pass_fence.ensures v d after)
