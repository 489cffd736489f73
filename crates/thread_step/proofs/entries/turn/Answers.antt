use Rattle.std.proofs.Common.{Ok, refl, sym, subst, arith, ◌∙◌}
use Rattle.guest_steps.specs.Own.{data_of}
use Rattle.thread_step.specs.Turned.{EntryIs}
use Rattle.thread_step.proofs.Turning.{along_held}
use Rattle.thread_step.proofs.Whole.{begins_way, breaks, dies, ends, goes_on, no_place, none_end, settles, waits}
use Rattle.guest_parts.proofs.Runs.{rises_none}
use Rattle.thread_step.proofs.Counting.{count_then, held_same, rises_less, settled_counts}
use Rattle.thread_step.proofs.entries.turn.Goals as goal

pub loop-i-init : goal.loop-i-init
loop-i-init g c = record {
  on = λ d ready. (d, begins_way c.args.hall.now c.args.t c.args.rules c.args.own.now c.args.table.now.items d ready);
  count = rises_none _ _ (omega arith);
}

pub returns-in-Err-clause-count : goal.returns-in-Err-clause-count
returns-in-Err-clause-count g c = let r = c.requires.ready in count_then c.args.hall.now.case c.loop-i.hall.case _ _ _ c.args.own.now.k c.loop-i.own.k c.entry.new.own.k c.args.hall.now.journal c.loop-i.hall.journal c.entry.new.hall.journal (c.loop-i.invariant.on r.0 r.1).1.case c.loop-i.invariant.count c.entry.ensures.count

pub returns-in-Ok-true-clause-count : goal.returns-in-Ok-true-clause-count
returns-in-Ok-true-clause-count g c = let r = c.requires.ready in count_then c.args.hall.now.case c.loop-i.hall.case _ _ _ c.args.own.now.k c.loop-i.own.k c.entry.new.own.k c.args.hall.now.journal c.loop-i.hall.journal c.entry.new.hall.journal (c.loop-i.invariant.on r.0 r.1).1.case c.loop-i.invariant.count c.entry.ensures.count

pub returns-then-has_ended-clause-count : goal.returns-then-has_ended-clause-count
returns-then-has_ended-clause-count g c = let r = c.requires.ready in count_then c.args.hall.now.case c.loop-i.hall.case _ _ _ c.args.own.now.k c.loop-i.own.k c.entry.new.own.k c.args.hall.now.journal c.loop-i.hall.journal c.entry.new.hall.journal (c.loop-i.invariant.on r.0 r.1).1.case c.loop-i.invariant.count c.entry.ensures.count

pub returns-then-not-is_live-clause-count : goal.returns-then-not-is_live-clause-count
returns-then-not-is_live-clause-count g c = let r = c.requires.ready in count_then c.args.hall.now.case c.loop-i.hall.case _ _ _ c.args.own.now.k c.loop-i.own.k c.entry.new.own.k c.args.hall.now.journal c.loop-i.hall.journal c.entry.new.hall.journal (c.loop-i.invariant.on r.0 r.1).1.case c.loop-i.invariant.count c.entry.ensures.count

pub returns-in-Err-make_place-clause-count : goal.returns-in-Err-make_place-clause-count
returns-in-Err-make_place-clause-count g c = let same = held_same c.args.hall.now.case c.loop-i.hall c.make_place.new.hall c.make_place.ensures.same in rises_less _ _ _ _ (omega (arith, same)) c.loop-i.invariant.count

pub returns-clause-count : goal.returns-clause-count
returns-clause-count g c =
    let r = c.requires.ready in
    let w = c.loop-i.invariant.on r.0 r.1 in
    let a = along_held c.loop-i.hall c.make_place.new.hall c.args.t c.loop-i.own c.loop-i.table.items w.0 c.make_place.ensures.same w.1.ready.along in
    let same = settled_counts c.args.hall.now.case c.loop-i.hall c.make_place.new.hall c.settle.new.hall c.args.t c.args.rules.hold (data_of c.loop-i.own) c.settle.new.ages w.0 c.make_place.ensures.same (c.settle.ensures.settled (data_of c.loop-i.own) w.0 a.going a.with refl) in
    rises_less _ _ _ _ (omega (arith, same)) c.loop-i.invariant.count

pub entry-requires-after_bounds : goal.entry-requires-after_bounds
entry-requires-after_bounds g c = let r = c.requires.ready in let w = c.loop-i.invariant.on r.0 r.1 in λ κs within. (w.0, w.1.ready)

pub returns-in-Err-clause-turn : goal.returns-in-Err-clause-turn
returns-in-Err-clause-turn g c = λ d ready. let w = c.loop-i.invariant.on d ready in breaks c.args.hall.now c.loop-i.hall c.args.t c.args.rules c.args.own.now c.loop-i.own c.loop-i.table.items d c.loop-i._i w.0 w.1 c.loop-i-test.true c.entry.new.hall c.entry.new.own c.entry.new.table.items (c.in-Err.ensures.entry w.0 w.1.ready)

pub returns-in-Ok-true-clause-turn : goal.returns-in-Ok-true-clause-turn
returns-in-Ok-true-clause-turn g c = λ d ready. let w = c.loop-i.invariant.on d ready in waits c.args.hall.now c.loop-i.hall c.args.t c.args.rules c.args.own.now c.loop-i.own c.loop-i.table.items d c.loop-i._i w.0 w.1 c.loop-i-test.true c.entry.new.hall c.entry.new.own c.entry.new.table.items (subst (λ b. EntryIs (Ok b) c.loop-i.hall c.entry.new.hall c.args.t c.loop-i.own c.entry.new.own c.entry.new.table.items w.0) c.in-Ok-true.field-0-test (c.in-Ok-true.ensures.entry w.0 w.1.ready))

pub returns-then-has_ended-clause-turn : goal.returns-then-has_ended-clause-turn
returns-then-has_ended-clause-turn g c = λ d ready. let w = c.loop-i.invariant.on d ready in ends c.args.hall.now c.loop-i.hall c.args.t c.args.rules c.args.own.now c.loop-i.own c.loop-i.table.items d c.loop-i._i w.0 w.1 c.loop-i-test.true c.entry.new.hall c.entry.new.own c.entry.new.table.items (subst (λ b. EntryIs (Ok b) c.loop-i.hall c.entry.new.hall c.args.t c.loop-i.own c.entry.new.own c.entry.new.table.items w.0) c.in-Ok-false.field-0-test (c.in-Ok-false.ensures.entry w.0 w.1.ready)) (sym c.has_ended.ensures ∙ c.if-has_ended.true)

pub returns-then-not-is_live-clause-turn : goal.returns-then-not-is_live-clause-turn
returns-then-not-is_live-clause-turn g c = λ d ready. let w = c.loop-i.invariant.on d ready in dies c.args.hall.now c.loop-i.hall c.args.t c.args.rules c.args.own.now c.loop-i.own c.loop-i.table.items d c.loop-i._i w.0 w.1 c.loop-i-test.true c.entry.new.hall c.entry.new.own c.entry.new.table.items (subst (λ b. EntryIs (Ok b) c.loop-i.hall c.entry.new.hall c.args.t c.loop-i.own c.entry.new.own c.entry.new.table.items w.0) c.in-Ok-false.field-0-test (c.in-Ok-false.ensures.entry w.0 w.1.ready)) (none_end _ (sym c.has_ended.ensures ∙ c.if-has_ended.false)) (sym c.is_live.ensures ∙ c.if-not-is_live.true)

pub loop-i-preserved : goal.loop-i-preserved
loop-i-preserved g c = record {
  on = λ d ready. let w = c.loop-i.invariant.on d ready in (_, goes_on c.args.hall.now c.loop-i.hall c.args.t c.args.rules c.args.own.now c.loop-i.own c.loop-i.table.items d c.loop-i._i w.0 w.1 c.loop-i-test.true c.entry.new.hall c.entry.new.own c.entry.new.table.items (subst (λ b. EntryIs (Ok b) c.loop-i.hall c.entry.new.hall c.args.t c.loop-i.own c.entry.new.own c.entry.new.table.items w.0) c.in-Ok-false.field-0-test (c.in-Ok-false.ensures.entry w.0 w.1.ready)) (none_end _ (sym c.has_ended.ensures ∙ c.if-has_ended.false)) (sym c.is_live.ensures ∙ c.if-not-is_live.false));
  count = (let r = c.requires.ready in count_then c.args.hall.now.case c.loop-i.hall.case _ _ _ c.args.own.now.k c.loop-i.own.k c.entry.new.own.k c.args.hall.now.journal c.loop-i.hall.journal c.entry.new.hall.journal (c.loop-i.invariant.on r.0 r.1).1.case c.loop-i.invariant.count c.entry.ensures.count);
}

pub returns-in-Err-make_place-clause-turn : goal.returns-in-Err-make_place-clause-turn
returns-in-Err-make_place-clause-turn g c = λ d ready. let w = c.loop-i.invariant.on d ready in no_place c.args.hall.now c.loop-i.hall c.args.t c.args.rules c.args.own.now c.loop-i.own c.loop-i.table.items d c.loop-i._i w.0 w.1 c.loop-i-test.false c.requires.rules.turn c.make_place.new.hall c.make_place.ensures.same

pub settle-requires-clause-fresh : goal.settle-requires-clause-fresh
settle-requires-clause-fresh g c = let r = c.requires.ready in let w = c.loop-i.invariant.on r.0 r.1 in w.1.ready.fresh

pub settle-requires-clause-with : goal.settle-requires-clause-with
settle-requires-clause-with g c = let r = c.requires.ready in let w = c.loop-i.invariant.on r.0 r.1 in let a = along_held c.loop-i.hall c.make_place.new.hall c.args.t c.loop-i.own c.loop-i.table.items w.0 c.make_place.ensures.same w.1.ready.along in (data_of c.loop-i.own, w.0, a.going, a.with, refl)

pub returns-clause-turn : goal.returns-clause-turn
returns-clause-turn g c = λ d ready.
    let w = c.loop-i.invariant.on d ready in
    let a = along_held c.loop-i.hall c.make_place.new.hall c.args.t c.loop-i.own c.loop-i.table.items w.0 c.make_place.ensures.same w.1.ready.along in
    settles c.args.hall.now c.loop-i.hall c.args.t c.args.rules c.args.own.now c.loop-i.own c.loop-i.table.items d c.loop-i._i w.0 w.1 c.loop-i-test.false c.requires.rules.turn c.make_place.new.hall c.settle.new.hall c.settle.new.ages c.make_place.ensures.same c.settle.ensures.fresh c.requires.rules.hold (c.settle.ensures.settled (data_of c.loop-i.own) w.0 a.going a.with refl)
