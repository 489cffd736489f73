use Rattle.std.proofs.Common.{refl, sym, ◌∙◌}
use Rattle.guest_steps.specs.Own.{data_of}
use Rattle.thread_step.proofs.Counting.{held_same, settled_counts}
use Rattle.thread_step.proofs.Staying.{runs_ready}
use Rattle.thread_step.proofs.Stepping.{settled_case, settled_going, settled_runs, settled_spends}
use Rattle.thread_step.proofs.Turning.{along_held}
use Rattle.thread_step.proofs.Whole.{none_end}
use Rattle.thread_step.proofs.worker.grow_older.Goals as goal

pub settle-requires-clause-with : goal.settle-requires-clause-with
settle-requires-clause-with c =
    let g = c.args.guest.now in
    let r = c.requires.runs (none_end _ (sym c.has_ended.ensures ∙ c.if-has_ended.false)) in
    let a = along_held c.args.hall.now c.make_place.new.hall c.args.t g.own g.table.items r.stand c.make_place.ensures.same r.ready.along in
    (data_of g.own, r.stand, a.going, a.with, refl)

pub returns-clause-case : goal.returns-clause-case
returns-clause-case c =
    let g = c.args.guest.now in
    let r = c.requires.runs (none_end _ (sym c.has_ended.ensures ∙ c.if-has_ended.false)) in
    let a = along_held c.args.hall.now c.make_place.new.hall c.args.t g.own g.table.items r.stand c.make_place.ensures.same r.ready.along in
    settled_case c.args.hall.now c.make_place.new.hall c.settle.new.hall c.args.t c.args.hold g c.settle.new.ages r c.make_place.ensures.same c.requires.hold c.settle.ensures.fresh (c.settle.ensures.settled (data_of g.own) r.stand a.going a.with refl)

pub returns-clause-spends : goal.returns-clause-spends
returns-clause-spends c =
    let g = c.args.guest.now in
    let r = c.requires.runs (none_end _ (sym c.has_ended.ensures ∙ c.if-has_ended.false)) in
    let a = along_held c.args.hall.now c.make_place.new.hall c.args.t g.own g.table.items r.stand c.make_place.ensures.same r.ready.along in
    settled_spends c.args.hall.now c.make_place.new.hall c.settle.new.hall c.args.t c.args.hold g c.settle.new.ages r c.make_place.ensures.same c.requires.hold c.settle.ensures.fresh (c.settle.ensures.settled (data_of g.own) r.stand a.going a.with refl)

pub returns-clause-left : goal.returns-clause-left
returns-clause-left c =
    let g = c.args.guest.now in
    let r = c.requires.runs (none_end _ (sym c.has_ended.ensures ∙ c.if-has_ended.false)) in
    let a = along_held c.args.hall.now c.make_place.new.hall c.args.t g.own g.table.items r.stand c.make_place.ensures.same r.ready.along in
    runs_ready c.settle.new.hall c.args.t _ (settled_runs c.args.hall.now c.make_place.new.hall c.settle.new.hall c.args.t c.args.hold g c.settle.new.ages r c.make_place.ensures.same c.requires.hold c.settle.ensures.fresh (c.settle.ensures.settled (data_of g.own) r.stand a.going a.with refl))

pub returns-clause-ends : goal.returns-clause-ends
returns-clause-ends c =
    let g = c.args.guest.now in
    let r = c.requires.runs (none_end _ (sym c.has_ended.ensures ∙ c.if-has_ended.false)) in
    let a = along_held c.args.hall.now c.make_place.new.hall c.args.t g.own g.table.items r.stand c.make_place.ensures.same r.ready.along in
    settled_going c.args.hall.now c.make_place.new.hall c.settle.new.hall c.args.t c.args.hold g c.settle.new.ages r c.make_place.ensures.same c.requires.hold c.settle.ensures.fresh (c.settle.ensures.settled (data_of g.own) r.stand a.going a.with refl)

pub returns-in-Err-clause-steps : goal.returns-in-Err-clause-steps
returns-in-Err-clause-steps c = held_same c.args.hall.now.case c.args.hall.now c.make_place.new.hall c.make_place.ensures.same

pub returns-clause-steps : goal.returns-clause-steps
returns-clause-steps c =
    let g = c.args.guest.now in
    let r = c.requires.runs (none_end _ (sym c.has_ended.ensures ∙ c.if-has_ended.false)) in
    let a = along_held c.args.hall.now c.make_place.new.hall c.args.t g.own g.table.items r.stand c.make_place.ensures.same r.ready.along in
    settled_counts c.args.hall.now.case c.args.hall.now c.make_place.new.hall c.settle.new.hall c.args.t c.args.hold (data_of g.own) c.settle.new.ages r.stand c.make_place.ensures.same (c.settle.ensures.settled (data_of g.own) r.stand a.going a.with refl)
