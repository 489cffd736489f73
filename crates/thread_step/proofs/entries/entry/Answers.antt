use Rattle.std.proofs.Common.{◌-◌}
use Rattle.std.proofs.Common.{refl, arith}
use Rattle.thread_step.proofs.Turning.{along_held, came_stops, entry_failed, entry_with, nothing_made}
use Rattle.guest_parts.proofs.Runs.{rises_none}
use Rattle.guest_entries.specs.Steps.{instruction_steps}
use Rattle.thread_step.proofs.Counting.{entry_counts, held_counts, held_same, rises_less}
use Rattle.thread_step.proofs.entries.entry.Goals as goal

pub returns-in_err-make_place-clause-entry : goal.returns-in_err-make_place-clause-entry
returns-in_err-make_place-clause-entry g c = λ d ready. entry_failed c.from_residual.result c.args.hall.now c.make_place.new.hall c.args.t c.args.own.now c.args.own.now c.args.table.now.items d c.from_residual.ensures.0 (nothing_made c.args.hall.now c.make_place.new.hall c.args.t c.args.own.now c.args.own.now c.args.table.now.items c.args.table.now.items d d ready c.make_place.ensures.same (along_held c.args.hall.now c.make_place.new.hall c.args.t c.args.own.now c.args.table.now.items d c.make_place.ensures.same ready.along) refl)

pub returns-in_err-came-clause-entry : goal.returns-in_err-came-clause-entry
returns-in_err-came-clause-entry g c = λ d ready.
    let m = c.in_err-came.ensures.stretch c.args.t d (along_held c.args.hall.now c.make_place.new.hall c.args.t c.args.own.now c.args.table.now.items d c.make_place.ensures.same ready.along) in
    entry_failed c.from_residual-in_err-came.result c.args.hall.now c.make_place.new.hall c.args.t c.args.own.now c.stretch.new.own c.stretch.new.table.items d c.from_residual-in_err-came.ensures.0 (nothing_made c.args.hall.now c.make_place.new.hall c.args.t c.args.own.now c.stretch.new.own c.args.table.now.items c.stretch.new.table.items d m.0 ready c.make_place.ensures.same m.1.along m.1.ages)

pub act-requires-clause-stops : goal.act-requires-clause-stops
act-requires-clause-stops g c =
    let r = c.requires in
    came_stops c.in_ok-came.came c.make_place.new.hall c.args.t c.args.own.now c.stretch.new.own c.stretch.new.table.items r.0 (c.in_ok-came.ensures.stretch c.args.t r.0 (along_held c.args.hall.now c.make_place.new.hall c.args.t c.args.own.now c.args.table.now.items r.0 c.make_place.ensures.same r.1.along))

pub returns-clause-entry : goal.returns-clause-entry
returns-clause-entry g c = λ d ready. entry_with c.in_ok-came.came c.act.result c.args.hall.now c.make_place.new.hall c.act.new.hall c.args.t c.args.own.now c.stretch.new.own c.act.new.own c.args.table.now.items c.stretch.new.table.items c.act.new.table.items d c.make_place.ensures.same ready (c.in_ok-came.ensures.stretch c.args.t d (along_held c.args.hall.now c.make_place.new.hall c.args.t c.args.own.now c.args.table.now.items d c.make_place.ensures.same ready.along)) c.act.ensures

pub returns-in_err-make_place-clause-count : goal.returns-in_err-make_place-clause-count
returns-in_err-make_place-clause-count g c = let same = held_same c.args.hall.now.case c.args.hall.now c.make_place.new.hall c.make_place.ensures.same in rises_none _ _ (omega (arith, same))

pub returns-in_err-came-clause-count : goal.returns-in_err-came-clause-count
returns-in_err-came-clause-count g c = let same = held_same c.args.hall.now.case c.args.hall.now c.make_place.new.hall c.make_place.ensures.same in rises_less _ _ (c.stretch.new.own.k - c.args.own.now.k) _ (omega (arith, same)) c.in_err-came.ensures.count

pub returns-clause-count : goal.returns-clause-count
returns-clause-count g c =
    let r = c.requires in
    let stops = came_stops c.in_ok-came.came c.make_place.new.hall c.args.t c.args.own.now c.stretch.new.own c.stretch.new.table.items r.0 (c.in_ok-came.ensures.stretch c.args.t r.0 (along_held c.args.hall.now c.make_place.new.hall c.args.t c.args.own.now c.args.table.now.items r.0 c.make_place.ensures.same r.1.along)) in
    entry_counts c.in_ok-came.came _ _ c.args.own.now.k c.stretch.new.own.k (instruction_steps c.args.hall.now.case c.args.hall.now.journal) (instruction_steps c.args.hall.now.case c.act.new.hall.journal) c.act.new.own.k c.in_ok-came.ensures.count c.in_ok-came.ensures.later
    (held_counts c.in_ok-came.came c.act.result c.args.hall.now c.make_place.new.hall c.act.new.hall c.args.t c.stretch.new.own c.act.new.own c.stretch.new.table.items c.act.new.table.items stops.0 c.make_place.ensures.same stops.1 (c.act.ensures stops.0 stops.1))
