use Rattle.std.proofs.Common.{◌≡◌, ◌≢◌, arith, sym, subst, ap, ◌∙◌, length}
use Rattle.guest_entries.specs.Steps.{instruction_steps}
use Rattle.ir_runner.proofs.Counting.{dead_steps, ran_nothing, ran_same, ran_then}
use Rattle.ir_runner.proofs.Rounding.{ended_then, on_err}
use Rattle.ir_runner.proofs.Walking.{Way, took_adds, way_begins, way_breaks, way_dead, way_ended, way_ends, way_lacks, way_on, way_stuck}
use Rattle.ir_runner.proofs.rounds.round.Goals as goal

pub loop-slot-init : goal.loop-slot-init
loop-slot-init g c = record {
  way = way_begins c.args.hall.now c.args.guests.now.items c.args.rules c.requires.guests c.facts.ensures.gated;
  run = ran_nothing (g.N.Engine.count c.args.engine.now) c.args.hall.now;
}

pub loop-slot-preserved : goal.loop-slot-preserved
loop-slot-preserved g c =
    let e = c.in_ok-turn_in_slot.ensures in
    let w = c.loop-slot.invariant.way in
    let a = took_adds c.loop-slot.hall c.turn_in_slot.new.hall c.loop-slot.guests.items c.turn_in_slot.new.guests.items c.args.rules c.loop-slot.slot w.leads e.ok in
    record {
      way = way_on c.args.hall.now c.loop-slot.hall c.turn_in_slot.new.hall c.args.guests.now.items c.loop-slot.guests.items c.turn_in_slot.new.guests.items c.args.rules c.loop-slot.slot c.loop-slot-test.true e.case e.ok e.marks w;
      run = ran_then (g.N.Engine.count c.args.engine.now) (g.N.Engine.count c.loop-slot.engine) (g.N.Engine.count c.turn_in_slot.new.engine) c.args.hall.now c.loop-slot.hall c.turn_in_slot.new.hall w.case w.added (a.more, a.journal) c.loop-slot.invariant.run e.count;
    }

pub returns-in_err-turn_in_slot-clause-count : goal.returns-in_err-turn_in_slot-clause-count
returns-in_err-turn_in_slot-clause-count g c =
    let e = c.in_err-turn_in_slot.ensures in
    let w = c.loop-slot.invariant.way in
    ran_then (g.N.Engine.count c.args.engine.now) (g.N.Engine.count c.loop-slot.engine) (g.N.Engine.count c.turn_in_slot.new.engine) c.args.hall.now c.loop-slot.hall c.turn_in_slot.new.hall w.case w.added e.err.grew c.loop-slot.invariant.run e.count

pub returns-in_ok-end_dead-clause-count : goal.returns-in_ok-end_dead-clause-count
returns-in_ok-end_dead-clause-count g c = ran_same (g.N.Engine.count c.args.engine.now) (g.N.Engine.count c.loop-slot.engine) c.args.hall.now c.loop-slot.hall c.end_dead.new.hall (ap (instruction_steps c.args.hall.now.case) c.in_ok-end_dead.ensures.ok ∙ dead_steps c.args.hall.now.case c.loop-slot.hall.journal) c.loop-slot.invariant.run

pub returns-in_err-end_dead-clause-count : goal.returns-in_err-end_dead-clause-count
returns-in_err-end_dead-clause-count g c = ran_same (g.N.Engine.count c.args.engine.now) (g.N.Engine.count c.loop-slot.engine) c.args.hall.now c.loop-slot.hall c.end_dead.new.hall (ap (instruction_steps c.args.hall.now.case) c.in_err-end_dead.ensures.err) c.loop-slot.invariant.run

pub returns-in_err-turn_in_slot-clause-err : goal.returns-in_err-turn_in_slot-clause-err
returns-in_err-turn_in_slot-clause-err g c = on_err c.from_residual.result _ (way_breaks c.args.hall.now c.loop-slot.hall c.turn_in_slot.new.hall c.args.guests.now.items c.loop-slot.guests.items c.args.rules c.loop-slot.slot c.loop-slot-test.true c.in_err-turn_in_slot.ensures.err c.loop-slot.invariant.way)

pub end_dead-requires-clause-dead : goal.end_dead-requires-clause-dead
end_dead-requires-clause-dead g c =
    let past = c.loop-slot-test.false in
    let below = c.loop-slot.auto.slot-end in
    let all : c.loop-slot.slot ≡ 64 = omega (arith, past, below) in
    let w = subst (λ s. Way c.args.hall.now c.loop-slot.hall c.args.guests.now.items c.loop-slot.guests.items c.args.rules s) all c.loop-slot.invariant.way in
    let same : length c.loop-slot.hall.journal ≡ length c.args.hall.now.journal = sym c.length.ensures ∙ c.if-length-before.true ∙ c.length-before.ensures in
    way_dead c.args.hall.now c.loop-slot.hall c.args.guests.now.items c.loop-slot.guests.items c.args.rules w same c.requires.going (way_stuck c.args.hall.now c.loop-slot.hall c.args.guests.now.items c.loop-slot.guests.items c.args.rules w same c.requires.next)

pub returns-in_err-end_dead-clause-err : goal.returns-in_err-end_dead-clause-err
returns-in_err-end_dead-clause-err g c =
    let past = c.loop-slot-test.false in
    let below = c.loop-slot.auto.slot-end in
    let all : c.loop-slot.slot ≡ 64 = omega (arith, past, below) in
    let w = subst (λ s. Way c.args.hall.now c.loop-slot.hall c.args.guests.now.items c.loop-slot.guests.items c.args.rules s) all c.loop-slot.invariant.way in
    on_err c.from_residual-in_err-end_dead.result _ (way_lacks c.args.hall.now c.loop-slot.hall c.end_dead.new.hall c.args.guests.now.items c.loop-slot.guests.items c.args.rules w c.in_err-end_dead.ensures.err)

pub returns-in_ok-end_dead-clause-ok : goal.returns-in_ok-end_dead-clause-ok
returns-in_ok-end_dead-clause-ok g c =
    let past = c.loop-slot-test.false in
    let below = c.loop-slot.auto.slot-end in
    let all : c.loop-slot.slot ≡ 64 = omega (arith, past, below) in
    let w = subst (λ s. Way c.args.hall.now c.loop-slot.hall c.args.guests.now.items c.loop-slot.guests.items c.args.rules s) all c.loop-slot.invariant.way in
    let same : length c.loop-slot.hall.journal ≡ length c.args.hall.now.journal = sym c.length.ensures ∙ c.if-length-before.true ∙ c.length-before.ensures in
    let stuck = way_stuck c.args.hall.now c.loop-slot.hall c.args.guests.now.items c.loop-slot.guests.items c.args.rules w same c.requires.next in
    way_ended c.args.hall.now c.loop-slot.hall c.end_dead.new.hall c.args.guests.now.items c.loop-slot.guests.items c.args.rules w same stuck c.in_ok-end_dead.ensures.case c.in_ok-end_dead.ensures.ok

pub returns-in_ok-end_dead-clause-guests : goal.returns-in_ok-end_dead-clause-guests
returns-in_ok-end_dead-clause-guests g c =
    let past = c.loop-slot-test.false in
    let below = c.loop-slot.auto.slot-end in
    let all : c.loop-slot.slot ≡ 64 = omega (arith, past, below) in
    let w = subst (λ s. Way c.args.hall.now c.loop-slot.hall c.args.guests.now.items c.loop-slot.guests.items c.args.rules s) all c.loop-slot.invariant.way in
    let same : length c.loop-slot.hall.journal ≡ length c.args.hall.now.journal = sym c.length.ensures ∙ c.if-length-before.true ∙ c.length-before.ensures in
    let stuck = way_stuck c.args.hall.now c.loop-slot.hall c.args.guests.now.items c.loop-slot.guests.items c.args.rules w same c.requires.next in
    λ going. ended_then c.loop-slot.hall c.end_dead.new.hall stuck c.in_ok-end_dead.ensures.case c.in_ok-end_dead.ensures.ok going

pub returns-else-length-before-clause-ok : goal.returns-else-length-before-clause-ok
returns-else-length-before-clause-ok g c =
    let past = c.loop-slot-test.false in
    let below = c.loop-slot.auto.slot-end in
    let all : c.loop-slot.slot ≡ 64 = omega (arith, past, below) in
    let w = subst (λ s. Way c.args.hall.now c.loop-slot.hall c.args.guests.now.items c.loop-slot.guests.items c.args.rules s) all c.loop-slot.invariant.way in
    let other : length c.loop-slot.hall.journal ≢ length c.args.hall.now.journal = λ e. c.if-length-before.false (c.length.ensures ∙ e ∙ sym c.length-before.ensures) in
    way_ends c.args.hall.now c.loop-slot.hall c.args.guests.now.items c.loop-slot.guests.items c.args.rules w other
