use Rattle.std.proofs.Common.{subst, sym}
use Rattle.thread_step.specs.Guest.{private_steps}
use Rattle.ir_runner.specs.Rounds.{IsGuestOf}
use Rattle.ir_runner.proofs.Counting.{turn_ran}
use Rattle.ir_runner.proofs.Guests.{guest_turn}
use Rattle.ir_runner.proofs.Rounding.{done_by}
use Rattle.ir_runner.proofs.Turns.{GuestTurn, began, took}
use Rattle.ir_runner.proofs.rounds.turn_in_slot.Goals as goal

pub returns-in-Memory-clause-err : goal.returns-in-Memory-clause-err
returns-in-Memory-clause-err g c =
    let own = subst (IsGuestOf c.args.hall.now c.args.slot) (sym c.index_mut.ensures.value) (c.requires.guests.each c.args.slot c.index_mut.result.now c.requires.low) in
    let e = c.turn_alone.ensures in
    let t : GuestTurn c.turn_alone.result c.args.hall.now c.turn_alone.new.hall c.index_mut.result.now c.turn_alone.new.guest c.args.rules = guest_turn c.turn_alone.result c.args.hall.now c.turn_alone.new.hall c.index_mut.result.now c.turn_alone.new.guest c.args.rules c.facts.ensures.gated c.requires.rules.turn own.told e.ended e.idle e.turn e.slot e.serial e.ready e.others e.told e.marked in
    began c.args.hall.now c.turn_alone.new.hall c.args.guests.now.items c.index_mut.result.now c.turn_alone.new.guest c.args.rules c.args.slot c.requires.low c.requires.guests c.index_mut.ensures.value c.turn_alone.result t c.in-Memory.e c.in-Memory.is

pub returns-in_default-clause-ok : goal.returns-in_default-clause-ok
returns-in_default-clause-ok g c =
    let own = subst (IsGuestOf c.args.hall.now c.args.slot) (sym c.index_mut.ensures.value) (c.requires.guests.each c.args.slot c.index_mut.result.now c.requires.low) in
    let e = c.turn_alone.ensures in
    let t : GuestTurn c.turn_alone.result c.args.hall.now c.turn_alone.new.hall c.index_mut.result.now c.turn_alone.new.guest c.args.rules = guest_turn c.turn_alone.result c.args.hall.now c.turn_alone.new.hall c.index_mut.result.now c.turn_alone.new.guest c.args.rules c.facts.ensures.gated c.requires.rules.turn own.told e.ended e.idle e.turn e.slot e.serial e.ready e.others e.told e.marked in
    took c.args.hall.now c.turn_alone.new.hall c.args.guests.now.items c.index_mut.result.now c.turn_alone.new.guest c.args.rules c.args.slot c.requires.low c.requires.guests c.index_mut.ensures.value c.turn_alone.result t (done_by c.turn_alone.result c.in_default.not-Memory)

pub returns-in_default-clause-count : goal.returns-in_default-clause-count
returns-in_default-clause-count g c =
    let own = subst (IsGuestOf c.args.hall.now c.args.slot) (sym c.index_mut.ensures.value) (c.requires.guests.each c.args.slot c.index_mut.result.now c.requires.low) in
    turn_ran (g.N.Engine.count c.args.engine.now) (g.N.Engine.count c.turn_alone.new.engine) (private_steps c.index_mut.result.now) (private_steps c.turn_alone.new.guest) c.args.hall.now c.turn_alone.new.hall own.told (λ e. (c.turn_alone.ensures.ended e).1) c.turn_alone.ensures.count

pub returns-in-Memory-clause-count : goal.returns-in-Memory-clause-count
returns-in-Memory-clause-count g c =
    let own = subst (IsGuestOf c.args.hall.now c.args.slot) (sym c.index_mut.ensures.value) (c.requires.guests.each c.args.slot c.index_mut.result.now c.requires.low) in
    turn_ran (g.N.Engine.count c.args.engine.now) (g.N.Engine.count c.turn_alone.new.engine) (private_steps c.index_mut.result.now) (private_steps c.turn_alone.new.guest) c.args.hall.now c.turn_alone.new.hall own.told (λ e. (c.turn_alone.ensures.ended e).1) c.turn_alone.ensures.count
