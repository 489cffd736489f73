use Rattle.std.proofs.Common.{sym, subst, ◌∙◌}
use Rattle.std.specs.Prelude.{IsSome}
use Rattle.hall_core.specs.Hall.{machine, mark_at}
use Rattle.thread_step.proofs.SlotTurn.{case_after, ended_turn, idle_turn, in_run, its_slot, its_stand, marks_after, none_ending, ran_told, some_ending, stands_first, waiting_marked, waiting_told}
use Rattle.thread_step.proofs.alone.turn_alone.Goals as goal

pub returns-then-has_ended-clause-serial : goal.returns-then-has_ended-clause-serial
returns-then-has_ended-clause-serial g c = λ reach run right at told. let e = some_ending (machine c.args.hall.now).ending (sym c.has_ended.ensures ∙ c.if-has_ended.true) in ended_turn c.args.hall.now c.args.rules reach run c.args.guest.now e.0 at e.1

pub returns-in_default-clause-serial : goal.returns-in_default-clause-serial
returns-in_default-clause-serial g c = λ reach run right at told. idle_turn c.args.hall.now c.args.rules reach run c.args.guest.now at (none_ending (machine c.args.hall.now).ending (sym c.has_ended.ensures ∙ c.if-has_ended.false)) (sym c.thread_in.ensures ∙ c.in_default.is)

pub returns-clause-case : goal.returns-clause-case
returns-clause-case g c =
    let h = c.args.hall.now in
    let going = none_ending (machine h).ending (sym c.has_ended.ensures ∙ c.if-has_ended.false) in
    let d = its_stand h c.args.guest.now c.in-Some.t c.requires.ready going (sym c.thread_in.ensures ∙ c.in-Some.is) in
    case_after c.turn_of.result h c.turn_of.new.hall c.in-Some.t c.args.rules c.args.guest.now.own c.turn_of.new.guest.own c.turn_of.new.guest.table.items d.0 (c.turn_of.ensures.turn d.0 d.1)

pub returns-clause-serial : goal.returns-clause-serial
returns-clause-serial g c = λ reach run right at told.
    let h = c.args.hall.now in
    let going = none_ending (machine h).ending (sym c.has_ended.ensures ∙ c.if-has_ended.false) in
    let lives = sym c.thread_in.ensures ∙ c.in-Some.is in
    let d = its_stand h c.args.guest.now c.in-Some.t c.requires.ready going lives in
    in_run c.turn_of.result h c.turn_of.new.hall c.in-Some.t c.args.rules reach run c.args.guest.now c.turn_of.new.guest d.0 at c.requires.ready.stands.low c.turn_of.ensures.slot going lives told (stands_first h c.args.guest.now c.in-Some.t d.0 (its_slot h c.args.guest.now c.in-Some.t c.requires.ready going lives) told d.1) right (c.turn_of.ensures.turn d.0 d.1)

pub returns-clause-told : goal.returns-clause-told
returns-clause-told g c =
    let h = c.args.hall.now in
    let going = none_ending (machine h).ending (sym c.has_ended.ensures ∙ c.if-has_ended.false) in
    let d = its_stand h c.args.guest.now c.in-Some.t c.requires.ready going (sym c.thread_in.ensures ∙ c.in-Some.is) in
    let q = c.turn_of.ensures.turn d.0 d.1 in
    (ran_told c.turn_of.result h c.turn_of.new.hall c.in-Some.t c.args.rules c.args.guest.now.own c.turn_of.new.guest.own c.turn_of.new.guest.table.items d.0 q, waiting_told c.turn_of.result h c.turn_of.new.hall c.in-Some.t c.args.rules c.args.guest.now.own c.turn_of.new.guest.own c.turn_of.new.guest.table.items d.0 q)

pub returns-clause-marked : goal.returns-clause-marked
returns-clause-marked g c = λ is.
    let h = c.args.hall.now in
    let going = none_ending (machine h).ending (sym c.has_ended.ensures ∙ c.if-has_ended.false) in
    let lives = sym c.thread_in.ensures ∙ c.in-Some.is in
    let d = its_stand h c.args.guest.now c.in-Some.t c.requires.ready going lives in
    subst (λ s. IsSome (mark_at c.turn_of.new.hall s)) (its_slot h c.args.guest.now c.in-Some.t c.requires.ready going lives) (waiting_marked c.turn_of.result h c.turn_of.new.hall c.in-Some.t c.args.rules c.args.guest.now.own c.turn_of.new.guest.own c.turn_of.new.guest.table.items d.0 (c.turn_of.ensures.turn d.0 d.1) is)

pub returns-clause-marks : goal.returns-clause-marks
returns-clause-marks g c = λ s ne.
    let h = c.args.hall.now in
    let going = none_ending (machine h).ending (sym c.has_ended.ensures ∙ c.if-has_ended.false) in
    let lives = sym c.thread_in.ensures ∙ c.in-Some.is in
    let d = its_stand h c.args.guest.now c.in-Some.t c.requires.ready going lives in
    marks_after c.turn_of.result h c.turn_of.new.hall c.in-Some.t c.args.rules c.args.guest.now.own c.turn_of.new.guest.own c.turn_of.new.guest.table.items d.0 (c.turn_of.ensures.turn d.0 d.1) s (λ e. ne (e ∙ its_slot h c.args.guest.now c.in-Some.t c.requires.ready going lives))
