use Rattle.std.proofs.Common.{Ok, refl, sym, subst, arith, ◌∙◌}
use Rattle.thread_step.specs.Turned.{EntryIs, Stayed, Went}
use Rattle.thread_step.proofs.Budget.{nothing_costs}
use Rattle.thread_step.proofs.Stepping.{breaks, goes, stayed_empty, stayed_spends, steps_on, waits, went_costs, went_spends}
use Rattle.thread_step.proofs.Whole.{none_end}
use Rattle.thread_step.proofs.worker.step_in.Goals as goal

pub returns-in-Err-clause-stepped : goal.returns-in-Err-clause-stepped
returns-in-Err-clause-stepped g c =
    let r = c.requires.runs (none_end _ (sym c.has_ended.ensures ∙ c.if-has_ended.false)) in
    breaks c.args.hall.now c.entry-made.new.hall c.args.t c.args.guest.now _ r refl refl (c.in-Err.ensures.entry r.stand r.ready)

pub returns-in-Ok-true-clause-spends : goal.returns-in-Ok-true-clause-spends
returns-in-Ok-true-clause-spends g c =
    let r = c.requires.runs (none_end _ (sym c.has_ended.ensures ∙ c.if-has_ended.false)) in
    let q : Stayed c.args.hall.now c.entry-made.new.hall c.args.t c.args.guest.now.own c.entry-made.new.own c.entry-made.new.table.items r.stand = subst (λ b. EntryIs (Ok b) c.args.hall.now c.entry-made.new.hall c.args.t c.args.guest.now.own c.entry-made.new.own c.entry-made.new.table.items r.stand) c.in-Ok-true.field-0-test (c.in-Ok-true.ensures.entry r.stand r.ready) in
    stayed_spends c.args.hall.now c.entry-made.new.hall c.args.t c.args.guest.now.own c.entry-made.new.own c.entry-made.new.table.items r.stand q

pub returns-in-Ok-true-clause-stepped : goal.returns-in-Ok-true-clause-stepped
returns-in-Ok-true-clause-stepped g c =
    let r = c.requires.runs (none_end _ (sym c.has_ended.ensures ∙ c.if-has_ended.false)) in
    let q : Stayed c.args.hall.now c.entry-made.new.hall c.args.t c.args.guest.now.own c.entry-made.new.own c.entry-made.new.table.items r.stand = subst (λ b. EntryIs (Ok b) c.args.hall.now c.entry-made.new.hall c.args.t c.args.guest.now.own c.entry-made.new.own c.entry-made.new.table.items r.stand) c.in-Ok-true.field-0-test (c.in-Ok-true.ensures.entry r.stand r.ready) in
    (waits c.args.hall.now c.entry-made.new.hall c.args.t c.args.guest.now _ r refl refl q, q.one.told, q.stuck, stayed_empty c.args.hall.now c.entry-made.new.hall c.args.t c.args.guest.now.slot c.args.guest.now.own c.entry-made.new.own c.entry-made.new.table.items r.stand r.slot q)

pub returns-then-has_ended-2-clause-spends : goal.returns-then-has_ended-2-clause-spends
returns-then-has_ended-2-clause-spends g c =
    let r = c.requires.runs (none_end _ (sym c.has_ended.ensures ∙ c.if-has_ended.false)) in
    let q : Went c.args.hall.now c.entry-made.new.hall c.args.t c.args.guest.now.own c.entry-made.new.own c.entry-made.new.table.items r.stand = subst (λ b. EntryIs (Ok b) c.args.hall.now c.entry-made.new.hall c.args.t c.args.guest.now.own c.entry-made.new.own c.entry-made.new.table.items r.stand) c.in-Ok-false.field-0-test (c.in-Ok-false.ensures.entry r.stand r.ready) in
    went_spends c.args.hall.now c.entry-made.new.hall c.args.t c.args.guest.now.own c.entry-made.new.own c.entry-made.new.table.items r.stand q

pub returns-then-is_live-clause-spends : goal.returns-then-is_live-clause-spends
returns-then-is_live-clause-spends g c =
    let r = c.requires.runs (none_end _ (sym c.has_ended.ensures ∙ c.if-has_ended.false)) in
    let q : Went c.args.hall.now c.entry-made.new.hall c.args.t c.args.guest.now.own c.entry-made.new.own c.entry-made.new.table.items r.stand = subst (λ b. EntryIs (Ok b) c.args.hall.now c.entry-made.new.hall c.args.t c.args.guest.now.own c.entry-made.new.own c.entry-made.new.table.items r.stand) c.in-Ok-false.field-0-test (c.in-Ok-false.ensures.entry r.stand r.ready) in
    went_spends c.args.hall.now c.entry-made.new.hall c.args.t c.args.guest.now.own c.entry-made.new.own c.entry-made.new.table.items r.stand q

pub returns-then-is_live-clause-stepped : goal.returns-then-is_live-clause-stepped
returns-then-is_live-clause-stepped g c =
    let r = c.requires.runs (none_end _ (sym c.has_ended.ensures ∙ c.if-has_ended.false)) in
    let q : Went c.args.hall.now c.entry-made.new.hall c.args.t c.args.guest.now.own c.entry-made.new.own c.entry-made.new.table.items r.stand = subst (λ b. EntryIs (Ok b) c.args.hall.now c.entry-made.new.hall c.args.t c.args.guest.now.own c.entry-made.new.own c.entry-made.new.table.items r.stand) c.in-Ok-false.field-0-test (c.in-Ok-false.ensures.entry r.stand r.ready) in
    steps_on c.args.hall.now c.entry-made.new.hall c.args.t c.args.guest.now _ r refl refl q (none_end _ (sym c.has_ended-in-Ok-false.ensures ∙ c.if-has_ended-2.false)) (sym c.is_live.ensures ∙ c.if-is_live.true)

pub returns-else-is_live-clause-spends : goal.returns-else-is_live-clause-spends
returns-else-is_live-clause-spends g c =
    let r = c.requires.runs (none_end _ (sym c.has_ended.ensures ∙ c.if-has_ended.false)) in
    let q : Went c.args.hall.now c.entry-made.new.hall c.args.t c.args.guest.now.own c.entry-made.new.own c.entry-made.new.table.items r.stand = subst (λ b. EntryIs (Ok b) c.args.hall.now c.entry-made.new.hall c.args.t c.args.guest.now.own c.entry-made.new.own c.entry-made.new.table.items r.stand) c.in-Ok-false.field-0-test (c.in-Ok-false.ensures.entry r.stand r.ready) in
    went_spends c.args.hall.now c.entry-made.new.hall c.args.t c.args.guest.now.own c.entry-made.new.own c.entry-made.new.table.items r.stand q

pub returns-else-is_live-clause-stepped : goal.returns-else-is_live-clause-stepped
returns-else-is_live-clause-stepped g c =
    let r = c.requires.runs (none_end _ (sym c.has_ended.ensures ∙ c.if-has_ended.false)) in
    let q : Went c.args.hall.now c.entry-made.new.hall c.args.t c.args.guest.now.own c.entry-made.new.own c.entry-made.new.table.items r.stand = subst (λ b. EntryIs (Ok b) c.args.hall.now c.entry-made.new.hall c.args.t c.args.guest.now.own c.entry-made.new.own c.entry-made.new.table.items r.stand) c.in-Ok-false.field-0-test (c.in-Ok-false.ensures.entry r.stand r.ready) in
    let going = none_end _ (sym c.has_ended-in-Ok-false.ensures ∙ c.if-has_ended-2.false) in
    let dead = sym c.is_live.ensures ∙ c.if-is_live.false in
    (going, dead, goes c.args.hall.now c.entry-made.new.hall c.args.t c.args.guest.now _ r refl refl q c.facts.ensures.gated c.facts-2.ensures.gated going dead)

pub returns-in-Ok-true-clause-budget : goal.returns-in-Ok-true-clause-budget
returns-in-Ok-true-clause-budget g c =
    let r = c.requires.runs (none_end _ (sym c.has_ended.ensures ∙ c.if-has_ended.false)) in
    let q : Stayed c.args.hall.now c.entry-made.new.hall c.args.t c.args.guest.now.own c.entry-made.new.own c.entry-made.new.table.items r.stand = subst (λ b. EntryIs (Ok b) c.args.hall.now c.entry-made.new.hall c.args.t c.args.guest.now.own c.entry-made.new.own c.entry-made.new.table.items r.stand) c.in-Ok-true.field-0-test (c.in-Ok-true.ensures.entry r.stand r.ready) in
    let same = nothing_costs c.args.t 1 c.args.hall.now.journal c.entry-made.new.hall.journal (stayed_spends c.args.hall.now c.entry-made.new.hall c.args.t c.args.guest.now.own c.entry-made.new.own c.entry-made.new.table.items r.stand q) in
    omega (arith, same)

pub returns-then-is_live-clause-budget : goal.returns-then-is_live-clause-budget
returns-then-is_live-clause-budget g c =
    let r = c.requires.runs (none_end _ (sym c.has_ended.ensures ∙ c.if-has_ended.false)) in
    let q : Went c.args.hall.now c.entry-made.new.hall c.args.t c.args.guest.now.own c.entry-made.new.own c.entry-made.new.table.items r.stand = subst (λ b. EntryIs (Ok b) c.args.hall.now c.entry-made.new.hall c.args.t c.args.guest.now.own c.entry-made.new.own c.entry-made.new.table.items r.stand) c.in-Ok-false.field-0-test (c.in-Ok-false.ensures.entry r.stand r.ready) in
    went_costs c.args.hall.now c.entry-made.new.hall c.args.t c.args.guest.now.own c.entry-made.new.own c.entry-made.new.table.items r.stand q (none_end _ (sym c.has_ended-in-Ok-false.ensures ∙ c.if-has_ended-2.false))
