use Rattle.std.proofs.Common.{◌<◌, refl, sym, subst, ◌∙◌}
use Rattle.turn_lock.specs.Words.{pass_number}
use Rattle.thread_step.specs.Context.{GoesOn, Wrote, cost_in, wait_in}
use Rattle.thread_step.proofs.Causes.{step_budget}
use Rattle.thread_step.proofs.Furthering.{further_by, spends_wrote, taken_as}
use Rattle.thread_step.proofs.Rising.{step_rises}
use Rattle.thread_step.proofs.Staying.{runs_on}
use Rattle.thread_step.proofs.worker.step.Goals as goal

pub step_in-stepped-requires-clause-runs : goal.step_in-stepped-requires-clause-runs
step_in-stepped-requires-clause-runs g c = λ κs within on.
    let w = c.requires.works in
    let goes = subst (GoesOn (pass_number c.args.pass) w.0) (sym (c.hall.ensures.now ∙ c.value.ensures.value)) (c.take-held.ensures.goes w.0 w.1.saw) in
    let r = c.go_ahead.ensures.runs w.0 c.args.t w.1.runs in
    runs_on (pass_number c.args.pass) (subst (λ z. z < 64) (sym w.1.number) w.1.runs.low) w.0 c.hall.result.now goes c.args.t c.go_ahead.new.guest (c.go_ahead.ensures.slot ∙ sym w.1.number) on r

pub give-requires-clause-wrote : goal.give-requires-clause-wrote
give-requires-clause-wrote g c =
    let w = c.requires.works in
    (c.hall.result.now, taken_as c.take-held.result _ c.hall.result.now refl (c.hall.ensures.now ∙ c.value.ensures.value) c.take-held.ensures.taken, subst (λ n. Wrote n c.hall.result.now c.step_in-stepped.new.hall) (sym c.take-held.ensures.number) (spends_wrote (pass_number c.args.pass) c.args.t (cost_in c.step_in-stepped.result) (wait_in c.step_in-stepped.result) c.hall.result.now c.step_in-stepped.new.hall (w.1.runs.slot ∙ sym w.1.number) c.step_in-stepped.ensures.case c.step_in-stepped.ensures.spends))

pub returns-clause-stepped : goal.returns-clause-stepped
returns-clause-stepped g c = λ h w.
    let goes = subst (GoesOn (pass_number c.args.pass) h) (sym (c.hall.ensures.now ∙ c.value.ensures.value)) (c.take-held.ensures.goes h w.saw) in
    let slot = c.step_in-stepped.ensures.slot ∙ c.go_ahead.ensures.slot in
    let number = w.number ∙ sym slot in
    record {
      hall = c.step_in-stepped.new.hall;
      saw = c.give.ensures.saw;
      stepped = c.step_in-stepped.ensures.stepped;
      further = further_by _ c.args.t (cost_in c.step_in-stepped.result) (wait_in c.step_in-stepped.result) h c.hall.result.now c.step_in-stepped.new.hall (w.runs.slot ∙ sym slot) (subst (λ s. GoesOn s h c.hall.result.now) number goes) c.step_in-stepped.ensures.case c.step_in-stepped.ensures.spends;
    }

pub returns-clause-count : goal.returns-clause-count
returns-clause-count g c = λ h n w saw.
    let goes = subst (GoesOn (pass_number c.args.pass) h) (sym (c.hall.ensures.now ∙ c.value.ensures.value)) (c.take-held.ensures.goes h w.saw) in
    step_rises c.give.result c.args.guest.now.slot c.args.t (cost_in c.step_in-stepped.result) (wait_in c.step_in-stepped.result) _ _ _ c.args.guest.now.own.k c.go_ahead.new.guest.own.k c.step_in-stepped.new.guest.own.k h c.hall.result.now c.step_in-stepped.new.hall n w.runs.slot (subst (λ s. GoesOn s h c.hall.result.now) w.number goes) c.step_in-stepped.ensures.case c.step_in-stepped.ensures.spends c.give.ensures.saw saw c.go_ahead.ensures.count c.step_in-stepped.ensures.count

pub returns-clause-budget : goal.returns-clause-budget
returns-clause-budget g c = λ h n w saw.
    let goes = subst (GoesOn (pass_number c.args.pass) h) (sym (c.hall.ensures.now ∙ c.value.ensures.value)) (c.take-held.ensures.goes h w.saw) in
    step_budget c.step_in-stepped.result c.give.result c.args.guest.now.slot c.args.t (cost_in c.step_in-stepped.result) (wait_in c.step_in-stepped.result) h c.hall.result.now c.step_in-stepped.new.hall n w.runs.slot (subst (λ s. GoesOn s h c.hall.result.now) w.number goes) c.step_in-stepped.ensures.spends c.give.ensures.saw saw c.step_in-stepped.ensures.budget
