use Rattle.std.proofs.Common.{◌<◌, refl, sym, subst, arith, ◌∙◌}
use Rattle.turn_lock.specs.Words.{pass_number}
use Rattle.thread_step.specs.Context.{GoesOn, Wrote}
use Rattle.thread_step.proofs.Causes.{end_cause, end_costs, lived_by}
use Rattle.thread_step.proofs.Furthering.{further_by, further_more, spends_wrote, taken_as}
use Rattle.thread_step.proofs.Rising.{goes_steps, seen_steps, spends_steps}
use Rattle.thread_step.proofs.Staying.{runs_on}
use Rattle.thread_step.proofs.worker.finish.Goals as goal

pub grow_older-turned-requires-clause-runs : goal.grow_older-turned-requires-clause-runs
grow_older-turned-requires-clause-runs g c = λ on.
    let w = c.requires.works in
    let goes = subst (GoesOn (pass_number c.args.pass) w.0) (sym (c.hall.ensures.now ∙ c.value.ensures.value)) (c.take-held.ensures.goes w.0 w.1.saw) in
    runs_on (pass_number c.args.pass) (subst (λ z. z < 64) (sym w.1.number) w.1.runs.low) w.0 c.hall.result.now goes c.args.t c.args.guest.now (sym w.1.number) on w.1.runs

pub give-requires-clause-wrote : goal.give-requires-clause-wrote
give-requires-clause-wrote g c =
    let w = c.requires.works in
    (c.hall.result.now, taken_as c.take-held.result _ c.hall.result.now refl (c.hall.ensures.now ∙ c.value.ensures.value) c.take-held.ensures.taken, subst (λ n. Wrote n c.hall.result.now c.grow_older-turned.new.hall) (sym c.take-held.ensures.number) (spends_wrote (pass_number c.args.pass) c.args.t 0 0 c.hall.result.now c.grow_older-turned.new.hall (w.1.runs.slot ∙ sym w.1.number) c.grow_older-turned.ensures.case c.grow_older-turned.ensures.spends))

pub returns-clause-left : goal.returns-clause-left
returns-clause-left g c = λ h w.
    let new = c.grow_older-turned.new.hall in
    let slot = c.grow_older-turned.ensures.slot in
    let number = w.number ∙ sym slot in
    let goes = subst (λ s. GoesOn s h c.hall.result.now) number (subst (GoesOn (pass_number c.args.pass) h) (sym (c.hall.ensures.now ∙ c.value.ensures.value)) (c.take-held.ensures.goes h w.saw)) in
    let further = further_more _ c.args.t 0 0 0 1 h new (omega arith) (omega arith) (further_by _ c.args.t 0 0 h c.hall.result.now new (w.runs.slot ∙ sym slot) goes c.grow_older-turned.ensures.case c.grow_older-turned.ensures.spends) in
    record {
      hall = new;
      saw = c.give.ensures.saw;
      left = c.grow_older-turned.ensures.left;
      slot = w.runs.slot ∙ sym slot;
      further = further;
      cause = end_cause c.grow_older-turned.result c.args.t h new c.grow_older-turned.new.guest (lived_by _ c.args.t 0 1 c.args.pass h new c.args.guest.now (sym slot) w.saw w.runs further) (end_costs _ c.args.t 0 h c.hall.result.now new (w.runs.slot ∙ sym slot) goes c.grow_older-turned.ensures.spends) c.grow_older-turned.ensures.ends;
    }

pub returns-clause-steps : goal.returns-clause-steps
returns-clause-steps g c = λ h n w saw.
    let goes = subst (GoesOn (pass_number c.args.pass) h) (sym (c.hall.ensures.now ∙ c.value.ensures.value)) (c.take-held.ensures.goes h w.saw) in
    let s = c.args.guest.now.slot in
    let seen = seen_steps c.give.result s c.grow_older-turned.new.hall n c.give.ensures.saw saw in
    let own = spends_steps s c.args.t 0 0 c.hall.result.now c.grow_older-turned.new.hall w.runs.slot c.grow_older-turned.ensures.case c.grow_older-turned.ensures.spends in
    let others = goes_steps s h c.hall.result.now (subst (λ z. GoesOn z h c.hall.result.now) w.number goes) in
    let none = c.grow_older-turned.ensures.steps in
    omega (arith, seen, own, others, none)
