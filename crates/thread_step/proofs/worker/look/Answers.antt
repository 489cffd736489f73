use Rattle.std.proofs.Common.{refl, sym, subst, ◌∙◌}
use Rattle.turn_lock.specs.Words.{pass_number}
use Rattle.thread_step.specs.Context.{GoesOn}
use Rattle.thread_step.proofs.Furthering.{taken_as, wrote_none}
use Rattle.thread_step.proofs.Staying.{ready_after}
use Rattle.thread_step.proofs.worker.look.Goals as goal

pub look_at-looked-requires : goal.look_at-looked-requires
look_at-looked-requires g c =
    let w = c.requires.holds in
    let goes = subst (GoesOn (pass_number c.args.pass) w.0) (sym (c.hall.ensures.now ∙ c.value.ensures.value)) (c.take-held.ensures.goes w.0 w.1.saw) in
    record { ready = ready_after (pass_number c.args.pass) w.0 c.hall.result.now c.args.guest.now (sym w.1.number) goes w.1.ready }

pub give-requires-clause-wrote : goal.give-requires-clause-wrote
give-requires-clause-wrote g c = (c.hall.result.now, taken_as c.take-held.result _ c.hall.result.now refl (c.hall.ensures.now ∙ c.value.ensures.value) c.take-held.ensures.taken, wrote_none _ c.hall.result.now)

pub returns-clause-looked : goal.returns-clause-looked
returns-clause-looked g c = λ h w.
    let goes = subst (GoesOn (pass_number c.args.pass) h) (sym (c.hall.ensures.now ∙ c.value.ensures.value)) (c.take-held.ensures.goes h w.saw) in
    record {
      hall = c.hall.result.now;
      saw = c.give.ensures.saw;
      goes = subst (λ s. GoesOn s h c.hall.result.now) w.number goes;
      ready = ready_after (pass_number c.args.pass) h c.hall.result.now c.args.guest.now (sym w.number) goes w.ready;
      looked = c.look_at-looked.ensures.looked;
    }
