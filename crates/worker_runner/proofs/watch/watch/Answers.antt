use Rattle.std.proofs.Common.{◌++◌, refl, sym, subst, ap, ◌∙◌}
use Rattle.std.proofs.lemmas.List.{append_assoc}
use Rattle.turn_lock.specs.Words.{pass_number}
use Rattle.thread_step.specs.Context.{GoesOn, Wrote}
use Rattle.thread_step.proofs.Furthering.{taken_as}
use Rattle.worker_runner.proofs.Growing.{grew, longer}
use Rattle.worker_runner.proofs.watch.watch.Goals as goal

pub watch_in-over-requires : goal.watch_in-over-requires
watch_in-over-requires g c =
    let w = c.requires.saw in
    let goes = subst (GoesOn (pass_number c.args.pass) w.0) (sym (c.hall.ensures.now ∙ c.value.ensures.value)) (c.take-held.ensures.goes w.0 w.1) in
    let l = longer w.0 c.hall.result.now c.args.place.now (grew w.0 c.hall.result.now goes.entries goes.case goes.journal goes.before goes.after) w.2 in
    record { written = (w.0, w.2, l.0, l.1) }

pub give-requires-clause-wrote : goal.give-requires-clause-wrote
give-requires-clause-wrote g c = (c.hall.result.now, taken_as c.take-held.result _ c.hall.result.now refl (c.hall.ensures.now ∙ c.value.ensures.value) c.take-held.ensures.taken, subst (λ n. Wrote n c.hall.result.now c.watch_in-over.new.hall) (sym (c.take-held.ensures.number ∙ c.requires.number)) c.watch_in-over.ensures.wrote)

pub returns-clause-watched : goal.returns-clause-watched
returns-clause-watched g c = λ h saw place.
    let goes = subst (GoesOn (pass_number c.args.pass) h) (sym (c.hall.ensures.now ∙ c.value.ensures.value)) (c.take-held.ensures.goes h saw) in
    let w = c.watch_in-over.ensures.wrote in
    let n = c.watch_in-over.new.hall in
    record {
      hall = n;
      saw = c.give.ensures.saw;
      case = w.case ∙ goes.case;
      grew = grew h n (goes.entries ++ w.adds.0) (w.case ∙ goes.case) (w.adds.1 ∙ ap (λ j. j ++ w.adds.0) goes.journal ∙ append_assoc h.journal goes.entries w.adds.0) saw.leads c.give.ensures.saw.leads;
      over = c.watch_in-over.ensures.over h place;
      place = c.watch_in-over.ensures.place;
    }
